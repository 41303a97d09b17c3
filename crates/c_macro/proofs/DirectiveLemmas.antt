-- Lines that are no directives, and texts without a name in front.
use Rattle.std.proofs.Common.{◌≢◌, ℕ, List, ◌∷◌, subst}
use Rattle.word_base.specs.Name.{IsName, IsNamePart}
use Rattle.c_lexer.specs.Front.{IsFrontRun}
use Rattle.c_macro.specs.Lines.{IsAfterBlanks}
use Rattle.c_macro.specs.Directives.{IsOther, IsNamed}
use Rattle.c_macro.proofs.OneDirective.{behind_one, run_one}

-- behind the blanks of a line there is no `#`
pub other_line : (line front : List ℕ) → IsAfterBlanks line front → ((rest : List ℕ) → front ≢ 35 ∷ rest) → IsOther line
other_line line front blanks none = record { by = λ behind first. none behind (behind_one line front (35 ∷ behind) blanks first) }

-- the run behind the blanks of a text is no name
pub no_name : (text after run rest : List ℕ) → IsAfterBlanks text after → IsFrontRun IsNamePart after run rest → (IsName run → ⊥)
    → (at : ℕ) (name behind : List ℕ) → IsNamed text at name behind → ⊥
no_name text after run rest blanks front none at name behind named =
    let same = behind_one text named.after after named.blanks blanks in
    let runs = run_one IsNamePart after name behind run rest (subst (λ t. IsFrontRun IsNamePart t name behind) same named.run) front in
    none (subst IsName runs.0 named.is)
