-- A source comes to one list of tokens, or to one first fault.
use Rattle.std.proofs.Common.{◌≡◌, ℕ, ◌+◌, List, [], Option, Some, None, sym, ap, ◌∙◌, subst}
use Rattle.std.specs.Prelude.{Result, Ok, Err}
use Rattle.c_syntax.specs.declared.token.Token.{Token}
use Rattle.c_lexer.specs.declared.fault.LexFault.{LexFault}
use Rattle.c_macro.specs.declared.fault.MacroFault.{MacroFault}
use Rattle.c_macro.specs.declared.fault.MacroFault.TheVariants.{Lex}
use Rattle.c_macro.specs.Lines.{first_line, open_comment}
use Rattle.c_macro.specs.Macros.{Output}
use Rattle.c_macro.specs.Expands.{State, at_start, LineDoes, AfterLine, line_of, after_line, ComesTo, AtEnd, GoesOn, IsOpen, Stops, nothing_yet, Outcome}
use Rattle.c_macro.proofs.OneLine.{line_one}

-- one state and output after a line
pub record IsSameAfter (s q : State) (out more : Output) : Type 0 where
  pub states : s ≡ q
  pub outs : out ≡ more

line_leaves : (s : State) (out : Output) (at : ℕ) (line : List ℕ) (comment : Option LexFault) (a b : State) (x y : Output)
    → LineDoes s out at line comment (Ok (a, x)) → LineDoes s out at line comment (Ok (b, y)) → IsSameAfter a b x y
line_leaves s out at line comment a b x y g h =
    let same = line_one s out at line comment (Ok (a, x)) (Ok (b, y)) g h in
    let pairs : ◌≡◌ {A = State × Output} (a, x) (b, y) = cc in
    record { states = ap (λ p. p.0) pairs; outs = ap (λ p. p.1) pairs }

line_errs : (s : State) (out : Output) (at : ℕ) (line : List ℕ) (comment : Option LexFault) (f g : MacroFault)
    → LineDoes s out at line comment (Err f) → LineDoes s out at line comment (Err g) → f ≡ g
line_errs s out at line comment f g a b = let same = line_one s out at line comment (Err f) (Err g) a b in cc

line_not_both : (s : State) (out : Output) (at : ℕ) (line : List ℕ) (comment : Option LexFault) (a : State) (x : Output) (f : MacroFault)
    → LineDoes s out at line comment (Ok (a, x)) → LineDoes s out at line comment (Err f) → ⊥
line_not_both s out at line comment a x f g h = let same = line_one s out at line comment (Ok (a, x)) (Err f) g h in cc

none_open : (at : ℕ) (text : List ℕ) (fault : LexFault) → text ≡ [] → open_comment at (first_line text) ≡ Some fault → ⊥
none_open at text fault e is = let k = sym (ap (λ t. open_comment at (first_line t)) e) ∙ is in cc

comment_at : (s : State) (out : Output) (at : ℕ) (line : List ℕ) (comment other : Option LexFault) (r : AfterLine) → comment ≡ other → LineDoes s out at line comment r → LineDoes s out at line other r
comment_at s out at line comment other r e g = subst (λ c. LineDoes s out at line c r) e g

comes_at : (s q : State) (out more : Output) (at : ℕ) (text : List ℕ) (r : Result (List Token) MacroFault) → IsSameAfter s q out more → ComesTo s out at text r → ComesTo q more at text r
comes_at s q out more at text r same c = subst (λ o. ComesTo q o at text r) same.outs (subst (λ z. ComesTo z out at text r) same.states c)

pub comes_one : (s : State) (out : Output) (at : ℕ) (text : List ℕ) (a b : Result (List Token) MacroFault) → ComesTo s out at text a → ComesTo s out at text b → a ≡ b
comes_one s out at text a b (AtEnd e is) (AtEnd e' is') = sym is ∙ is'
comes_one s out at text a b (AtEnd e is) (GoesOn n' z' next' more' line' rest') = absurd (n' e)
comes_one s out at text a b (AtEnd e is) (IsOpen fault' o' next' more' line') = absurd (none_open at text fault' e o')
comes_one s out at text a b (AtEnd e is) (Stops n' fault' line') = absurd (n' e)
comes_one s out at text a b (GoesOn n z next more line rest) (AtEnd e' is') = absurd (n e')
comes_one s out at text a b (GoesOn n z next more line rest) (GoesOn n' z' next' more' line' rest') =
    let same = line_leaves s out at (line_of text) None next' next more' more line' line in
    comes_one next more (at + (first_line text).bytes) (after_line text) a b rest (comes_at next' next more' more (at + (first_line text).bytes) (after_line text) b same rest')
comes_one s out at text a b (GoesOn n z next more line rest) (IsOpen fault' o' next' more' line') = absurd (let k = sym z ∙ o' in cc)
comes_one s out at text a b (GoesOn n z next more line rest) (Stops n' fault' line') =
    absurd (line_not_both s out at (line_of text) None next more fault' line (comment_at s out at (line_of text) (open_comment at (first_line text)) None (Err fault') z line'))
comes_one s out at text a b (IsOpen fault o next more line) (AtEnd e' is') = absurd (none_open at text fault e' o)
comes_one s out at text a b (IsOpen fault o next more line) (GoesOn n' z' next' more' line' rest') = absurd (let k = sym z' ∙ o in cc)
comes_one s out at text a b (IsOpen fault o next more line) (IsOpen fault' o' next' more' line') =
    let k = sym o ∙ o' in
    let same : fault ≡ fault' = cc in
    ap (λ f. Err (Lex f)) same
comes_one s out at text a b (IsOpen fault o next more line) (Stops n' fault' line') =
    absurd (line_not_both s out at (line_of text) (Some fault) next more fault' line (comment_at s out at (line_of text) (open_comment at (first_line text)) (Some fault) (Err fault') o line'))
comes_one s out at text a b (Stops n fault line) (AtEnd e' is') = absurd (n e')
comes_one s out at text a b (Stops n fault line) (GoesOn n' z' next' more' line' rest') =
    absurd (line_not_both s out at (line_of text) None next' more' fault line' (comment_at s out at (line_of text) (open_comment at (first_line text)) None (Err fault) z' line))
comes_one s out at text a b (Stops n fault line) (IsOpen fault' o' next' more' line') =
    absurd (line_not_both s out at (line_of text) (Some fault') next' more' fault line' (comment_at s out at (line_of text) (open_comment at (first_line text)) (Some fault') (Err fault) o' line))
comes_one s out at text a b (Stops n fault line) (Stops n' fault' line') =
    ap Err (line_errs s out at (line_of text) (open_comment at (first_line text)) fault fault' line line')

pub outcome_one : (text : List ℕ) (a b : Result (List Token) MacroFault) → Outcome text a → Outcome text b → a ≡ b
outcome_one text a b g h = comes_one at_start nothing_yet 0 text a b g h
