-- A directive stands in a line in one way.
use Rattle.std.proofs.Common.{◌≡◌, ℕ, List, [], ◌∷◌, ◌++◌, length, refl, sym, ap, ◌∙◌, subst, arith, append_assoc}
use Rattle.std.specs.List.{concat, AllByRecursion}
use Rattle.word_base.specs.Name.{IsNamePart}
use Rattle.c_syntax.specs.Lexes.{IsBlank}
use Rattle.c_syntax.proofs.Pieces.{blank_one}
use Rattle.c_spellings.specs.Front.{HasNoBlank}
use Rattle.c_spellings.proofs.ListLemmas.{first_is, rest_is}
use Rattle.c_lexer.specs.Front.{IsFrontRun}
use Rattle.c_macro.specs.Lines.{IsAfterBlanks}
use Rattle.c_macro.specs.Directives.{IsDirective, IsNamed, IsLoneName}

-- ---- blanks

blanks_one : (xs ys : List (List ℕ)) (r q : List ℕ) → AllByRecursion IsBlank xs → AllByRecursion IsBlank ys → HasNoBlank r → HasNoBlank q
    → concat xs ++ r ≡ concat ys ++ q → r ≡ q
blanks_one [] [] r q g h n m e = e
blanks_one [] (b ∷ ys) r q g h n m e = absurd (n b (concat ys ++ q) (e ∙ append_assoc b (concat ys) q) h.0)
blanks_one (a ∷ xs) [] r q g h n m e = absurd (m a (concat xs ++ r) (sym e ∙ append_assoc a (concat xs) r) g.0)
blanks_one (a ∷ xs) (b ∷ ys) r q g h n m e =
    let k = sym (append_assoc a (concat xs) r) ∙ e ∙ append_assoc b (concat ys) q in
    blanks_one xs ys r q g.1 h.1 n m (blank_one a (concat xs ++ r) b (concat ys ++ q) g.0 h.0 k).1

pub behind_one : (text r q : List ℕ) → IsAfterBlanks text r → IsAfterBlanks text q → r ≡ q
behind_one text r q g h = blanks_one g.blanks h.blanks r q g.are h.are g.all h.all (sym g.cut ∙ h.cut)

-- ---- runs

runs_one : (Part : ℕ → Type 0) (xs ys r q : List ℕ) → AllByRecursion Part xs → AllByRecursion Part ys
    → ((c : ℕ) (following : List ℕ) → r ≡ c ∷ following → Part c → ⊥) → ((c : ℕ) (following : List ℕ) → q ≡ c ∷ following → Part c → ⊥)
    → xs ++ r ≡ ys ++ q → (xs ≡ ys) × (r ≡ q)
runs_one Part [] [] r q g h n m e = (refl, e)
runs_one Part [] (y ∷ ys) r q g h n m e = absurd (n y (ys ++ q) e h.0)
runs_one Part (x ∷ xs) [] r q g h n m e = absurd (m x (xs ++ r) (sym e) g.0)
runs_one Part (x ∷ xs) (y ∷ ys) r q g h n m e =
    let f = runs_one Part xs ys r q g.1 h.1 n m (rest_is e) in
    let same : x ≡ y = first_is e in
    (cc (f.0, same), f.1)

pub run_one : (Part : ℕ → Type 0) (text run rest run' rest' : List ℕ) → IsFrontRun Part text run rest → IsFrontRun Part text run' rest' → (run ≡ run') × (rest ≡ rest')
run_one Part text run rest run' rest' g h = runs_one Part run run' rest rest' g.parts h.parts g.ends h.ends (sym g.front ∙ h.front)

-- ---- directives

pub record IsSameDirective (hash hash' : ℕ) (word word' : List ℕ) (at at' : ℕ) (rest rest' : List ℕ) : Type 0 where
  pub same_hash : hash ≡ hash'
  pub same_word : word ≡ word'
  pub same_at : at ≡ at'
  pub same_rest : rest ≡ rest'

pub directive_one : (line : List ℕ) (hash hash' : ℕ) (word word' : List ℕ) (at at' : ℕ) (rest rest' : List ℕ)
    → IsDirective line hash word at rest → IsDirective line hash' word' at' rest' → IsSameDirective hash hash' word word' at at' rest rest'
directive_one line hash hash' word word' at at' rest rest' g h =
    let following : g.following ≡ h.following = rest_is (behind_one line (35 ∷ g.following) (35 ∷ h.following) g.first h.first) in
    let after : g.after ≡ h.after = behind_one h.following g.after h.after (subst (λ b. IsAfterBlanks b g.after) following g.blanks) h.blanks in
    let run = run_one IsNamePart h.after word rest word' rest' (subst (λ a. IsFrontRun IsNamePart a word rest) after g.run) h.run in
    record {
      same_hash = omega (arith, g.hash_placed, h.hash_placed, ap length following);
      same_word = run.0;
      same_at = omega (arith, g.placed, h.placed, ap length run.1);
      same_rest = run.1;
    }

pub record IsSameNamed (at at' : ℕ) (name name' rest rest' : List ℕ) : Type 0 where
  pub same_at : at ≡ at'
  pub same_name : name ≡ name'
  pub same_rest : rest ≡ rest'

pub named_one : (text : List ℕ) (at at' : ℕ) (name name' rest rest' : List ℕ) → IsNamed text at name rest → IsNamed text at' name' rest' → IsSameNamed at at' name name' rest rest'
named_one text at at' name name' rest rest' g h =
    let after : g.after ≡ h.after = behind_one text g.after h.after g.blanks h.blanks in
    let run = run_one IsNamePart h.after name rest name' rest' (subst (λ a. IsFrontRun IsNamePart a name rest) after g.run) h.run in
    record { same_at = omega (arith, g.placed, h.placed, ap length after); same_name = run.0; same_rest = run.1 }

pub lone_name_one : (text name name' : List ℕ) → IsLoneName text name → IsLoneName text name' → name ≡ name'
lone_name_one text name name' g h = (named_one text g.0 h.0 name name' g.1 h.1 g.2 h.2).same_name
