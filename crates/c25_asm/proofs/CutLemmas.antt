-- Cuts at a byte.
use Rattle.std.proofs.Common.{◌≡◌, ℕ, Bool, true, ◌==◌, if◌then◌else◌, List, [], ◌∷◌, ◌++◌, Some, None, refl, sym, ap, ◌∙◌, arith}
use Rattle.std.proofs.lemmas.Bool.Decides.{nat_tests}
use Rattle.c25_asm.specs.Cuts.{Lacks, before, behind, PassesFirst, from_first}

module _ (test : ℕ → Bool) where
  pub before_at : (front : List ℕ) (b : ℕ) (rest : List ℕ) → Lacks test front → test b ≡ true → before test (front ++ b ∷ rest) ≡ front
  before_at [] b rest none here = ap (λ t. if t then [] else b ∷ before test rest) here
  before_at (x ∷ front) b rest none here = ap (λ t. if t then [] else x ∷ before test (front ++ b ∷ rest)) none.0 ∙ ap (λ l. x ∷ l) (before_at front b rest none.1 here)

  before_rest : (front rest : List ℕ) → Lacks test front → PassesFirst test rest → before test (front ++ rest) ≡ front
  before_rest [] [] none here = refl
  before_rest [] (b ∷ rest) none here = ap (λ t. if t then [] else b ∷ before test rest) here
  before_rest (x ∷ front) rest none here = ap (λ t. if t then [] else x ∷ before test (front ++ rest)) none.0 ∙ ap (λ l. x ∷ l) (before_rest front rest none.1 here)

  from_rest : (front rest : List ℕ) → Lacks test front → PassesFirst test rest → from_first test (front ++ rest) ≡ rest
  from_rest [] [] none here = refl
  from_rest [] (b ∷ rest) none here = ap (λ t. if t then b ∷ rest else from_first test rest) here
  from_rest (x ∷ front) rest none here = ap (λ t. if t then x ∷ front ++ rest else from_first test (front ++ rest)) none.0 ∙ from_rest front rest none.1 here

  pub before_split : (text front rest : List ℕ) → Lacks test front → PassesFirst test rest → text ≡ front ++ rest → front ≡ before test text
  before_split text front rest none here is = sym (ap (before test) is ∙ before_rest front rest none here)

  pub from_split : (text front rest : List ℕ) → Lacks test front → PassesFirst test rest → text ≡ front ++ rest → rest ≡ from_first test text
  from_split text front rest none here is = sym (ap (from_first test) is ∙ from_rest front rest none here)

  pub behind_at : (front : List ℕ) (b : ℕ) (rest : List ℕ) → Lacks test front → test b ≡ true → behind test (front ++ b ∷ rest) ≡ Some rest
  behind_at [] b rest none here = ap (λ t. if t then Some rest else behind test rest) here
  behind_at (x ∷ front) b rest none here = ap (λ t. if t then Some (front ++ b ∷ rest) else behind test (front ++ b ∷ rest)) none.0 ∙ behind_at front b rest none.1 here

  pub before_none : (text : List ℕ) → Lacks test text → before test text ≡ text
  before_none [] none = refl
  before_none (x ∷ text) none = ap (λ t. if t then [] else x ∷ before test text) none.0 ∙ ap (λ l. x ∷ l) (before_none text none.1)

  pub behind_none : (text : List ℕ) → Lacks test text → behind test text ≡ None
  behind_none [] none = refl
  behind_none (x ∷ text) none = ap (λ t. if t then Some text else behind test text) none.0 ∙ behind_none text none.1

-- the same of a text that is cut
pub before_cut : (test : ℕ → Bool) (text front : List ℕ) (b : ℕ) (rest : List ℕ) → Lacks test front → test b ≡ true → text ≡ front ++ b ∷ rest → front ≡ before test text
before_cut test text front b rest none here is = sym (ap (before test) is ∙ before_at test front b rest none here)

pub behind_cut : (test : ℕ → Bool) (text front : List ℕ) (b : ℕ) (rest : List ℕ) → Lacks test front → test b ≡ true → text ≡ front ++ b ∷ rest → Some rest ≡ behind test text
behind_cut test text front b rest none here is = sym (ap (behind test) is ∙ behind_at test front b rest none here)

pub same_mark : (mark : ℕ) → (mark == mark) ≡ true
same_mark mark = grind (arith, nat_tests)
