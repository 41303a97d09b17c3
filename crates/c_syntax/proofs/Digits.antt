-- Rows of digits, and other rows of codes of one kind, at the front of a text.
use Rattle.std.proofs.Common.{◌≡◌, ℕ, ◌<◌, ◌≤◌, List, [], ◌∷◌, ◌++◌, refl, subst, arith}
use Rattle.std.specs.Prelude.{⊤}
use Rattle.std.specs.List.{AllByRecursion}
use Rattle.std.specs.Char.{digit_value}
use Rattle.c_syntax.specs.Constants.{AreDigits}

-- the first code, if there is one, is not of a kind
abbrev pub Stops : (ℕ → Type 0) → List ℕ → Type 0
Stops P [] = ⊤
Stops P (c ∷ rest) = ¬ P c

-- two rows of one kind at the front of one text, behind which the kind ends
pub same_run : (P : ℕ → Type 0) (xs ys r s : List ℕ) → AllByRecursion P xs → AllByRecursion P ys → Stops P r → Stops P s → xs ++ r ≡ ys ++ s → (xs ≡ ys) × (r ≡ s)
same_run P [] [] r s g h k l e = (refl, e)
same_run P [] (y ∷ ys) [] s g h k l e = absurd cc
same_run P [] (y ∷ ys) (c ∷ r) s g h k l e = let same : y ≡ c = cc in absurd (k (subst P same h.0))
same_run P (x ∷ xs) [] r [] g h k l e = absurd cc
same_run P (x ∷ xs) [] r (c ∷ s) g h k l e = let same : x ≡ c = cc in absurd (l (subst P same g.0))
same_run P (x ∷ xs) (y ∷ ys) r s g h k l e =
    let f = same_run P xs ys r s g.1 h.1 k l cc in
    let same : x ≡ y = cc in
    (cc (f.0, same), f.1)

-- a code whose value is too large is no digit
pub no_digit : (base c d : ℕ) → c ≡ d → base ≤ digit_value d → digit_value c < base → ⊥
no_digit base c d e le lt = let k : digit_value d < base = subst (λ x. digit_value x < base) e lt in omega arith

pub digit_range : (c : ℕ) → digit_value c < 10 → (48 ≤ c) × (c ≤ 57)
digit_range c h = grind arith

pub octal_range : (c : ℕ) → digit_value c < 8 → (48 ≤ c) × (c ≤ 55)
octal_range c h = grind arith

-- the first of some digits
pub first_digit : (base : ℕ) (text : List ℕ) → AreDigits base text → (c : ℕ) × (rest : List ℕ) × (text ≡ c ∷ rest) × (digit_value c < base)
first_digit base [] d = absurd (omega (arith, d.some))
first_digit base (c ∷ rest) d = (c, rest, refl, d.each.0)
