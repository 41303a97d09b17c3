-- The first of a list and the rest of it.
use Rattle.std.proofs.Common.{◌≡◌, ℕ, List, ◌∷◌, ap, drop}
use Rattle.std.specs.Prelude.{slice_index}

-- equal lists begin with equal bytes
pub first_is : {a b : ℕ} {x y : List ℕ} → a ∷ x ≡ b ∷ y → a ≡ b
first_is {a} e = ap (λ l. slice_index l 0) e

-- and equal lists stand behind these
pub rest_is : {a b : ℕ} {x y : List ℕ} → a ∷ x ≡ b ∷ y → x ≡ y
rest_is e = ap (drop 1) e
