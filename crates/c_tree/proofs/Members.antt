-- Measures of lists: that of an element is at most that of its list.
use Rattle.std.proofs.Common.{◌≡◌, ◌<◌, ◌≤◌, ◌∷◌, [], ℕ, zero, suc, List, length, get_or, sym, subst, Some, arith}
use Rattle.std.specs.Prelude.{slice_get}
use Rattle.std.proofs.lemmas.Option.{slice_get_within, get_or_from_slice_get}

module _ {A : Type 0} (one : A → ℕ) (whole : List A → ℕ) (holds : (x : A) (xs : List A) → (one x ≤ whole (x ∷ xs)) × (whole xs ≤ whole (x ∷ xs))) where
  pub member : (xs : List A) (k : ℕ) (x : A) → x ≡ get_or xs k x → k < length xs → one x ≤ whole xs
  member [] k x at less = absurd (omega (arith, less))
  member (y ∷ xs) zero x at less = subst (λ z. one z ≤ whole (y ∷ xs)) (sym at) (holds y xs).0
  member (y ∷ xs) (suc k) x at less = omega (arith, member xs k x at (omega (arith, less)), (holds y xs).1)

  pub member_got : (xs : List A) (k : ℕ) (x : A) → slice_get xs k ≡ Some x → one x ≤ whole xs
  member_got xs k x at = member xs k x (sym (get_or_from_slice_get xs k x x at)) (slice_get_within xs k x at)
