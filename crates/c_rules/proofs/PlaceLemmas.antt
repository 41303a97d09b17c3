-- What stands at a place of a list, behind a push and a write.
use Rattle.std.proofs.Common.{◌≡◌, ◌<◌, ℕ, zero, suc, ◌+◌, List, [], ◌∷◌, ◌++◌, length, set, ap, subst, refl, inl, inr, arith, ◌⊎◌, Some}
use Rattle.std.specs.Prelude.{slice_get}

pub place_kept : {A : Type 0} (xs ys : List A) (p : ℕ) (x : A) → slice_get xs p ≡ Some x → slice_get (xs ++ ys) p ≡ Some x
place_kept [] ys p x there = absurd (cc there)
place_kept (z ∷ xs) ys zero x there = there
place_kept (z ∷ xs) ys (suc p) x there = place_kept xs ys p x there

pub place_behind : {A : Type 0} (xs ys : List A) (p : ℕ) (x : A) → slice_get ys p ≡ Some x → slice_get (xs ++ ys) (length xs + p) ≡ Some x
place_behind [] ys p x there = let same : p ≡ 0 + p = omega arith in subst (λ n. slice_get ys n ≡ Some x) same there
place_behind (z ∷ xs) ys p x there =
    let same : suc (length xs + p) ≡ suc (length xs) + p = omega arith in
    subst (λ n. slice_get (z ∷ (xs ++ ys)) n ≡ Some x) same (place_behind xs ys p x there)

pub place_last : {A : Type 0} (xs : List A) (y : A) → slice_get (xs ++ y ∷ []) (length xs) ≡ Some y
place_last [] y = refl
place_last (z ∷ xs) y = place_last xs y

pub place_within : {A : Type 0} (xs : List A) (p : ℕ) → p < length xs → (x : A) × (slice_get xs p ≡ Some x)
place_within [] p less = absurd (omega (arith, less))
place_within (z ∷ xs) zero less = (z, refl)
place_within (z ∷ xs) (suc p) less = place_within xs p (omega (arith, less))

-- the next place, or one of those before
step_place : (p n : ℕ) {A : Type 0} {x y : A} {B : Type 0} → B ⊎ ((p ≡ n) × (y ≡ x)) → B ⊎ ((suc p ≡ suc n) × (y ≡ x))
step_place p n (inl old) = inl old
step_place p n (inr new) = inr (ap suc new.0, new.1)

pub pushed_place : {A : Type 0} (xs : List A) (y : A) (p : ℕ) (x : A) → slice_get (xs ++ y ∷ []) p ≡ Some x → (slice_get xs p ≡ Some x) ⊎ ((p ≡ length xs) × (y ≡ x))
pushed_place [] y zero x there = inr (refl, cc there)
pushed_place [] y (suc p) x there = absurd (cc there)
pushed_place (z ∷ xs) y zero x there = inl there
pushed_place (z ∷ xs) y (suc p) x there = step_place p (length xs) (pushed_place xs y p x there)

pub written_place : {A : Type 0} (xs : List A) (n : ℕ) (y : A) → n < length xs → slice_get (set xs n y) n ≡ Some y
written_place [] n y less = absurd (omega (arith, less))
written_place (x ∷ xs) zero y less = refl
written_place (x ∷ xs) (suc n) y less = written_place xs n y (omega (arith, less))

-- a write of the value that a place has already, or elsewhere, leaves it
pub still_there : {A : Type 0} (xs : List A) (n p : ℕ) (y : A) → slice_get xs p ≡ Some y → slice_get (set xs n y) p ≡ Some y
still_there [] n p y there = there
still_there (x ∷ xs) zero zero y there = refl
still_there (x ∷ xs) zero (suc p) y there = there
still_there (x ∷ xs) (suc n) zero y there = there
still_there (x ∷ xs) (suc n) (suc p) y there = still_there xs n p y there

pub written_or_old : {A : Type 0} (xs : List A) (n p : ℕ) (y z : A) → slice_get (set xs n y) p ≡ Some z → (slice_get xs p ≡ Some z) ⊎ (p ≡ n)
written_or_old [] n p y z there = inl there
written_or_old (x ∷ xs) zero zero y z there = inr refl
written_or_old (x ∷ xs) zero (suc p) y z there = inl there
written_or_old (x ∷ xs) (suc n) zero y z there = inl there
written_or_old (x ∷ xs) (suc n) (suc p) y z there = elim (written_or_old xs n p y z there) [ inl old ↦ inl old | inr new ↦ inr (ap suc new) ]
