-- What stands in a list.
use Rattle.std.proofs.Common.{◌≡◌, ◌<◌, ◌≤◌, ◌+◌, ◌∙◌, ◌++◌, ℕ, zero, suc, List, [], ◌∷◌, Bool, true, false, refl, map, ap, sym, subst, inl, inr, arith}
use Rattle.std.specs.Prelude.{◌⊎◌, ◌==◌, Contains, filter}
use Rattle.std.specs.List.{range_with_len}
use Rattle.std.proofs.lemmas.Bool.{eqb-true, eq-eqb, cases_Bool, or_cases, or_left, or_right, both_ways, cond-true, cond-false}
use Rattle.lay_cost.specs.Placements.{has}

-- x is an element of a list
abbrev pub IsIn : {X : Type 0} → X → List X → Type 0
IsIn x [] = ⊥
IsIn x (y ∷ ys) = (x ≡ y) ⊎ IsIn x ys

pub from_contains : {X : Type 0} (x : X) (xs : List X) → Contains xs x → IsIn x xs
from_contains x [] c = absurd (omega (arith, c.1))
from_contains x (y ∷ ys) (zero, lt, e) = inl (sym e)
from_contains x (y ∷ ys) (suc k, lt, e) = inr (from_contains x ys (k, omega (arith, lt), e))

pub to_contains : {X : Type 0} (x : X) (xs : List X) → IsIn x xs → Contains xs x
to_contains x [] i = absurd i
to_contains x (y ∷ ys) (inl e) = (0, omega arith, sym e)
to_contains x (y ∷ ys) (inr i) = let c = to_contains x ys i in (suc c.0, omega (arith, c.1), c.2)

pub in_front : {X : Type 0} (x : X) (xs ys : List X) → IsIn x xs → IsIn x (xs ++ ys)
in_front x [] ys i = absurd i
in_front x (z ∷ zs) ys (inl e) = inl e
in_front x (z ∷ zs) ys (inr i) = inr (in_front x zs ys i)

pub in_back : {X : Type 0} (x : X) (xs ys : List X) → IsIn x ys → IsIn x (xs ++ ys)
in_back x [] ys i = i
in_back x (z ∷ zs) ys i = inr (in_back x zs ys i)

pub in_either : {X : Type 0} (x : X) (xs ys : List X) → IsIn x (xs ++ ys) → IsIn x xs ⊎ IsIn x ys
in_either x [] ys i = inr i
in_either x (z ∷ zs) ys (inl e) = inl (inl e)
in_either x (z ∷ zs) ys (inr i) = elim (in_either x zs ys i) [ inl h ↦ inl (inr h) | inr h ↦ inr h ]

pub in_map : {X Y : Type 0} (f : X → Y) (x : X) (xs : List X) → IsIn x xs → IsIn (f x) (map f xs)
in_map f x [] i = absurd i
in_map f x (y ∷ ys) (inl e) = inl (ap f e)
in_map f x (y ∷ ys) (inr i) = inr (in_map f x ys i)

-- where an element of a list comes from
pub record Origin {X Y : Type 0} (f : X → Y) (xs : List X) (y : Y) : Type 0 where
  pub from : X
  pub inside : IsIn from xs
  pub is : y ≡ f from

pub of_map : {X Y : Type 0} (f : X → Y) (y : Y) (xs : List X) → IsIn y (map f xs) → Origin f xs y
of_map f y [] i = absurd i
of_map f y (x ∷ xs) (inl e) = record { from = x; inside = inl refl; is = e }
of_map f y (x ∷ xs) (inr i) = let o = of_map f y xs i in record { from = o.from; inside = inr o.inside; is = o.is }

pub in_filter : {X : Type 0} (test : X → Bool) (x : X) (xs : List X) → IsIn x xs → test x ≡ true → IsIn x (filter test xs)
in_filter test x [] i e = absurd i
in_filter test x (y ∷ ys) (inl same) e = subst (λ zs. IsIn x zs) (sym (cond-true (test y) (y ∷ filter test ys) (filter test ys) (ap test (sym same) ∙ e))) (inl same)
in_filter test x (y ∷ ys) (inr i) e = elim (cases_Bool (test y)) [
  | inl t ↦ subst (λ zs. IsIn x zs) (sym (cond-true (test y) (y ∷ filter test ys) (filter test ys) t)) (inr (in_filter test x ys i e))
  | inr f ↦ subst (λ zs. IsIn x zs) (sym (cond-false (test y) (y ∷ filter test ys) (filter test ys) f)) (in_filter test x ys i e)
]

pub of_filter : {X : Type 0} (test : X → Bool) (x : X) (xs : List X) → IsIn x (filter test xs) → IsIn x xs × (test x ≡ true)
of_filter test x [] i = absurd i
of_filter test x (y ∷ ys) i = elim (cases_Bool (test y)) [
  | inl t ↦ here t (of_filter test x ys) (subst (λ zs. IsIn x zs) (cond-true (test y) (y ∷ filter test ys) (filter test ys) t) i)
  | inr f ↦ let h = of_filter test x ys (subst (λ zs. IsIn x zs) (cond-false (test y) (y ∷ filter test ys) (filter test ys) f) i) in (inr h.0, h.1)
]
  where
    here : test y ≡ true → (IsIn x (filter test ys) → IsIn x ys × (test x ≡ true)) → (x ≡ y) ⊎ IsIn x (filter test ys) → ((x ≡ y) ⊎ IsIn x ys) × (test x ≡ true)
    here t more (inl e) = (inl e, ap test e ∙ t)
    here t more (inr j) = let h = more j in (inr h.0, h.1)

pub in_range : (s from count : ℕ) → from ≤ s → s < from + count → IsIn s (range_with_len from count)
in_range s from zero low high = absurd (omega (arith, low, high))
in_range s from (suc count) low high = elim (Rattle.std.proofs.lemmas.Bool.cases_eq s from) [
  | inl e ↦ inl e
  | inr differ ↦ inr (in_range s (from + 1) count (omega (arith, low, differ)) (omega (arith, high)))
]

pub of_range : (s from count : ℕ) → IsIn s (range_with_len from count) → (from ≤ s) × (s < from + count)
of_range s from zero i = absurd i
of_range s from (suc count) (inl e) = (omega (arith, e), omega (arith, e))
of_range s from (suc count) (inr i) = let h = of_range s (from + 1) count i in (omega (arith, h.0), omega (arith, h.1))

pub of_has : (list : List ℕ) (s : ℕ) → has list s ≡ true → IsIn s list
of_has [] s e = absurd (both_ways false refl e)
of_has (t ∷ ts) s e = elim (or_cases (t == s) (has ts s) e) [
  | inl same ↦ inl (sym (eqb-true t s same))
  | inr more ↦ inr (of_has ts s more)
]

pub has_of : (list : List ℕ) (s : ℕ) → IsIn s list → has list s ≡ true
has_of [] s i = absurd i
has_of (t ∷ ts) s (inl e) = or_left (t == s) (has ts s) (eq-eqb t s (sym e))
has_of (t ∷ ts) s (inr i) = or_right (t == s) (has ts s) (has_of ts s i)

-- no element of a list stands in it twice
abbrev pub IsOnce : {X : Type 0} → List X → Type 0
IsOnce [] = Unit {0}
IsOnce (x ∷ xs) = (IsIn x xs → ⊥) × IsOnce xs
