-- The objects of numbers, where one is found, changed, removed or made.
use Rattle.std.proofs.Common.{◌≡◌, ◌≤◌, ◌<◌, ℕ, zero, suc, Bool, true, false, cond, List, [], ◌∷◌, ◌++◌, Option, Some, None, refl, sym, ap, ◌∙◌, inl, inr, arith, set, length, get_or, MatchOption}
use Rattle.std.specs.Prelude.{◌==◌, slice_get}
use Rattle.std.specs.List.{remove, AllWithin, HoldsAt}
use Rattle.std.proofs.lemmas.Bool.{eqb-true, cases_eq}
use Rattle.std.proofs.lemmas.Option.{slice_get-get_or, slice_get_read, slice_get_within, same_Some}
use Rattle.c_state.specs.declared.value.Living.{Living}
use Rattle.c_state.specs.Objects.{living_object, living_of, AreNumbered, IsFound}

-- none of the objects has a number
none_has : (os : List Living) (k : ℕ) → AllWithin (λ o. o.number ≡ k → ⊥) os 0 (length os) → living_of os k ≡ None
none_has [] k others = refl
none_has (x ∷ os) k others =
    let rest = none_has os k (λ i d from within. others (suc i) d (omega arith) (omega arith)) in
    let first : x.number ≡ k → ⊥ = others 0 x (omega arith) (omega arith) in
    grind (arith, rest, first)

-- the first object of a number, where there is one
pub found_from_first : (os : List Living) (k : ℕ) (r : Option ℕ)
    → MatchOption r (AllWithin (λ o. o.number ≡ k → ⊥) os 0 (length os)) (λ i. (i < length os) × HoldsAt (λ o. o.number ≡ k) os i × AllWithin (λ o. o.number ≡ k → ⊥) os 0 i)
    → MatchOption r (living_of os k ≡ None) (λ place. IsFound os k place)
found_from_first os k None first = none_has os k first
found_from_first [] k (Some place) first = absurd (omega (arith, first.0))
found_from_first (x ∷ os) k (Some place) first = record {
  object = get_or (x ∷ os) place x;
  at = slice_get-get_or (x ∷ os) place x first.0;
  is = first.1 x;
}

-- no object has a number below the least
pub none_below : (os : List Living) (low limit k : ℕ) → AreNumbered low limit os → k < low → living_of os k ≡ None
none_below [] low limit k numbered less = refl
none_below (x ∷ os) low limit k numbered less =
    let rest = none_below os (suc x.number) limit k numbered.1 (omega arith) in
    grind (arith, rest, numbered.0)

-- nor one from the limit on
pub none_from : (os : List Living) (low limit k : ℕ) → AreNumbered low limit os → limit ≤ k → (living_of os k ≡ None) × (low ≤ limit)
none_from [] low limit k numbered more = (refl, numbered)
none_from (x ∷ os) low limit k numbered more =
    let rest = none_from os (suc x.number) limit k numbered.1 more in
    (grind (arith, rest.0, rest.1, numbered.0), omega (arith, rest.1, numbered.0))

-- the least number may be stated lower
pub numbered_lower : (os : List Living) (lower low limit : ℕ) → lower ≤ low → AreNumbered low limit os → AreNumbered lower limit os
numbered_lower [] lower low limit less numbered = omega arith
numbered_lower (x ∷ os) lower low limit less numbered = (omega arith, numbered.1)

-- an object at a place has a number from the least on, and is that of its number
pub found_at : (os : List Living) (low limit place : ℕ) (o : Living) → AreNumbered low limit os → slice_get os place ≡ Some o
    → (low ≤ o.number) × (living_of os o.number ≡ Some (living_object o))
found_at [] low limit place o numbered at = absurd (cc at)
found_at (x ∷ os) low limit zero o numbered at = (grind (arith, at, numbered.0), grind (arith, at))
found_at (x ∷ os) low limit (suc place) o numbered at =
    let rest = found_at os (suc x.number) limit place o numbered.1 at in
    (omega (arith, rest.0, numbered.0), grind (arith, rest.0, rest.1))

-- one of two tests at most holds, and the second one decides in the rest
two_tests : {A : Type 0} (first second : Bool) (x new rest other : A) → (first ≡ true → second ≡ true → ⊥)
    → other ≡ cond second new rest → cond first x other ≡ cond second new (cond first x rest)
two_tests true true x new rest other apart is = absurd (apart refl refl)
two_tests true false x new rest other apart is = refl
two_tests false second x new rest other apart is = is

apart : (a b k : ℕ) → a < b → (k == a) ≡ true → (k == b) ≡ true → ⊥
apart a b k less first second = let p = eqb-true k a first in let q = eqb-true k b second in omega arith

-- the objects without one of them
pub without : (os : List Living) (low limit place : ℕ) (o : Living) → AreNumbered low limit os → slice_get os place ≡ Some o → (k : ℕ)
    → living_of (remove os place) k ≡ cond (k == o.number) None (living_of os k)
without [] low limit place o numbered at k = absurd (cc at)
without (x ∷ os) low limit zero o numbered at k =
    let rest = none_below os (suc x.number) limit x.number numbered.1 (omega arith) in
    elim (cases_eq k x.number) [
      | inl same ↦ grind (arith, at, rest, same)
      | inr other ↦ grind (arith, at, rest, other)
    ]
without (x ∷ os) low limit (suc place) o numbered at k =
    let rest = without os (suc x.number) limit place o numbered.1 at k in
    let there = found_at os (suc x.number) limit place o numbered.1 at in
    two_tests (k == x.number) (k == o.number) _ _ _ _ (apart x.number o.number k there.0) rest

pub numbered_without : (os : List Living) (low limit place : ℕ) (o : Living) → AreNumbered low limit os → slice_get os place ≡ Some o → AreNumbered low limit (remove os place)
numbered_without [] low limit place o numbered at = absurd (cc at)
numbered_without (x ∷ os) low limit zero o numbered at = numbered_lower os low (suc x.number) limit (omega (arith, numbered.0)) numbered.1
numbered_without (x ∷ os) low limit (suc place) o numbered at = (numbered.0, numbered_without os (suc x.number) limit place o numbered.1 at)

-- the objects where one of them is changed
pub changed : (os : List Living) (low limit place : ℕ) (o new : Living) → AreNumbered low limit os → slice_get os place ≡ Some o → new.number ≡ o.number → (k : ℕ)
    → living_of (set os place new) k ≡ cond (k == o.number) (Some (living_object new)) (living_of os k)
changed [] low limit place o new numbered at same k = absurd (cc at)
changed (x ∷ os) low limit zero o new numbered at same k = grind (arith, at, same)
changed (x ∷ os) low limit (suc place) o new numbered at same k =
    let rest = changed os (suc x.number) limit place o new numbered.1 at same k in
    let there = found_at os (suc x.number) limit place o numbered.1 at in
    two_tests (k == x.number) (k == o.number) _ _ _ _ (apart x.number o.number k there.0) rest

pub numbered_changed : (os : List Living) (low limit place : ℕ) (o new : Living) → AreNumbered low limit os → slice_get os place ≡ Some o → new.number ≡ o.number → AreNumbered low limit (set os place new)
numbered_changed [] low limit place o new numbered at same = absurd (cc at)
numbered_changed (x ∷ os) low limit zero o new numbered at same =
    let is : x ≡ o = cc at in rw (same, ← is) numbered
numbered_changed (x ∷ os) low limit (suc place) o new numbered at same = (numbered.0, numbered_changed os (suc x.number) limit place o new numbered.1 at same)

-- the objects and a new one
pub added : (os : List Living) (low : ℕ) (o : Living) → AreNumbered low o.number os → (k : ℕ)
    → living_of (os ++ o ∷ []) k ≡ cond (k == o.number) (Some (living_object o)) (living_of os k)
added [] low o numbered k = refl
added (x ∷ os) low o numbered k =
    let rest = added os (suc x.number) o numbered.1 k in
    let there = none_from os (suc x.number) o.number o.number numbered.1 (omega arith) in
    two_tests (k == x.number) (k == o.number) _ _ _ _ (apart x.number o.number k there.1) rest

pub numbered_added : (os : List Living) (low : ℕ) (o : Living) → AreNumbered low o.number os → AreNumbered low (suc o.number) (os ++ o ∷ [])
numbered_added [] low o numbered = (numbered, omega arith)
numbered_added (x ∷ os) low o numbered = (numbered.0, numbered_added os (suc x.number) o numbered.1)

-- what stands at the place of an object
pub stands : (os seen : List Living) (number place : ℕ) (o : Living) → seen ≡ os → IsFound seen number place → o ≡ get_or os place o
    → (slice_get os place ≡ Some o) × (o.number ≡ number)
stands os seen number place o same found read =
    let at : slice_get os place ≡ Some found.object = ap (λ xs. slice_get xs place) (sym same) ∙ found.at in
    let here = slice_get_read os (length os) place o refl (slice_get_within os place found.object at) read in
    (here, ap (λ x. x.number) (same_Some o found.object (sym here ∙ at)) ∙ found.is)
