-- Levels that never rise along calls, and the uses of each function.
use Rattle.std.proofs.Common.{◌≡◌, ◌<◌, ◌≤◌, ◌+◌, ◌∙◌, Bool, true, false, nat_lt, ◌==◌, cond, Less, Equal, Greater, ℕ, List, [], ◌∷◌, length, map, ap, sym, refl, subst, inl, inr, arith, Some, slice_index, get_or, vec_items, Vec, Global}
use Rattle.std.specs.Prelude.{slice_get, option_map}
use Rattle.std.specs.Ordering.{is_lt, nat_cmp, ord_max}
use borrow.Author.Tests.{ltb-true, ltb-false}
use Rattle.std.proofs.lemmas.Bool.{cases_lt}
use Rattle.std.proofs.lemmas.List.{get_or_default, length-map}
use Rattle.std.proofs.lemmas.Option.{slice_get_read, slice_get-map}
use Rattle.std.specs.List.{Contains}
use Rattle.c_tree.specs.Rounds.{CallsAmong}
use Rattle.c_limits.specs.Calls.{AreOrdered, NeverRise, FallBefore}
use Rattle.c_rules.specs.Rounds.{IsWay, NoneBelow}

-- what holds of the calls of the functions before one, and of its own
is_called : (lists : List (List ℕ)) (n m : ℕ) (called : List ℕ) → slice_get lists n ≡ Some called → CallsAmong lists n m → Contains called m
is_called lists n m called there call =
    let same : call.0 ≡ called = cc (sym call.1 ∙ there) in subst (λ list. Contains list m) same call.2

pub calls_further : (holds : ℕ → ℕ → Type 0) (lists : List (List ℕ)) (n : ℕ) (called : List ℕ) → ((k m : ℕ) → k < n → CallsAmong lists k m → holds k m)
    → slice_get lists n ≡ Some called → ((m : ℕ) → Contains called m → holds n m) → (k m : ℕ) → k < n + 1 → CallsAmong lists k m → holds k m
calls_further holds lists n called before there own k m less call = elim (cases_lt k n) [
  | inl earlier ↦ before k m earlier call
  | inr last ↦
      let same : k ≡ n = omega (arith, less, last) in
      let here : CallsAmong lists n m = subst (λ j. CallsAmong lists j m) same call
      in subst (λ j. holds j m) (sym same) (own m (is_called lists n m called there here))
]

-- the greater of two
pub above_both : (a b : ℕ) → (a ≤ ord_max nat_cmp a b) × (b ≤ ord_max nat_cmp a b)
above_both a b = go (nat_lt b a) (b == a) (λ lower. ltb-true b a lower) (λ high. ltb-false b a high) where
  go : (lower same : Bool) → (lower ≡ true → b < a) → (lower ≡ false → a ≤ b) → (a ≤ cond (is_lt (cond lower Less (cond same Equal Greater))) a b) × (b ≤ cond (is_lt (cond lower Less (cond same Equal Greater))) a b)
  go true same low high = (omega arith, omega (arith, low refl))
  go false true low high = (high refl, omega arith)
  go false false low high = (high refl, omega arith)

-- the levels of functions that are called
pub level_there : (levels called : List ℕ) (i : ℕ) → ((m : ℕ) → Contains called m → m < length levels) → i < length called → slice_index called i < length levels
level_there levels called i bodies less = bodies (slice_index called i) (i, less, get_or_default called i (slice_index called i) 0 less)

pub level_below : (levels called : List ℕ) (high : ℕ) → ((i : ℕ) → i < length called → slice_index levels (slice_index called i) ≤ high) → (m : ℕ) → Contains called m
    → slice_index levels m ≤ high
level_below levels called high all m found =
    let is : slice_index called found.0 ≡ m = get_or_default called found.0 0 m found.1 ∙ found.2
    in omega (arith, all found.0 found.1, ap (slice_index levels) is)

-- the list of a function's callees, as the code reads it
pub callees_at : (lists : List (Vec ℕ Global)) (n : ℕ) (v : Vec ℕ Global) (called : List ℕ) → n < length lists → v ≡ get_or lists n v → called ≡ v.items
    → slice_get (map vec_items lists) n ≡ Some called
callees_at lists n v called within is same =
    slice_get-map vec_items lists n ∙ ap (option_map vec_items) (slice_get_read lists (length lists) n v refl within is) ∙ ap (λ l. Some l) (sym same)

pub callees_there : (levels : List ℕ) (lists : List (Vec ℕ Global)) (n : ℕ) (called : List ℕ) → length levels ≡ length lists → AreOrdered (map vec_items lists)
    → slice_get (map vec_items lists) n ≡ Some called → (m : ℕ) → Contains called m → m < length levels
callees_there levels lists n called size ordered there m found =
    omega (arith, size, ordered.bodies n m (called, there, found), length-map lists vec_items)

-- a way doesn't rise
way_falls : (levels : List ℕ) (lists : List (List ℕ)) → NeverRise levels lists → (n : ℕ) (ms : List ℕ) (z : ℕ) → IsWay (CallsAmong lists) n ms z
    → slice_index levels z ≤ slice_index levels n
way_falls levels lists never n [] z same = omega (arith, ap (slice_index levels) same)
way_falls levels lists never n (m ∷ ms) z way = omega (arith, never n m way.0, way_falls levels lists never m ms z way.1)

pub none_below : (levels : List ℕ) (lists : List (List ℕ)) (first : ℕ) → NeverRise levels lists → FallBefore levels lists first → NoneBelow (CallsAmong lists) first
none_below levels lists first never falls k [] low round = omega (arith, round.0)
none_below levels lists first never falls k (m ∷ ms) low round = omega (arith, falls k m low round.1.0, way_falls levels lists never m ms k round.1.1)
