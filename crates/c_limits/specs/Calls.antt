-- The calls among functions, by the uses of each, and levels that never rise along them.
use Rattle.std.specs.Prelude.{◌≡◌, ◌<◌, ◌≤◌, ◌↔◌, ℕ, List, length, slice_get, slice_index, Some}
use Rattle.std.specs.List.{Contains}
use Rattle.std.specs.List.Sorted.{IsNonDecreasing}
use Rattle.c_tree.specs.Rounds.{CallsAmong}

-- a list in rising order has the elements of another
pub record IsOrdered (list original : List ℕ) : Type 0 where
  pub rising : IsNonDecreasing list
  pub same : (m : ℕ) → Contains list m ↔ Contains original m

-- the functions that each calls are among these, in rising order
pub record AreOrdered (lists : List (List ℕ)) : Type 0 where
  pub rising : (n : ℕ) (list : List ℕ) → slice_get lists n ≡ Some list → IsNonDecreasing list
  pub bodies : (n m : ℕ) → CallsAmong lists n m → m < length lists

-- no function calls one on a higher level
abbrev pub NeverRise : List ℕ → List (List ℕ) → Type 0
NeverRise levels lists = (n m : ℕ) → CallsAmong lists n m → slice_index levels m ≤ slice_index levels n

-- the functions before this one call only such as have lower levels than they
abbrev pub FallBefore : List ℕ → List (List ℕ) → ℕ → Type 0
FallBefore levels lists first = (n m : ℕ) → n < first → CallsAmong lists n m → slice_index levels m < slice_index levels n
