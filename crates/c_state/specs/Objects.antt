-- The objects that live, as the definition of runs finds them: by their numbers, which differ.
use Rattle.std.specs.Prelude.{◌≡◌, ◌≤◌, ℕ, suc, ◌==◌, if◌then◌else◌, List, [], ◌∷◌, slice_get, Option, Some, None}
use Rattle.std.specs.Coded.{×_prop, le_prop}
use Rattle.c_tree.specs.Store as runs
use Rattle.c_state.specs.declared.value.Living.{Living}

abbrev pub living_object : Living → runs.Obj
living_object o = record { cells = o.cells; kind = o.kind }

-- the object of a number
abbrev pub living_of : List Living → ℕ → Option runs.Obj
living_of [] k = None
living_of (o ∷ os) k = if k == o.number then Some (living_object o) else living_of os k

-- the numbers rise, from low on and below a limit
abbrev pub AreNumbered : ℕ → ℕ → List Living → Type 0
AreNumbered low limit [] = low ≤ limit
AreNumbered low limit (o ∷ os) = (low ≤ o.number) × AreNumbered (suc o.number) limit os

-- in one way at most
pub AreNumbered-prop : (low limit : ℕ) (os : List Living) → IsProp (AreNumbered low limit os)
AreNumbered-prop low limit [] = le_prop
AreNumbered-prop low limit (o ∷ os) = ×_prop le_prop (AreNumbered-prop (suc o.number) limit os)

-- the object of a number stands here
pub record IsFound (os : List Living) (number place : ℕ) : Type 0 where
  pub object : Living
  pub at : slice_get os place ≡ Some object
  pub is : object.number ≡ number
