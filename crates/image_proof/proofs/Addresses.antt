-- Objects have the addresses that the plan lists, and each address of the plan is of an object.
use Rattle.std.proofs.Common.{◌≡◌, ℕ, zero, suc, ◌+◌, List, [], ◌∷◌, length, map, Some, refl, arith}
use Rattle.std.specs.Prelude.{slice_get}
use Rattle.std.proofs.lemmas.Option.{none-some}
use Rattle.c_tree.specs.TypedTree.{ObjectTree, FunctionTree}
use Rattle.tree_code.specs.Lowered.{lowered_function}
use Rattle.mem_plan.specs.Plan.{object_addresses, frames_from}
use Rattle.mem_plan.specs.Ranges.{range, object_range, local_range}
use Rattle.tree_code_proof.specs.Surroundings.{locals_of}
use Rattle.image_proof.specs.PlanPlaces.{address_or_start, local_addresses}

-- of a list of objects
addressed : (at : ℕ) (os : List ObjectTree) (n : ℕ) (o : ObjectTree) → slice_get os n ≡ Some o → slice_get (object_addresses at os) n ≡ Some (address_or_start (slice_get (object_addresses at os) n))
addressed at [] n o is = absurd (none-some o is)
addressed at (u ∷ us) zero o is = refl
addressed at (u ∷ us) (suc n) o is = addressed (at + (u.length + 1)) us n o is

pub object_ranged : (at : ℕ) (os : List ObjectTree) (n : ℕ) (o : ObjectTree) → slice_get os n ≡ Some o
    → object_range (slice_get (object_addresses at os) n) (slice_get os n) ≡ Some (range (address_or_start (slice_get (object_addresses at os) n)) (o.length + 1))
object_ranged at os n o is = λ i. object_range (addressed at os n o is i) (is i)

pub object_there : (at : ℕ) (os : List ObjectTree) (n a : ℕ) → slice_get (object_addresses at os) n ≡ Some a → (o : ObjectTree) × (slice_get os n ≡ Some o)
object_there at [] n a is = absurd (none-some a is)
object_there at (u ∷ us) zero a is = (u, refl)
object_there at (u ∷ us) (suc n) a is = object_there (at + (u.length + 1)) us n a is

-- of the frames of functions
module _ (start : ℕ) (begin : ℕ → ℕ) where
  pub local_ranged : (k f : ℕ) (fs : List FunctionTree) (arrangements : List (List (List ℕ))) → length arrangements ≡ length (map lowered_function fs)
      → (n : ℕ) (o : ObjectTree) → slice_get (locals_of (slice_get fs f)) n ≡ Some o
      → local_range (slice_get (frames_from start begin k (map lowered_function fs) arrangements) f) (slice_get (map lowered_function fs) f) n
      ≡ Some (range (address_or_start (slice_get (local_addresses (slice_get (frames_from start begin k (map lowered_function fs) arrangements) f)) n)) (o.length + 1))
  local_ranged k f [] arrangements count n o is = absurd (none-some o is)
  local_ranged k f (g ∷ fs) [] count n o is = absurd (omega (arith, count))
  local_ranged k zero (g ∷ fs) (lists ∷ rest) count n o is = object_ranged (start + begin k + (lowered_function g).scalars) g.locals n o is
  local_ranged k (suc f) (g ∷ fs) (lists ∷ rest) count n o is = local_ranged (suc k) f fs rest (omega (arith, count)) n o is

  pub local_there : (k f : ℕ) (fs : List FunctionTree) (arrangements : List (List (List ℕ))) (n a : ℕ)
      → slice_get (local_addresses (slice_get (frames_from start begin k (map lowered_function fs) arrangements) f)) n ≡ Some a
      → (o : ObjectTree) × (slice_get (locals_of (slice_get fs f)) n ≡ Some o)
  local_there k f [] arrangements n a is = absurd (none-some a is)
  local_there k f (g ∷ fs) [] n a is = absurd (none-some a is)
  local_there k zero (g ∷ fs) (lists ∷ rest) n a is = object_there (start + begin k + (lowered_function g).scalars) g.locals n a is
  local_there k (suc f) (g ∷ fs) (lists ∷ rest) n a is = local_there (suc k) f fs rest n a is
