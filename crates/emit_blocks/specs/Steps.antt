-- The steps of a run of operations: an operation is one, but for Point (docs/TRANSLATION.md, "Runs").
use Rattle.std.specs.Prelude.{◌≡◌, ℕ, ◌+◌, ◌==◌, Bool, true, false, if◌then◌else◌, List, [], ◌∷◌, ◌++◌, Option, Some, None}
use Rattle.acc_code.specs.declared.operand.AccOperand.{AccOperand}
use Rattle.acc_code.specs.declared.operation.AccOp.{AccOp}
use Rattle.acc_code.specs.declared.operation.AccOp.TheVariants as row
use Rattle.acc_code.specs.AccTree.{Item, Op, ItemList, item}
use Rattle.emit_blocks.specs.declared.accumulator.ToAccumulator.{ToAccumulator}
use Rattle.emit_blocks.specs.declared.accumulator.ToAccumulator.TheVariants.{Leaves, Loads, Works}
use Rattle.emit_blocks.specs.declared.step.Reach.{Reach}
use Rattle.emit_blocks.specs.declared.step.Reach.TheVariants as reach
use Rattle.emit_blocks.specs.declared.step.Step.{Step}
use Rattle.emit_blocks.specs.declared.operations.Operation as memory
use Rattle.emit_blocks.specs.Places.{Places, SCRATCH, reach_of}

-- a row with its operand
pub record Operation : Type 0 where
  pub row : AccOp
  pub operand : AccOperand

abbrev pub operation : AccOp → AccOperand → Operation
operation o m = record { row = o; operand = m }

-- the operations at the front of a list of items, and what stands behind them
abbrev pub run_at : ItemList → List Operation
run_at (item (Op o m) xs) = operation o m ∷ run_at xs
run_at xs = []

abbrev pub behind_run : ItemList → ItemList
behind_run (item (Op o m) xs) = behind_run xs
behind_run xs = xs

-- what an operation does to the accumulator
abbrev pub to_accumulator : AccOp → ToAccumulator
to_accumulator row.Lt = Leaves
to_accumulator row.Mpy = Leaves
to_accumulator row.Mpyk = Leaves
to_accumulator (row.In port) = Leaves
to_accumulator (row.Out port) = Leaves
to_accumulator row.Ssxm = Leaves
to_accumulator row.Rsxm = Leaves
to_accumulator row.Dint = Leaves
to_accumulator (row.Lac s) = Loads
to_accumulator row.Zals = Loads
to_accumulator row.Lact = Loads
to_accumulator row.Lack = Loads
to_accumulator (row.Lalk s) = Loads
to_accumulator row.Pac = Loads
to_accumulator o = Works

-- the accumulator is loaded anew before anything works on it
abbrev pub is_loaded_by : ToAccumulator → Bool → Bool
is_loaded_by Leaves later = later
is_loaded_by Loads later = true
is_loaded_by Works later = false

abbrev pub is_loaded_next : List Operation → Bool
is_loaded_next [] = false
is_loaded_next (o ∷ os) = is_loaded_by (to_accumulator o.row) (is_loaded_next os)

-- a load of the whole accumulator by a word as it is
abbrev pub is_plain_load : AccOp → Bool
is_plain_load (row.Lac s) = s == 0
is_plain_load (row.Lalk s) = s == 0
is_plain_load o = false

abbrev pub is_point : AccOp → Bool
is_point row.Point = true
is_point o = false

abbrev pub begins_with_point : List Operation → Bool
begins_with_point [] = false
begins_with_point (o ∷ os) = is_point o.row

abbrev pub behind_first : List Operation → List Operation
behind_first [] = []
behind_first (o ∷ os) = os

-- a load of the accumulator and a Point whose word nothing else uses are one load of AR1
abbrev pub is_load_of_pointer : Operation → List Operation → Bool
is_load_of_pointer o os = if is_plain_load o.row then (if begins_with_point os then is_loaded_next (behind_first os) else false) else false

abbrev pub step : AccOp → Reach → Step
step o r = record { row = o; reach = r }

-- the scratch word that Point uses
abbrev pub POINT_WORD : ℕ
POINT_WORD = SCRATCH + 15

-- the steps of an operation that stands by itself: Point stores the accumulator, and loads AR1 from there
abbrev pub steps_of_operation : Places → Operation → List Step
steps_of_operation s o =
    if is_point o.row
    then step (row.Sacl 0) (reach.Word POINT_WORD) ∷ step row.Point (reach.Word POINT_WORD) ∷ []
    else step o.row (reach_of s o.operand) ∷ []

-- the steps of operations, the first of which may be a part of the step before
abbrev pub steps_from : Places → Bool → List Operation → List Step
steps_from s joined [] = []
steps_from s true (o ∷ os) = steps_from s false os
steps_from s false (o ∷ os) =
    if is_load_of_pointer o os
    then step row.Point (reach_of s o.operand) ∷ steps_from s true os
    else (steps_of_operation s o ++ steps_from s false os)

abbrev pub steps_of : Places → List Operation → List Step
steps_of s os = steps_from s false os

-- the operation that an item is
abbrev pub operation_of : Item → Option Operation
operation_of (Op o m) = Some (operation o m)
operation_of x = None

-- no operation stands at the front of a list
pub record IsNoRun (xs : ItemList) : Type 0 where
  pub run : run_at xs ≡ []
  pub behind : behind_run xs ≡ xs

-- one in memory
abbrev pub operation_in : memory.Operation → Operation
operation_in o = operation o.row o.operand

-- a load of AR1 that is an operation and the Point behind it, before the others
pub record IsJoinedBefore (o : Operation) (behind rest : List Operation) : Type 0 where
  pub joined : is_load_of_pointer o behind ≡ true
  pub others : behind_first behind ≡ rest
