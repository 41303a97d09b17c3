-- Bodies that emission takes, and bodies that it doesn't, by hand.
use Rattle.std.proofs.Common.{ℕ, zero, suc, refl, true, false, [], ◌∷◌, ◌<◌, ◌≤◌, Option, Some, None, arith, rules}
use Rattle.c_tree.specs.declared.program.VarRef.{VarRef}
use Rattle.c_tree.specs.declared.program.VarRef.TheVariants.{Scalar, Local, Static}
use Rattle.acc_code.specs.AccTree.{Item, Op, If, Loop, Switch, Case, Clear, Call, Helper, Break, Continue, Return, ItemList, end, ◌▸◌}
use Rattle.acc_code.specs.AccSequence.{IsInFrame}
use Rattle.acc_code.specs.Emittable.{IsEmittableBody}
use Rattle.acc_code.specs.declared.item.CaseLabel.TheVariants.{Value, Default}
use Rattle.acc_code.specs.declared.operand.AccOperand.TheVariants as operand
use Rattle.acc_code.specs.declared.operand.HelperName.TheVariants.{DivInt}
use Rattle.acc_code.specs.declared.operation.AccOp.TheVariants as row
use Rattle.acc_code.specs.declared.operation.Test.TheVariants.{Nz, Z}

-- a function of two scalars, whose local objects have three cells and whose static objects have one, that calls function 1 of one parameter
abbrev cells : VarRef → Option ℕ
cells (Scalar n) = None
cells (Local n) = Some 3
cells (Static n) = Some 1

abbrev parameters : ℕ → Option ℕ
parameters zero = None
parameters (suc zero) = Some 1
parameters (suc (suc n)) = None

abbrev Takes : ItemList → Type 0
Takes body = IsEmittableBody 2 cells parameters true body

-- each item
abbrev reads_port : ItemList → ItemList
reads_port rest = Op (row.In 15) (operand.Scratch 14) ▸ Op (row.Lac 15) (operand.Scratch 14) ▸ Op (row.Sacl 7) (operand.Scalar 1) ▸ rest

abbrev calls : ItemList → ItemList
calls rest = Op (row.Lac 0) (operand.Direct (Static 0)) ▸ Op (row.Sacl 0) (operand.Param 1 0) ▸ Call 1 ▸ rest

abbrev divides : ItemList → ItemList
divides rest = Op (row.Sacl 0) (operand.Scratch 0) ▸ Op row.Lack (operand.Number 255) ▸ Op (row.Sacl 0) (operand.Scratch 1) ▸ Helper DivInt ▸ rest

abbrev points : ItemList
points = Op (row.Lalk 0) (operand.Address (Local 0) 3) ▸ Op row.Point operand.Nothing ▸ Op (row.Sacl 0) operand.Pointed ▸ end

abbrev loop : Item
loop = Loop (Op (row.Lac 0) (operand.Scalar 0) ▸ If Nz end (Break ▸ end) ▸ end) (If Z (Continue ▸ end) end ▸ end) (Break ▸ end) false

abbrev switch : Item
switch = Switch (Value 5 ∷ Default ∷ []) (Case 0 ▸ Break ▸ Case 1 ▸ Op row.Mpyk (operand.Number 4095) ▸ Break ▸ end)

abbrev each_item : ItemList
each_item = reads_port (Clear (Local 0) 3 ▸ calls (divides (If Nz points (Return ▸ end) ▸ loop ▸ switch ▸ Return ▸ end)))

each_item_taken : Takes each_item
each_item_taken = record { refers = search rules; placed = search rules; scratch = search rules }

-- one operation
abbrev alone : Item → ItemList
alone x = x ▸ end

-- a scratch word that is read behind an If, behind a call, and where nothing is stored
read_behind_if : Takes (Op (row.Sacl 0) (operand.Scratch 0) ▸ If Nz end end ▸ Op (row.Lac 0) (operand.Scratch 0) ▸ end) → ⊥
read_behind_if h = cc h.scratch.1.1.0

read_behind_call : Takes (Op (row.Sacl 0) (operand.Scratch 0) ▸ Call 1 ▸ Op (row.Lac 0) (operand.Scratch 0) ▸ end) → ⊥
read_behind_call h = cc h.scratch.1.1.0

read_other_word : Takes (Op (row.Sacl 0) (operand.Scratch 0) ▸ Op (row.Lac 0) (operand.Scratch 1) ▸ end) → ⊥
read_other_word h = cc h.scratch.1.0

-- a routine whose right operand isn't stored
routine_without_right : Takes (Op (row.Sacl 0) (operand.Scratch 0) ▸ Helper DivInt ▸ end) → ⊥
routine_without_right h = cc h.scratch.1.1

-- a parameter of another function that is read, and one that isn't there
param_read : Takes (alone (Op (row.Lac 0) (operand.Param 1 0))) → ⊥
param_read h = h.refers.0.taken

param_past : Takes (alone (Op (row.Sacl 0) (operand.Param 1 1))) → ⊥
param_past h = let there : 1 < 1 = h.refers.0.there in omega arith

-- jumps that nothing takes
continue_before : Takes (alone (Loop (Continue ▸ end) end end false)) → ⊥
continue_before h = cc h.placed.0.0.0

continue_behind : Takes (alone (Loop end end (Continue ▸ end) true)) → ⊥
continue_behind h = cc h.placed.0.2.0

continue_in_switch : Takes (alone (Switch [] (Continue ▸ end))) → ⊥
continue_in_switch h = cc h.placed.0.2.0

break_in_body : Takes (alone Break) → ⊥
break_in_body h = cc h.placed.0

-- a label in an If, one too few, two in another order, and two Defaults
case_in_if : Takes (alone (Switch (Value 5 ∷ []) (If Nz (Case 0 ▸ end) end ▸ end))) → ⊥
case_in_if h = cc h.placed.0.2.0.0.0

case_missing : Takes (alone (Switch (Value 5 ∷ Default ∷ []) (Case 0 ▸ end))) → ⊥
case_missing h = cc h.placed.0.1

cases_turned : Takes (alone (Switch (Value 5 ∷ Default ∷ []) (Case 1 ▸ Case 0 ▸ end))) → ⊥
cases_turned h = cc h.placed.0.1

two_defaults : Takes (alone (Switch (Default ∷ Default ∷ []) (Case 0 ▸ Case 1 ▸ end))) → ⊥
two_defaults h = h.placed.0.0 0 1 Default (omega arith) (omega arith) refl

-- shifts and constants past their ranges
shift_of_16 : Takes (alone (Op (row.Lac 16) (operand.Scalar 0))) → ⊥
shift_of_16 h = let range : 16 < 16 = h.refers.0.range in omega arith

store_shift_of_8 : Takes (alone (Op (row.Sacl 8) (operand.Scalar 0))) → ⊥
store_shift_of_8 h = let range : 8 < 8 = h.refers.0.range in omega arith

lack_of_256 : Takes (alone (Op row.Lack (operand.Number 256))) → ⊥
lack_of_256 h = let few : 256 < 256 = h.refers.0.taken in omega arith

mpyk_of_4096 : Takes (alone (Op row.Mpyk (operand.Number 4096))) → ⊥
mpyk_of_4096 h = cc h.refers.0.taken

-- places that aren't there: a scalar past the frame, the last scratch word, a scalar's address, a cell past the place behind the last one
scalar_past : Takes (alone (Op (row.Lac 0) (operand.Scalar 2))) → ⊥
scalar_past h = let there : 2 < 2 = h.refers.0.there in omega arith

scratch_past : Takes (alone (Op (row.Sacl 0) (operand.Scratch 15))) → ⊥
scratch_past h = let there : 15 < 15 = h.refers.0.there in omega arith

scalar_address : Takes (alone (Op (row.Lalk 0) (operand.Address (Scalar 0) 0))) → ⊥
scalar_address h = h.refers.0.there.0

address_past : Takes (alone (Op (row.Lalk 0) (operand.Address (Local 0) 4))) → ⊥
address_past h = let there : 4 ≤ 3 = h.refers.0.there.1 in omega arith

-- a static object that is cleared, and a function that isn't called
static_cleared : Takes (alone (Clear (Static 0) 0)) → ⊥
static_cleared h = h.refers.0.0

other_called : Takes (alone (Call 0)) → ⊥
other_called h = h.refers.0

-- a routine where none may be
no_routines : IsEmittableBody 2 cells parameters false (Op (row.Sacl 0) (operand.Scratch 0) ▸ Op (row.Sacl 0) (operand.Scratch 1) ▸ Helper DivInt ▸ end) → ⊥
no_routines h = cc h.refers.2.2.0

-- frames
two_in_frame : IsInFrame (record { name = []; scalars = 2; body = each_item })
two_in_frame = search (rules, arith)

one_scalar : IsInFrame (record { name = []; scalars = 1; body = each_item }) → ⊥
one_scalar h = let below : 1 < 1 = h.below.2.2.0 in omega arith

many_scalars : IsInFrame (record { name = []; scalars = 65; body = end }) → ⊥
many_scalars h = let few : 65 ≤ 64 = h.few in omega arith
