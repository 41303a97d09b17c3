-- Accesses among operations.
use Rattle.std.proofs.Common.{◌≡◌, true, false, Bool, refl, Some, None, Option}
use Rattle.acc_code.specs.declared.operand.AccOperand.TheVariants as operand
use Rattle.acc_code.specs.declared.operand.AccOperand.{AccOperand}
use Rattle.acc_code.specs.AccTree.{Item, Op, If, Loop, Switch, Case, Clear, Call, Helper, Break, Continue, Return, ItemList, item}
use Rattle.emit_blocks.specs.Steps.{run_at}
use Rattle.emit_control.specs.Cuts.{has_access, is_access}
use Rattle.emit_control.specs.Emits.{operand_of}

abbrev access_or : Option AccOperand → Bool → Bool
access_or None later = false
access_or (Some (operand.Scalar n)) later = true
access_or (Some m) later = later

-- by the operand at the front
pub access_by : (x : Item) (xs : ItemList) → has_access (run_at (item x xs)) ≡ access_or (operand_of x) (has_access (run_at xs))
access_by (Op o (operand.Scalar n)) xs = refl
access_by (Op o operand.Nothing) xs = refl
access_by (Op o (operand.Direct v)) xs = refl
access_by (Op o (operand.Param f n)) xs = refl
access_by (Op o (operand.Scratch n)) xs = refl
access_by (Op o (operand.Number w)) xs = refl
access_by (Op o (operand.Address v n)) xs = refl
access_by (Op o operand.Pointed) xs = refl
access_by (If test hit miss) xs = refl
access_by (Loop before body behind last) xs = refl
access_by (Switch labels body) xs = refl
access_by (Case n) xs = refl
access_by (Clear v from) xs = refl
access_by (Call f) xs = refl
access_by (Helper name) xs = refl
access_by Break xs = refl
access_by Continue xs = refl
access_by Return xs = refl
