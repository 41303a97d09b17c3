-- Operands that need no code of their own: constants, and the words of names.
use Rattle.std.specs.Prelude.{ℕ, ◌-◌, ◌%◌, if◌then◌else◌, nat_lt}
use Rattle.c_syntax.specs.declared.operator.UnaryOp.TheVariants.{Minus}
use Rattle.c_tree.specs.declared.program.Initial.{Initial}
use Rattle.c_tree.specs.declared.program.Initial.TheVariants as initial
use Rattle.c_tree.specs.declared.program.VarRef.{VarRef}
use Rattle.c_tree.specs.declared.program.VarRef.TheVariants.{Scalar, Local, Static}
use Rattle.tree_code.specs.WordTree as tree
use Rattle.tree_code.specs.WordTree.{ExprCode, Node}
use Rattle.acc_code.specs.declared.operand.AccOperand.{AccOperand}
use Rattle.acc_code.specs.declared.operand.AccOperand.TheVariants as operand
use Rattle.acc_code.specs.declared.operation.AccOp.TheVariants as row
use Rattle.acc_code.specs.AccTree.{Item, Op}
use Rattle.acc_operations.specs.declared.constant.Constant.{Constant}
use Rattle.acc_operations.specs.declared.constant.Constant.TheVariants.{Number, Address}
use Rattle.acc_operations.specs.declared.constant.Shape.{Shape}
use Rattle.acc_operations.specs.declared.constant.Shape.TheVariants as shape
use Rattle.acc_operations.specs.declared.high_half.HighHalf.{HighHalf}
use Rattle.acc_operations.specs.declared.high_half.HighHalf.TheVariants.{Sign, Small}

abbrev pub negative : ℕ → ℕ
negative w = (65536 - w) % 65536

-- the word of a name of one cell
abbrev pub place_of : VarRef → AccOperand
place_of (Scalar n) = operand.Scalar n
place_of (Local n) = operand.Direct (Local n)
place_of (Static n) = operand.Direct (Static n)

abbrev pub shape_of : ExprCode → Shape
shape_of (Node (tree.Const w) at) = shape.Constant (Number w)
shape_of (Node (tree.AddressOf v) at) = shape.Constant (Address v 0)
shape_of (Node (tree.Unary Minus (Node (tree.Const w) a)) at) = shape.Constant (Number (negative w))
shape_of (Node (tree.Read v) at) = shape.Named (place_of v)
shape_of e = shape.Computed

abbrev pub constant_operand : Constant → AccOperand
constant_operand (Number w) = operand.Number w
constant_operand (Address v n) = operand.Address v n

-- loads a constant
abbrev pub load_constant : Constant → Item
load_constant (Number w) = if nat_lt w 256 then Op row.Lack (operand.Number w) else Op (row.Lalk 0) (operand.Number w)
load_constant (Address v n) = Op (row.Lalk 0) (operand.Address v n)

abbrev pub constant_high : Constant → HighHalf
constant_high (Number w) = if nat_lt w 32768 then Small else Sign
constant_high (Address v n) = Sign

-- what a cell starts with
abbrev pub initial_constant : Initial → Constant
initial_constant (initial.Word w) = Number w
initial_constant (initial.Address n i) = Address (Static n) i
initial_constant initial.Null = Number 0
