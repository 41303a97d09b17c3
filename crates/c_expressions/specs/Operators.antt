-- The operators that the parser tells apart, by what they are in the grammar.
use Rattle.std.specs.Prelude.{◌≡◌, Bool, Option, Some, None}
use Rattle.c_syntax.specs.declared.operator.BinaryOp.{BinaryOp}
use Rattle.c_syntax.specs.declared.operator.BinaryOp.TheVariants as binary
use Rattle.c_syntax.specs.declared.token.Punct.{Punct}
use Rattle.c_syntax.specs.declared.syntax.PrefixOp.{PrefixOp}
use Rattle.c_syntax.specs.SyntaxTree.{Expression, ExpressionForm, And, Or, Binary, Assign, AssignOp}
use Rattle.c_syntax.specs.Grammar.{Row, OrRow, AndRow, BitOrRow, BitXorRow, BitAndRow, EqualityRow, RelationRow, ShiftRow, SumRow, ProductRow, CastRow}
use Rattle.c_syntax.specs.Lookahead.{Next, OrNext, AndNext, BinaryNext, AssignNext, AssignOpNext, Start, StepStart, PrefixStart, mark_start}
use Rattle.c_expressions.specs.declared.operators.Level.{Level}
use Rattle.c_expressions.specs.declared.operators.Level.TheVariants as level
use Rattle.c_expressions.specs.declared.operators.Infix.{Infix}
use Rattle.c_expressions.specs.declared.operators.Infix.TheVariants as between
use Rattle.c_expressions.specs.declared.operators.Assignment.{Assignment}
use Rattle.c_expressions.specs.declared.operators.Assignment.TheVariants as assignment

abbrev pub level_row : Level → Row
level_row level.Or = OrRow
level_row level.And = AndRow
level_row level.BitOr = BitOrRow
level_row level.BitXor = BitXorRow
level_row level.BitAnd = BitAndRow
level_row level.Equality = EqualityRow
level_row level.Relation = RelationRow
level_row level.Shift = ShiftRow
level_row level.Sum = SumRow
level_row level.Product = ProductRow

-- the row of a level, or of a cast where there is none
abbrev pub row_at : Option Level → Row
row_at (Some l) = level_row l
row_at None = CastRow

abbrev pub binary_level : BinaryOp → Level
binary_level binary.Or = level.BitOr
binary_level binary.Xor = level.BitXor
binary_level binary.And = level.BitAnd
binary_level binary.Eq = level.Equality
binary_level binary.Ne = level.Equality
binary_level binary.Lt = level.Relation
binary_level binary.Gt = level.Relation
binary_level binary.Le = level.Relation
binary_level binary.Ge = level.Relation
binary_level binary.Shl = level.Shift
binary_level binary.Shr = level.Shift
binary_level binary.Add = level.Sum
binary_level binary.Sub = level.Sum
binary_level binary.Mul = level.Product
binary_level binary.Div = level.Product
binary_level binary.Rem = level.Product

-- the operator between operands that goes on, and its level
abbrev pub next_infix : Next → Option (Level × Infix)
next_infix OrNext = Some (level.Or, between.Or)
next_infix AndNext = Some (level.And, between.And)
next_infix (BinaryNext op) = Some (binary_level op, between.Value op)
next_infix next = None

abbrev pub infix_form : Infix → Expression → Expression → ExpressionForm
infix_form between.Or left right = Or left right
infix_form between.And left right = And left right
infix_form (between.Value op) left right = Binary op left right

-- the assignment that goes on
abbrev pub next_assignment : Next → Option Assignment
next_assignment AssignNext = Some assignment.Plain
next_assignment (AssignOpNext op) = Some (assignment.With op)
next_assignment next = None

abbrev pub assignment_form : Assignment → Expression → Expression → ExpressionForm
assignment_form assignment.Plain left right = Assign left right
assignment_form (assignment.With op) left right = AssignOp op left right

-- the step or the operator that stands before an operand
abbrev pub start_step : Start → Option Bool
start_step (StepStart up) = Some up
start_step start = None

abbrev pub start_prefix : Start → Option PrefixOp
start_prefix (PrefixStart op) = Some op
start_prefix start = None

-- a token is an operator of a level
abbrev pub IsInfix : Level → Next → Infix → Type 0
IsInfix l next operator = next_infix next ≡ Some (l, operator)

abbrev pub step_at : Option Punct → Option Bool
step_at None = None
step_at (Some m) = start_step (mark_start m None)

abbrev pub prefix_at : Option Punct → Option PrefixOp
prefix_at None = None
prefix_at (Some m) = start_prefix (mark_start m None)
