use Rattle.std.proofs.Common.{◌+◌, ◌*◌, max, drop}
use Rattle.c_syntax.specs.declared.expr.ExprKind.{size-ExprKind}
use Rattle.c_names.specs.Tables.{scope_of}
use Rattle.c_scopes.proofs.OperandsSoFar.{OperandsSoFar}
use Rattle.c_scopes.proofs.expressions.+expressions.Given as goal

-- an expression has the height of its tree as its measure, a form that of its highest part, and a list that of its highest
-- element; what calls another on the same tree stands above it
abbrev pub decreases-expression : goal.decreases-expression
decreases-expression l = 8 * size-ExprKind l.e.now.kind

abbrev pub decreases-operand : goal.decreases-operand
decreases-operand l = 8 * size-ExprKind l.e.now.kind + 1

abbrev pub decreases-boxed : goal.decreases-boxed
decreases-boxed l = 8 * size-ExprKind l.e.now.kind + 1

abbrev pub decreases-sides : goal.decreases-sides
decreases-sides l = 8 * max (size-ExprKind l.left.now.kind) (size-ExprKind l.right.now.kind) + 2

abbrev pub decreases-subscript : goal.decreases-subscript
decreases-subscript l = 8 * max (size-ExprKind l.operand.now.kind) (size-ExprKind l.index.now.kind) + 3

abbrev pub decreases-step_after : goal.decreases-step_after
decreases-step_after l = 8 * size-ExprKind l.operand.now.kind + 2

abbrev pub decreases-step_before : goal.decreases-step_before
decreases-step_before l = 8 * size-ExprKind l.operand.now.kind + 2

abbrev pub decreases-prefix : goal.decreases-prefix
decreases-prefix l = 8 * size-ExprKind l.operand.now.kind + 2

abbrev pub decreases-size : goal.decreases-size
decreases-size l = 8 * size-ExprKind l.operand.now.kind + 2

abbrev pub decreases-cast : goal.decreases-cast
decreases-cast l = 8 * size-ExprKind l.value.now.kind + 2

abbrev pub decreases-binary : goal.decreases-binary
decreases-binary l = 8 * max (size-ExprKind l.left.now.kind) (size-ExprKind l.right.now.kind) + 3

abbrev pub decreases-both : goal.decreases-both
decreases-both l = 8 * max (size-ExprKind l.left.now.kind) (size-ExprKind l.right.now.kind) + 3

abbrev pub decreases-either : goal.decreases-either
decreases-either l = 8 * max (size-ExprKind l.left.now.kind) (size-ExprKind l.right.now.kind) + 3

abbrev pub decreases-conditional : goal.decreases-conditional
decreases-conditional l = 8 * max (size-ExprKind l.test.now.kind) (max (size-ExprKind l.yes.now.kind) (size-ExprKind l.no.now.kind)) + 3

abbrev pub decreases-assignment : goal.decreases-assignment
decreases-assignment l = 8 * max (size-ExprKind l.left.now.kind) (size-ExprKind l.right.now.kind) + 3

abbrev pub decreases-assignment_by : goal.decreases-assignment_by
decreases-assignment_by l = 8 * max (size-ExprKind l.left.now.kind) (size-ExprKind l.right.now.kind) + 3

abbrev pub decreases-comma : goal.decreases-comma
decreases-comma l = 8 * max (size-ExprKind l.left.now.kind) (size-ExprKind l.right.now.kind) + 3

abbrev pub decreases-operands : goal.decreases-operands
decreases-operands l = 8 * goal.size-operands l + 2

abbrev pub decreases-constant_tree : goal.decreases-constant_tree
decreases-constant_tree l = 8 * size-ExprKind l.e.now.kind + 1

abbrev pub decreases-port_arguments : goal.decreases-port_arguments
decreases-port_arguments l = 8 * goal.size-port_arguments l + 3

abbrev pub decreases-arguments : goal.decreases-arguments
decreases-arguments l = 8 * goal.size-arguments l + 4

abbrev pub decreases-call : goal.decreases-call
decreases-call l = 8 * goal.size-call l + 5

abbrev pub decreases-constant_call : goal.decreases-constant_call
decreases-constant_call l = 8 * goal.size-constant_call l + 5

-- what the operands so far and those of the rest make together
abbrev pub invariant-operands-loop-e : goal.invariant-operands-loop-e
invariant-operands-loop-e l = OperandsSoFar (scope_of l.scopes) l.list (drop l.e-index l.list) l.operands.items
