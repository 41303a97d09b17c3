-- Lists of operands, one behind another.
use Rattle.std.proofs.Common.{◌≡◌, List, ◌++◌, map}
use Rattle.c_syntax.specs.declared.expr.Expr.{Expr}
use Rattle.c_syntax.specs.SyntaxView.{trees_of}
use Rattle.c_conversions.specs.declared.conversions.Operand.{Operand}
use Rattle.c_rules.specs.Outcome.{Is, ◌>>=◌}
use Rattle.c_rules.specs.Scopes.{Scope}
use Rattle.c_rules.specs.Typing.{operands}
use Rattle.c_conversions.specs.OperandView.{operand_of}

-- what was typed of a list, and what is left of it
abbrev pub OperandsSoFar : Scope → List Expr → List Expr → List Operand → Type 0
OperandsSoFar s list rest xs = operands s (trees_of list) ≡ (operands s (trees_of rest) >>= λ ys. Is (map operand_of xs ++ ys))
