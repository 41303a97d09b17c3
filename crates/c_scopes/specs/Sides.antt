-- Two expressions, from left to right.
use Rattle.c_syntax.specs.SyntaxTree.{Expression}
use Rattle.c_tree.specs.TypedTree.{Expr}
use Rattle.c_rules.specs.Outcome.{Outcome, ◌>>=◌}
use Rattle.c_rules.specs.Scopes.{Scope}
use Rattle.c_rules.specs.Typing.{typing}

-- the second one, where the first breaks no rule
abbrev pub left_then : Scope → Expression → Expression → Outcome Expr
left_then s left right = typing s left >>= λ x. typing s right
