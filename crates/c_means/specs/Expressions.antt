-- Parts of what expressions do.
use Rattle.std.specs.Prelude.{ℕ, Bool}
use Rattle.c_tree.specs.Store.{Value, Does, ◌>>=◌}
use Rattle.c_tree.specs.TypedTree.{Expr}
use Rattle.c_tree.specs.Eval.{Calls, Env, eval, value, need, test_of, expression_place}

-- the value of an expression, which is missed where there is none
abbrev pub needed : Calls → Env → Expr → Does Value
needed calls env e = eval calls env e >>= need (expression_place e)

-- whether the value of an operand is true, tested at a place
abbrev pub tested : Calls → Env → Expr → ℕ → Does Bool
tested calls env e at = value calls env e >>= λ v. test_of v at
