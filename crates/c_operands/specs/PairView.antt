-- The pure pairs of operands that the checker's stand for.
use Rattle.std.specs.Prelude.{ℕ, Bool, not, if◌then◌else◌}
use Rattle.c_tree.specs.TypedTree.{Expr}
use Rattle.c_tree.specs.Eval.{kind_of}
use Rattle.c_tree.specs.View.{expr_of}
use Rattle.c_operands.specs.declared.pairs.Pair as pairs
use Rattle.c_rules.specs.declared.fault.Rule.TheVariants.{Mismatch}
use Rattle.c_rules.specs.Kinds.{is_void_pointer}
use Rattle.c_rules.specs.Outcome.{Outcome, Is, breaks}
use Rattle.c_rules.specs.Operands.{Operand, Pair, converted_like}

abbrev pub pair_of : pairs.Pair → Pair
pair_of p = record { left = expr_of p.left.value; right = expr_of p.right.value }

-- the operands of a pair, and whether their texts are those of null pointers
abbrev pub left_of : pairs.Pair → Bool → Operand
left_of p null = record { value = expr_of p.left.value; null = null }

abbrev pub right_of : pairs.Pair → Bool → Operand
right_of p null = record { value = expr_of p.right.value; null = null }

-- two pointers, not of one type and not null, of which one may be a void pointer
abbrev pub beside_void : ℕ → Expr → Expr → Outcome Pair
beside_void at x y =
    if is_void_pointer (kind_of x) then Is (record { left = x; right = converted_like x y })
    else breaks (not (is_void_pointer (kind_of y))) Mismatch at (Is (record { left = converted_like y x; right = y }))
