-- The operations on words that operators stand for, by the types of their operands: ISO 9899:1990 6.3.5 to 6.3.12.
use Rattle.std.specs.Prelude.{Bool, ◌||◌, if◌then◌else◌}
use Rattle.c_tree.specs.c_syntax.declared.operator.BinaryOp.{BinaryOp}
use Rattle.c_tree.specs.c_syntax.declared.operator.BinaryOp.TheVariants as op
use Rattle.c_tree.specs.TypedTree.{Kind}
use Rattle.c_tree.specs.Eval.{is_unsigned, points}
use Rattle.tree_code.specs.declared.operator.WordOp.{WordOp}
use Rattle.tree_code.specs.declared.operator.WordOp.TheVariants as word

-- whether words of this type are ordered without a sign: pointers are addresses
abbrev pub is_ordered_unsigned : Kind → Bool
is_ordered_unsigned k = is_unsigned k || points k

abbrev pub one_of : Bool → WordOp → WordOp → WordOp
one_of unsigned of_unsigned of_int = if unsigned then of_unsigned else of_int

-- a shift is chosen by its left operand, a division, a remainder or an order by both. The others are the same with a sign or without
abbrev pub word_op : BinaryOp → Kind → Kind → WordOp
word_op op.Add k l = word.Add
word_op op.Sub k l = word.Sub
word_op op.Mul k l = word.Mul
word_op op.Div k l = one_of (is_ordered_unsigned k || is_ordered_unsigned l) word.DivUnsigned word.DivInt
word_op op.Rem k l = one_of (is_ordered_unsigned k || is_ordered_unsigned l) word.RemUnsigned word.RemInt
word_op op.And k l = word.And
word_op op.Or k l = word.Or
word_op op.Xor k l = word.Xor
word_op op.Shl k l = word.Shl
word_op op.Shr k l = one_of (is_unsigned k) word.ShrUnsigned word.ShrInt
word_op op.Eq k l = word.Eq
word_op op.Ne k l = word.Ne
word_op op.Lt k l = one_of (is_ordered_unsigned k || is_ordered_unsigned l) word.LtUnsigned word.LtInt
word_op op.Gt k l = one_of (is_ordered_unsigned k || is_ordered_unsigned l) word.GtUnsigned word.GtInt
word_op op.Le k l = one_of (is_ordered_unsigned k || is_ordered_unsigned l) word.LeUnsigned word.LeInt
word_op op.Ge k l = one_of (is_ordered_unsigned k || is_ordered_unsigned l) word.GeUnsigned word.GeInt
