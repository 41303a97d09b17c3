-- The word tree of a well-typed expression of words is one of words: lowering adds no constant, and the rules of types leave comparisons
-- out where an operation assigns.
use Rattle.std.proofs.Common.{◌≡◌, ℕ, Bool, true, false}
use Rattle.std.specs.Prelude.{◌&&◌, ◌||◌, if◌then◌else◌}
use Rattle.c_syntax.specs.declared.operator.BinaryOp.{BinaryOp}
use Rattle.c_syntax.specs.declared.operator.BinaryOp.TheVariants as op
use Rattle.c_syntax.specs.declared.operator.UnaryOp.{UnaryOp}
use Rattle.c_syntax.specs.declared.operator.UnaryOp.TheVariants.{Plus}
use Rattle.c_tree.specs.Eval.{kind_of, is_unsigned}
use Rattle.c_tree.specs.TypedTree as tree
use Rattle.c_tree.specs.TypedTree.{Kind, Node, Named, At}
use Rattle.c_tree.specs.WellFormed.{Names, Updates, Updates_word, Updates_pointer, is_comparison, moves, IsWellTyped, AreWellTyped, IsTarget}
use Rattle.tree_code.specs.Lowered.{is_minus, is_number, is_converted, lowered_unary, lowered, lowered_target, lowered_list}
use Rattle.tree_code.specs.Operations.{word_op, one_of, is_ordered_unsigned}
use Rattle.tree_code.specs.WordTree as code
use Rattle.tree_code.specs.declared.operator.WordOp.{WordOp}
use Rattle.acc_select.specs.acc_operations.Kinds.{operation_of}
use Rattle.acc_select_proof.specs.OfWords.{GivesWord, IsOfWords, HasWordParts, IsTargetOfWords, AreOfWords}
use Rattle.c_tree.specs.TypedOfWords.{UsesWords, TargetUsesWords, AllUseWords}

-- an operation that is one of two that give words gives one
either_gives : (b : Bool) (m n : WordOp) → GivesWord (operation_of m) → GivesWord (operation_of n) → GivesWord (operation_of (one_of b m n))
either_gives true m n h k = h
either_gives false m n h k = k

-- what is no comparison gives a word
calculation_gives : (o : BinaryOp) (k l : Kind) → is_comparison o ≡ false → GivesWord (operation_of (word_op o k l))
calculation_gives op.Add k l calculates = tt
calculation_gives op.Sub k l calculates = tt
calculation_gives op.Mul k l calculates = tt
calculation_gives op.Div k l calculates = either_gives (is_ordered_unsigned k || is_ordered_unsigned l) _ _ tt tt
calculation_gives op.Rem k l calculates = either_gives (is_ordered_unsigned k || is_ordered_unsigned l) _ _ tt tt
calculation_gives op.And k l calculates = tt
calculation_gives op.Or k l calculates = tt
calculation_gives op.Xor k l calculates = tt
calculation_gives op.Shl k l calculates = tt
calculation_gives op.Shr k l calculates = either_gives (is_unsigned k) _ _ tt tt
calculation_gives op.Eq k l calculates = absurd cc
calculation_gives op.Ne k l calculates = absurd cc
calculation_gives op.Lt k l calculates = absurd cc
calculation_gives op.Gt k l calculates = absurd cc
calculation_gives op.Le k l calculates = absurd cc
calculation_gives op.Ge k l calculates = absurd cc

-- what moves a pointer is no comparison
move_calculates : (o : BinaryOp) → moves o ≡ true → is_comparison o ≡ false
move_calculates op.Add is = cc
move_calculates op.Sub is = cc
move_calculates op.Mul is = absurd cc
move_calculates op.Div is = absurd cc
move_calculates op.Rem is = absurd cc
move_calculates op.And is = absurd cc
move_calculates op.Or is = absurd cc
move_calculates op.Xor is = absurd cc
move_calculates op.Shl is = absurd cc
move_calculates op.Shr is = absurd cc
move_calculates op.Eq is = absurd cc
move_calculates op.Ne is = absurd cc
move_calculates op.Lt is = absurd cc
move_calculates op.Gt is = absurd cc
move_calculates op.Le is = absurd cc
move_calculates op.Ge is = absurd cc

update_gives : (o : BinaryOp) (k l : Kind) → Updates o k l → GivesWord (operation_of (word_op o k l))
update_gives o k l (Updates_word calculates a b) = calculation_gives o k l calculates
update_gives o k l (Updates_pointer is a b) = calculation_gives o k l (move_calculates o is)

-- a plus that stands for a conversion is no constant
unary_by : (o : UnaryOp) (form : code.FormCode) (place at : ℕ) (b : Bool) → HasWordParts form
    → IsOfWords (if b then code.Node (code.Unary o (code.Node (code.Unary Plus (code.Node form place)) place)) at else code.Node (code.Unary o (code.Node form place)) at)
unary_by o form place at true h = h
unary_by o form place at false h = h

unary_of_words : (o : UnaryOp) (converted : Bool) (e : code.ExprCode) (at : ℕ) → IsOfWords e → IsOfWords (lowered_unary o converted e at)
unary_of_words o converted (code.Node form place) at h = unary_by o form place at (is_minus o && (converted && is_number form)) h

module _ (names : Names) where
  mutual
    pub expression_of_words : (e : tree.Expr) → IsWellTyped names e → UsesWords e → IsOfWords (lowered e)
    expression_of_words (Node (tree.Const w) kind at) t h = h
    expression_of_words (Node (tree.Read v) kind at) t h = tt
    expression_of_words (Node (tree.AddressOf v) kind at) t h = tt
    expression_of_words (Node (tree.Load e) kind at) t h = expression_of_words e t.1.0 h
    expression_of_words (Node (tree.Unary o e) kind at) t h = unary_of_words o (is_converted e) (lowered e) at (expression_of_words e t.1.0 h)
    expression_of_words (Node (tree.Binary o a b) kind at) t h = (expression_of_words a t.1.0 h.0, expression_of_words b t.1.1 h.1)
    expression_of_words (Node (tree.And a b) kind at) t h = (expression_of_words a t.1.0 h.0, expression_of_words b t.1.1 h.1)
    expression_of_words (Node (tree.Or a b) kind at) t h = (expression_of_words a t.1.0 h.0, expression_of_words b t.1.1 h.1)
    expression_of_words (Node (tree.Not e) kind at) t h = expression_of_words e t.1.0 h
    expression_of_words (Node (tree.Pick c a b) kind at) t h = (expression_of_words c t.1.0 h.0, expression_of_words a t.1.1 h.1, expression_of_words b t.1.2 h.2)
    expression_of_words (Node (tree.Assign l e) kind at) t h = (target_of_words l kind t.1.0 h.0, expression_of_words e t.1.1 h.1)
    expression_of_words (Node (tree.AssignOp o l e) kind at) t h = (update_gives o kind (kind_of e) t.1.2, target_of_words l kind t.1.0 h.0, expression_of_words e t.1.1 h.1)
    expression_of_words (Node (tree.StepBefore up l) kind at) t h = target_of_words l kind t.1 h
    expression_of_words (Node (tree.StepAfter up l) kind at) t h = target_of_words l kind t.1 h
    expression_of_words (Node (tree.Call f es) kind at) t h = list_of_words es t.1.0 h
    expression_of_words (Node (tree.In port) kind at) t h = tt
    expression_of_words (Node (tree.Out port e) kind at) t h = expression_of_words e t.1.0 h
    expression_of_words (Node (tree.Comma a b) kind at) t h = (expression_of_words a t.1.0 h.0, expression_of_words b t.1.1 h.1)
    expression_of_words (Node (tree.Convert e) kind at) t h = expression_of_words e t.1.0 h

    target_of_words : (l : tree.Lvalue) (kind : Kind) → IsTarget names l kind → TargetUsesWords l → IsTargetOfWords (lowered_target l)
    target_of_words (Named v at) kind t h = tt
    target_of_words (At e at) kind t h = expression_of_words e t.0 h

    list_of_words : (es : tree.Exprs) → AreWellTyped names es → AllUseWords es → AreOfWords (lowered_list es)
    list_of_words tree.none t h = tt
    list_of_words (tree.more e rest) t h = (expression_of_words e t.0 h.0, list_of_words rest t.1 h.1)
