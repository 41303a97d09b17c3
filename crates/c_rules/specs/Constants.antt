-- Constant expressions: ISO 9899:1990 6.4 (docs/LANGUAGE.md, "Types").
use Rattle.std.specs.Prelude.{ℕ, ◌==◌, ◌&&◌, ◌||◌, not, Bool, true, false, if◌then◌else◌, Option, Some, None}
use Rattle.word_base.specs.Words.{Calc, Good, Bad, truth}
use Rattle.c_tree.specs.c_syntax.declared.operator.UnaryOp.{UnaryOp}
use Rattle.c_tree.specs.c_syntax.declared.operator.BinaryOp.{BinaryOp}
use Rattle.c_tree.specs.c_syntax.declared.operator.BinaryOp.TheVariants as op
use Rattle.c_tree.specs.c_syntax.SyntaxTree as tree
use Rattle.c_tree.specs.c_syntax.SyntaxTree.{Expression, ExpressionForm}
use Rattle.c_tree.specs.TypedTree.{Kind, Expr, Node, Const, Unary, Binary, And, Or, Not, Pick, Convert}
use Rattle.c_tree.specs.Operators.{int_binary, unsigned_binary, int_unary, unsigned_unary}
use Rattle.c_tree.specs.Eval.{kind_of, points, is_unsigned, without_sign}

-- an expression without names of objects, calls, assignments, steps and commas, also under sizeof
abbrev mutual
  pub is_fixed : Expression → Bool
  is_fixed (tree.Node form at) = is_fixed_form form

  pub is_fixed_form : ExpressionForm → Bool
  is_fixed_form (tree.Name n) = false
  is_fixed_form (tree.Number v m d) = true
  is_fixed_form (tree.Character v) = true
  is_fixed_form (tree.Index a b) = is_fixed a && is_fixed b
  is_fixed_form (tree.Call n arguments) = false
  is_fixed_form (tree.StepAfter up e) = false
  is_fixed_form (tree.StepBefore up e) = false
  is_fixed_form (tree.Prefix o e) = is_fixed e
  is_fixed_form (tree.SizeofValue e) = is_fixed e
  is_fixed_form (tree.SizeofType t) = true
  is_fixed_form (tree.Cast t e) = is_fixed e
  is_fixed_form (tree.Binary o a b) = is_fixed a && is_fixed b
  is_fixed_form (tree.And a b) = is_fixed a && is_fixed b
  is_fixed_form (tree.Or a b) = is_fixed a && is_fixed b
  is_fixed_form (tree.Conditional c a b) = is_fixed c && is_fixed a && is_fixed b
  is_fixed_form (tree.Assign a b) = false
  is_fixed_form (tree.AssignOp o a b) = false
  is_fixed_form (tree.Comma a b) = false

-- a word, where the operator gives one
abbrev pub good : Calc → Option ℕ
good (Good w) = Some w
good (Bad kind) = None

-- an operator on the words of one and of two operands, where they are there
abbrev pub word_of_one : UnaryOp → Kind → Option ℕ → Option ℕ
word_of_one o k None = None
word_of_one o k (Some a) = good (if is_unsigned k then unsigned_unary o a else int_unary o a)

-- of two null pointers it is only known whether they are equal
abbrev pub compares : BinaryOp → Bool
compares op.Eq = true
compares op.Ne = true
compares o = false

abbrev pub calculated : BinaryOp → Kind → Kind → ℕ → ℕ → Option ℕ
calculated o k l a b =
    if (points k || points l) && not (compares o) then None
    else good (if without_sign o k l then unsigned_binary o a b else int_binary o a b)

abbrev pub word_of_two : BinaryOp → Kind → Kind → Option ℕ → Option ℕ → Option ℕ
word_of_two o k l (Some a) (Some b) = calculated o k l a b
word_of_two o k l a b = None

-- the truth value of a word
abbrev pub truth_of : Option ℕ → Option ℕ
truth_of None = None
truth_of (Some a) = Some (truth (not (a == 0)))

-- what stands behind a test
abbrev pub tested : {A : Type 0} → Option ℕ → Option A → Option A → Option A
tested None other zero_case = None
tested (Some a) other zero_case = if a == 0 then zero_case else other

-- the word of an expression that computes one from constants alone; that of the null pointer is 0
abbrev pub word_of : Expr → Option ℕ
word_of (Node (Const w) kind at) = Some w
word_of (Node (Unary o e) kind at) = word_of_one o kind (word_of e)
word_of (Node (Binary o a b) kind at) = word_of_two o (kind_of a) (kind_of b) (word_of a) (word_of b)
word_of (Node (And a b) kind at) = tested (word_of a) (truth_of (word_of b)) (Some 0)
word_of (Node (Or a b) kind at) = tested (word_of a) (Some 1) (truth_of (word_of b))
word_of (Node (Not a) kind at) = tested (word_of a) (Some 0) (Some 1)
word_of (Node (Pick c a b) kind at) = tested (word_of c) (word_of a) (word_of b)
word_of (Node (Convert e) None at) = None
word_of (Node (Convert e) (Some kind) at) = word_of e
word_of e = None

-- the word of a constant expression, which is typed as this
abbrev pub constant : Expression → Expr → Option ℕ
constant e x = if is_fixed e then word_of x else None
