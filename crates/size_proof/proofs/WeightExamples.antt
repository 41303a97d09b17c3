-- Weights by hand: of `x + 1`, `x / y` and `*p = x + y`, and of their code.
use Rattle.std.proofs.Common.{◌≡◌, refl}
use Rattle.c_tree.specs.declared.program.VarRef.TheVariants.{Scalar}
use Rattle.tree_code.specs.WordTree as tree
use Rattle.tree_code.specs.WordTree.{ExprCode, Node, At}
use Rattle.tree_code.specs.declared.operator.WordOp.TheVariants as word
use Rattle.acc_select.specs.Selected.{code_of}
use Rattle.ir_semantics.specs.Weights.{expression_weight, items_weight}

abbrev x : ExprCode
x = Node (tree.Read (Scalar 0)) 0

abbrev y : ExprCode
y = Node (tree.Read (Scalar 1)) 0

abbrev sum : ExprCode
sum = Node (tree.Binary word.Add x y) 0

-- an operator 24 and a constant 2; LAC x 5, ADDK 1 2
one_more : (expression_weight (Node (tree.Binary word.Add x (Node (tree.Const 1) 0)) 0) ≡ 31) × (items_weight (code_of (Node (tree.Binary word.Add x (Node (tree.Const 1) 0)) 0) 9).effect ≡ 7)
one_more = (refl, refl)

-- LAC x 5, SACL s0 2, LAC y 5, SACL s1 2, the routine 7, SSXM 1
quotient : (expression_weight (Node (tree.Binary word.DivInt x y) 0) ≡ 34) × (items_weight (code_of (Node (tree.Binary word.DivInt x y) 0) 9).effect ≡ 22)
quotient = (refl, refl)

-- LAC p 5, SACL t 5, LAC x 5, ADD y 5, SACL s0 2, LAC t 5, Point 3, LAC s0 2, SACL * 2
store : (expression_weight (Node (tree.Assign (At x 0) sum) 0) ≡ 58) × (items_weight (code_of (Node (tree.Assign (At x 0) sum) 0) 9).effect ≡ 34)
store = (refl, refl)
