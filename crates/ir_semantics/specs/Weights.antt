-- What word trees and accumulator code weigh, so that the weight of code bounds its words. Each node or item counts once.
use Rattle.std.specs.Prelude.{[], ◌∷◌, ℕ, ◌+◌, ◌*◌, List, length, slice_get, Option, Some, None}
use Rattle.c_tree.specs.TypedTree.{ObjectTree}
use Rattle.tree_code.specs.WordTree as tree
use Rattle.tree_code.specs.WordTree.{ExprCode, Node, Named, At, ExprsCode, StmtCode, StmtsCode, ChoicesCode, FunctionCode, ProgramCode}
use Rattle.acc_code.specs.AccTree.{Item, Op, If, Loop, Switch, Case, Clear, Call, Helper, Break, Continue, Return, ItemList, end, item, FunctionItems}
use Rattle.ir_semantics.specs.AccRows.{operation_weight}
use Rattle.ir_semantics.specs.AccRun.{labels_weight}

abbrev mutual
  pub expression_weight : ExprCode → ℕ
  expression_weight (Node (tree.Const w) at) = 2
  expression_weight (Node (tree.Read v) at) = 5
  expression_weight (Node (tree.AddressOf v) at) = 2
  expression_weight (Node (tree.Load e) at) = 5 + expression_weight e
  expression_weight (Node (tree.Unary o e) at) = 1 + expression_weight e
  expression_weight (Node (tree.Binary o a b) at) = 24 + (expression_weight a + expression_weight b)
  expression_weight (Node (tree.And a b) at) = 20 + (expression_weight a + expression_weight b)
  expression_weight (Node (tree.Or a b) at) = 20 + (expression_weight a + expression_weight b)
  expression_weight (Node (tree.Not e) at) = 10 + expression_weight e
  expression_weight (Node (tree.Pick c a b) at) = 14 + (expression_weight c + (expression_weight a + expression_weight b))
  expression_weight (Node (tree.Assign (Named v place) e) at) = 19 + expression_weight e
  expression_weight (Node (tree.Assign (At p place) e) at) = 19 + (expression_weight p + expression_weight e)
  expression_weight (Node (tree.AssignOp o (Named v place) e) at) = 48 + expression_weight e
  expression_weight (Node (tree.AssignOp o (At p place) e) at) = 48 + (expression_weight p + expression_weight e)
  expression_weight (Node (tree.StepBefore up (Named v place)) at) = 14
  expression_weight (Node (tree.StepBefore up (At p place)) at) = 14 + expression_weight p
  expression_weight (Node (tree.StepAfter up (Named v place)) at) = 14
  expression_weight (Node (tree.StepAfter up (At p place)) at) = 14 + expression_weight p
  expression_weight (Node (tree.Call f es) at) = 2 + arguments_weight es
  expression_weight (Node (tree.In port) at) = 4
  expression_weight (Node (tree.Out port e) at) = 4 + expression_weight e
  expression_weight (Node (tree.Comma a b) at) = 1 + (expression_weight a + expression_weight b)

  -- an argument counts besides what it is
  pub arguments_weight : ExprsCode → ℕ
  arguments_weight tree.none = 0
  arguments_weight (tree.more e rest) = 12 + (expression_weight e + arguments_weight rest)

abbrev pub optional_weight : Option ExprCode → ℕ
optional_weight None = 0
optional_weight (Some e) = expression_weight e

-- the list of a local array counts where it is filled
abbrev pub fill_weight : Option ObjectTree → ℕ
fill_weight None = 9
fill_weight (Some o) = 9 + 9 * length o.initial

-- in a function of these local objects
module _ (locals : List ObjectTree) where
  abbrev mutual
    pub statement_weight : StmtCode → ℕ
    statement_weight (tree.Block declared ss) = 1 + statements_weight ss
    statement_weight (tree.Fill n) = fill_weight (slice_get locals n)
    statement_weight (tree.Do_expr e) = 1 + expression_weight e
    statement_weight (tree.If e a b) = 6 + (expression_weight e + (statement_weight a + statement_weight b))
    statement_weight (tree.While e a) = 14 + (expression_weight e + statement_weight a)
    statement_weight (tree.Do_while a e) = 14 + (statement_weight a + expression_weight e)
    statement_weight (tree.For x y z a) = 14 + ((optional_weight x + optional_weight y) + (optional_weight z + statement_weight a))
    statement_weight (tree.Switch e cs) = 8 + (expression_weight e + choices_weight cs)
    statement_weight tree.Break = 2
    statement_weight tree.Continue = 2
    statement_weight (tree.Return e) = 3 + optional_weight e

    pub statements_weight : StmtsCode → ℕ
    statements_weight tree.done = 0
    statements_weight (tree.both s rest) = statement_weight s + statements_weight rest

    pub choices_weight : ChoicesCode → ℕ
    choices_weight tree.no_more = 0
    choices_weight (tree.case w rest) = 7 + choices_weight rest
    choices_weight (tree.default rest) = 2 + choices_weight rest
    choices_weight (tree.body s rest) = statement_weight s + choices_weight rest

-- static objects, with their lists
abbrev pub statics_weight : List ObjectTree → ℕ
statics_weight [] = 0
statics_weight (o ∷ os) = 2 + 3 * length o.initial + statics_weight os

abbrev pub function_weight : FunctionCode → ℕ
function_weight f = 10 + statement_weight f.locals f.body

abbrev pub functions_weight : List FunctionCode → ℕ
functions_weight [] = 0
functions_weight (f ∷ fs) = function_weight f + functions_weight fs

abbrev pub tree_weight : ProgramCode → ℕ
tree_weight p = statics_weight p.statics + functions_weight p.functions

-- accumulator code
abbrev mutual
  pub item_weight : Item → ℕ
  item_weight (Op o m) = operation_weight o m
  item_weight (If t hit miss) = 4 + (items_weight hit + items_weight miss)
  item_weight (Loop before body third last) = 6 + (items_weight before + (items_weight body + items_weight third))
  item_weight (Switch labels body) = 4 + (labels_weight labels + items_weight body)
  item_weight (Case n) = 1
  item_weight (Clear v from) = 9
  item_weight (Call f) = 2
  item_weight (Helper name) = 7
  item_weight Break = 2
  item_weight Continue = 2
  item_weight Return = 3

  pub items_weight : ItemList → ℕ
  items_weight end = 0
  items_weight (item x xs) = item_weight x + items_weight xs

abbrev pub function_items_weight : FunctionItems → ℕ
function_items_weight g = 5 + items_weight g.body

abbrev pub lists_weight : List FunctionItems → ℕ
lists_weight [] = 0
lists_weight (g ∷ gs) = function_items_weight g + lists_weight gs

-- the code of a program with these static objects
abbrev pub code_weight : List ObjectTree → List FunctionItems → ℕ
code_weight statics gs = statics_weight statics + lists_weight gs
