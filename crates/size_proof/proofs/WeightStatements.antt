-- The code of statements, functions and programs weighs at most what the word tree does.
use Rattle.std.proofs.Common.{◌≡◌, ℕ, suc, ◌+◌, ◌-◌, ◌*◌, ◌≤◌, Bool, true, false, List, [], ◌∷◌, map, length, Option, Some, None, refl, arith}
use Rattle.std.specs.Prelude.{◌==◌, if◌then◌else◌, slice_get}
use Rattle.c_tree.specs.declared.program.Initial.{Initial}
use Rattle.c_tree.specs.declared.program.VarRef.TheVariants.{Local}
use Rattle.c_tree.specs.TypedTree.{ObjectTree}
use Rattle.tree_code.specs.WordTree as tree
use Rattle.tree_code.specs.WordTree.{ExprCode, Node, StmtCode, StmtsCode, ChoicesCode, FunctionCode, ProgramCode}
use Rattle.tree_code.specs.WordTemporaries.{word_statement_temporaries}
use Rattle.acc_code.specs.AccTree.{Loop, Switch, Break, Return, ItemList, end, ◌▸◌, ◌⧺◌}
use Rattle.acc_select.specs.acc_operations.Constants.{initial_constant}
use Rattle.acc_select.specs.acc_operations.Words.{loaded, clear_high, high}
use Rattle.acc_select.specs.acc_operations.declared.constant.Constant.TheVariants.{Address}
use Rattle.acc_select.specs.Conditions.{Nothing, Breaks, number}
use Rattle.acc_select.specs.Selected.{code_of, optional_effect, test_items, optional_test, labels_of, cell_items, fill_items, part_of, statement_items, statements_items, choices_items, ends_with_return, closed_main, body_items, is_main, selected, selected_function}
use Rattle.ir_semantics.specs.AccRun.{labels_weight}
use Rattle.ir_semantics.specs.Weights.{expression_weight, optional_weight, fill_weight, statement_weight, statements_weight, choices_weight, function_weight, functions_weight, tree_weight, items_weight, function_items_weight, lists_weight, code_weight}
use Rattle.size_proof.proofs.Weighing.{Weighs, weight_of, load_constant_weighs, loaded_weighs, clear_high_weighs}
use Rattle.size_proof.proofs.Branching.{part_weight}
use Rattle.size_proof.proofs.WeightExpressions.{expression_weighs}

-- a local array gets its list
cells_weigh : (n i : ℕ) (xs : List Initial) → items_weight (cell_items n i xs) ≡ 9 + 9 * length xs
cells_weigh n i [] = refl
cells_weigh n i (x ∷ xs) =
    let h = cells_weigh n (suc i) xs in
    let a = load_constant_weighs (Address (Local n) i) in
    let b = load_constant_weighs (initial_constant x) in
    omega (arith, h, a, b)

fill_weighs : (n : ℕ) (o : Option ObjectTree) → Weighs (fill_items n o) (fill_weight o)
fill_weighs n None = omega arith
fill_weighs n (Some o) = let h = cells_weigh n 0 o.initial in omega (arith, h)

module _ (locals : List ObjectTree) (t : ℕ) where
  -- a part stands for the items of its statement
  part_weighs : (s : StmtCode) (items : ItemList) (k : ℕ) → Weighs items k → statement_weight locals s ≤ k → part_weight (part_of s items) ≤ k
  part_weighs tree.Break items k h le = le
  part_weighs tree.Continue items k h le = le
  part_weighs (tree.Block declared tree.done) items k h le = omega arith
  part_weighs (tree.Block declared (tree.both s tree.done)) items k h le = part_weighs s items k h (omega (arith, le))
  part_weighs (tree.Block declared (tree.both s (tree.both r rest))) items k h le = h
  part_weighs (tree.Fill n) items k h le = h
  part_weighs (tree.Do_expr e) items k h le = h
  part_weighs (tree.If e a b) items k h le = h
  part_weighs (tree.While e a) items k h le = h
  part_weighs (tree.Do_while a e) items k h le = h
  part_weighs (tree.For x y z a) items k h le = h
  part_weighs (tree.Switch e cs) items k h le = h
  part_weighs (tree.Return e) items k h le = h

  effect_weighs : (e : Option ExprCode) → Weighs (optional_effect e t) (optional_weight e)
  effect_weighs None = omega arith
  effect_weighs (Some e) = (expression_weighs e t).effect

  branch_weighs : (e : ExprCode) → Weighs ((code_of e t).branch true Nothing Breaks) (expression_weight e + 8)
  branch_weighs e = let h = (expression_weighs e t).branch true Nothing Breaks in omega (arith, h)

  test_weighs : (e : ExprCode) → Weighs (test_items e t) (expression_weight e + 8)
  test_weighs (Node (tree.Const w) at) = one (w == 0)
    where
      one : (b : Bool) → Weighs (if b then Break ▸ end else end) 10
      one true = omega arith
      one false = omega arith
  test_weighs (Node (tree.Read v) at) = branch_weighs (Node (tree.Read v) at)
  test_weighs (Node (tree.AddressOf v) at) = branch_weighs (Node (tree.AddressOf v) at)
  test_weighs (Node (tree.Load e) at) = branch_weighs (Node (tree.Load e) at)
  test_weighs (Node (tree.Unary o e) at) = branch_weighs (Node (tree.Unary o e) at)
  test_weighs (Node (tree.Binary o a b) at) = branch_weighs (Node (tree.Binary o a b) at)
  test_weighs (Node (tree.And a b) at) = branch_weighs (Node (tree.And a b) at)
  test_weighs (Node (tree.Or a b) at) = branch_weighs (Node (tree.Or a b) at)
  test_weighs (Node (tree.Not a) at) = branch_weighs (Node (tree.Not a) at)
  test_weighs (Node (tree.Pick c a b) at) = branch_weighs (Node (tree.Pick c a b) at)
  test_weighs (Node (tree.Assign l e) at) = branch_weighs (Node (tree.Assign l e) at)
  test_weighs (Node (tree.AssignOp o l e) at) = branch_weighs (Node (tree.AssignOp o l e) at)
  test_weighs (Node (tree.StepBefore up l) at) = branch_weighs (Node (tree.StepBefore up l) at)
  test_weighs (Node (tree.StepAfter up l) at) = branch_weighs (Node (tree.StepAfter up l) at)
  test_weighs (Node (tree.Call f es) at) = branch_weighs (Node (tree.Call f es) at)
  test_weighs (Node (tree.In port) at) = branch_weighs (Node (tree.In port) at)
  test_weighs (Node (tree.Out port e) at) = branch_weighs (Node (tree.Out port e) at)
  test_weighs (Node (tree.Comma a b) at) = branch_weighs (Node (tree.Comma a b) at)

  optional_test_weighs : (e : Option ExprCode) → Weighs (optional_test e t) (optional_weight e + 8)
  optional_test_weighs None = omega arith
  optional_test_weighs (Some e) = test_weighs e

  mutual
    pub statement_weighs : (s : StmtCode) → Weighs (statement_items locals t s) (statement_weight locals s)
    statement_weighs (tree.Block declared ss) = let h = statements_weigh ss in omega (arith, h)
    statement_weighs (tree.Fill n) = fill_weighs n (slice_get locals n)
    statement_weighs (tree.Do_expr e) = let h = (expression_weighs e t).effect in omega (arith, h)
    statement_weighs (tree.If e a b) =
        let h = (expression_weighs e t).branch true (part_of a (statement_items locals t a)) (part_of b (statement_items locals t b)) in
        let x = part_weighs a (statement_items locals t a) (statement_weight locals a) (statement_weighs a) (omega arith) in
        let y = part_weighs b (statement_items locals t b) (statement_weight locals b) (statement_weighs b) (omega arith) in
        omega (arith, h, x, y)
    statement_weighs (tree.While e a) = let h = test_weighs e in let k = statement_weighs a in omega (arith, h, k)
    statement_weighs (tree.Do_while a e) = let h = test_weighs e in let k = statement_weighs a in omega (arith, h, k)
    statement_weighs (tree.For x y z a) =
        let first = effect_weighs x in
        let test = optional_test_weighs y in
        let third = effect_weighs z in
        let each = statement_weighs a in
        let l = weight_of (optional_effect x t) (Loop (optional_test y t) (statement_items locals t a) (optional_effect z t) false ▸ end) in
        omega (arith, first, test, third, each, l)
    statement_weighs (tree.Switch e cs) =
        let w = loaded_weighs (code_of e t).word (expression_weight e) (expression_weighs e t).word in
        let c = clear_high_weighs (high (code_of e t).word.found) in
        let k = choices_weigh cs 0 in
        let a = weight_of (loaded (code_of e t).word) (clear_high (high (code_of e t).word.found) ⧺ Switch (labels_of cs) (choices_items locals t cs 0) ▸ end) in
        let b = weight_of (clear_high (high (code_of e t).word.found)) (Switch (labels_of cs) (choices_items locals t cs 0) ▸ end) in
        omega (arith, w, c, k, a, b)
    statement_weighs tree.Break = omega arith
    statement_weighs tree.Continue = omega arith
    statement_weighs (tree.Return None) = omega arith
    statement_weighs (tree.Return (Some e)) =
        let w = loaded_weighs (code_of e t).word (expression_weight e) (expression_weighs e t).word in
        let l = weight_of (loaded (code_of e t).word) (Return ▸ end) in
        omega (arith, w, l)

    statements_weigh : (ss : StmtsCode) → Weighs (statements_items locals t ss) (statements_weight locals ss)
    statements_weigh tree.done = omega arith
    statements_weigh (tree.both s rest) =
        let h = statement_weighs s in let k = statements_weigh rest in let l = weight_of (statement_items locals t s) (statements_items locals t rest) in omega (arith, h, k, l)

    -- with their labels
    choices_weigh : (cs : ChoicesCode) (i : ℕ) → items_weight (choices_items locals t cs i) + labels_weight (labels_of cs) ≤ choices_weight locals cs
    choices_weigh tree.no_more i = omega arith
    choices_weigh (tree.case w rest) i = let h = choices_weigh rest (suc i) in omega (arith, h)
    choices_weigh (tree.default rest) i = let h = choices_weigh rest (suc i) in omega (arith, h)
    choices_weigh (tree.body s rest) i =
        let h = statement_weighs s in let k = choices_weigh rest i in let l = weight_of (statement_items locals t s) (choices_items locals t rest i) in omega (arith, h, k, l)

-- main's return at its end
closed_weighs : (xs : ItemList) (b : Bool) → items_weight (if b then xs else xs ⧺ number 0 ⧺ Return ▸ end) ≤ items_weight xs + 5
closed_weighs xs true = omega arith
closed_weighs xs false = let l = weight_of xs (number 0 ⧺ Return ▸ end) in omega (arith, l)

main_weighs : (xs : ItemList) (b : Bool) → items_weight (if b then closed_main xs else xs) ≤ items_weight xs + 5
main_weighs xs true = closed_weighs xs (ends_with_return xs)
main_weighs xs false = omega arith

pub function_weighs : (f : FunctionCode) → function_items_weight (selected_function f) ≤ function_weight f
function_weighs f =
    let h = statement_weighs f.locals (f.scalars - word_statement_temporaries f.body) f.body in
    let m = main_weighs (body_items f) (is_main f.name) in
    omega (arith, h, m)

functions_weigh : (fs : List FunctionCode) → lists_weight (map selected_function fs) ≤ functions_weight fs
functions_weigh [] = omega arith
functions_weigh (f ∷ fs) = let h = function_weighs f in let k = functions_weigh fs in omega (arith, h, k)

pub program_weighs : (p : ProgramCode) → code_weight p.statics (selected p) ≤ tree_weight p
program_weighs p = let h = functions_weigh p.functions in omega (arith, h)
