-- A word tree weighs at most what the typed tree does that it was lowered from.
use Rattle.std.proofs.Common.{ℕ, ◌+◌, ◌≤◌, Bool, true, false, List, [], ◌∷◌, map, Option, Some, None, arith}
use Rattle.std.specs.Prelude.{◌&&◌, if◌then◌else◌}
use Rattle.c_syntax.specs.declared.operator.UnaryOp.{UnaryOp}
use Rattle.c_syntax.specs.declared.operator.UnaryOp.TheVariants.{Plus}
use Rattle.c_tree.specs.TypedTree as tree
use Rattle.c_tree.specs.TypedTree.{Node, Named, At, ObjectTree, FunctionTree, ProgramTree}
use Rattle.tree_code.specs.WordTree as code
use Rattle.tree_code.specs.Lowered.{is_minus, is_number, is_converted, lowered_unary, lowered, lowered_list, lowered_optional, lowered_statement, lowered_statements, lowered_choices, lowered_function, lowered_program}
use Rattle.ir_semantics.specs.Weights.{expression_weight, arguments_weight, optional_weight, statement_weight, statements_weight, choices_weight, function_weight, functions_weight, tree_weight}
use Rattle.ir_semantics.specs.SourceWeights.{source_expression_weight, source_arguments_weight, source_optional_weight, source_statement_weight, source_statements_weight, source_choices_weight, source_function_weight, source_functions_weight, source_weight}

abbrev one_where : Bool → ℕ
one_where true = 1
one_where false = 0

-- a plus stands only where a conversion was
unary_by : (o : UnaryOp) (form : code.FormCode) (place at : ℕ) (b : Bool)
    → expression_weight (if b then code.Node (code.Unary o (code.Node (code.Unary Plus (code.Node form place)) place)) at else code.Node (code.Unary o (code.Node form place)) at)
    ≤ 1 + expression_weight (code.Node form place) + one_where b
unary_by o form place at true = omega arith
unary_by o form place at false = omega arith

converted_only : (m c n : Bool) → one_where (m && (c && n)) ≤ one_where c
converted_only true true true = omega arith
converted_only true true false = omega arith
converted_only true false n = omega arith
converted_only false true n = omega arith
converted_only false false n = omega arith

unary_weighs : (o : UnaryOp) (converted : Bool) (e : code.ExprCode) (at : ℕ) → expression_weight (lowered_unary o converted e at) ≤ 1 + expression_weight e + one_where converted
unary_weighs o converted (code.Node form place) at =
    let h = unary_by o form place at (is_minus o && (converted && is_number form)) in
    let k = converted_only (is_minus o) converted (is_number form) in
    omega (arith, h, k)

mutual
  pub expression_lowered : (e : tree.Expr) → expression_weight (lowered e) + one_where (is_converted e) ≤ source_expression_weight e
  expression_lowered (Node (tree.Const w) kind at) = omega arith
  expression_lowered (Node (tree.Read v) kind at) = omega arith
  expression_lowered (Node (tree.AddressOf v) kind at) = omega arith
  expression_lowered (Node (tree.Load e) kind at) = let h = expression_lowered e in omega (arith, h)
  expression_lowered (Node (tree.Unary o e) kind at) = let h = expression_lowered e in let k = unary_weighs o (is_converted e) (lowered e) at in omega (arith, h, k)
  expression_lowered (Node (tree.Binary o a b) kind at) = let h = expression_lowered a in let k = expression_lowered b in omega (arith, h, k)
  expression_lowered (Node (tree.And a b) kind at) = let h = expression_lowered a in let k = expression_lowered b in omega (arith, h, k)
  expression_lowered (Node (tree.Or a b) kind at) = let h = expression_lowered a in let k = expression_lowered b in omega (arith, h, k)
  expression_lowered (Node (tree.Not a) kind at) = let h = expression_lowered a in omega (arith, h)
  expression_lowered (Node (tree.Pick c a b) kind at) = let g = expression_lowered c in let h = expression_lowered a in let k = expression_lowered b in omega (arith, g, h, k)
  expression_lowered (Node (tree.Assign (Named v place) e) kind at) = let h = expression_lowered e in omega (arith, h)
  expression_lowered (Node (tree.Assign (At p place) e) kind at) = let h = expression_lowered p in let k = expression_lowered e in omega (arith, h, k)
  expression_lowered (Node (tree.AssignOp o (Named v place) e) kind at) = let h = expression_lowered e in omega (arith, h)
  expression_lowered (Node (tree.AssignOp o (At p place) e) kind at) = let h = expression_lowered p in let k = expression_lowered e in omega (arith, h, k)
  expression_lowered (Node (tree.StepBefore up (Named v place)) kind at) = omega arith
  expression_lowered (Node (tree.StepBefore up (At p place)) kind at) = let h = expression_lowered p in omega (arith, h)
  expression_lowered (Node (tree.StepAfter up (Named v place)) kind at) = omega arith
  expression_lowered (Node (tree.StepAfter up (At p place)) kind at) = let h = expression_lowered p in omega (arith, h)
  expression_lowered (Node (tree.Call f es) kind at) = let h = arguments_lowered es in omega (arith, h)
  expression_lowered (Node (tree.In port) kind at) = omega arith
  expression_lowered (Node (tree.Out port e) kind at) = let h = expression_lowered e in omega (arith, h)
  expression_lowered (Node (tree.Comma a b) kind at) = let h = expression_lowered a in let k = expression_lowered b in omega (arith, h, k)
  expression_lowered (Node (tree.Convert e) kind at) = let h = expression_lowered e in omega (arith, h)

  arguments_lowered : (es : tree.Exprs) → arguments_weight (lowered_list es) ≤ source_arguments_weight es
  arguments_lowered tree.none = omega arith
  arguments_lowered (tree.more e rest) = let h = expression_lowered e in let k = arguments_lowered rest in omega (arith, h, k)

optional_lowered : (e : Option tree.Expr) → optional_weight (lowered_optional e) ≤ source_optional_weight e
optional_lowered None = omega arith
optional_lowered (Some e) = let h = expression_lowered e in omega (arith, h)

module _ (locals : List ObjectTree) where
  mutual
    statement_lowered : (s : tree.Stmt) → statement_weight locals (lowered_statement s) ≤ source_statement_weight locals s
    statement_lowered (tree.Block declared ss) = let h = statements_lowered ss in omega (arith, h)
    statement_lowered (tree.Fill n) = omega arith
    statement_lowered (tree.Do_expr e) = let h = expression_lowered e in omega (arith, h)
    statement_lowered (tree.If e a b) = let g = expression_lowered e in let h = statement_lowered a in let k = statement_lowered b in omega (arith, g, h, k)
    statement_lowered (tree.While e a) = let g = expression_lowered e in let h = statement_lowered a in omega (arith, g, h)
    statement_lowered (tree.Do_while a e) = let g = expression_lowered e in let h = statement_lowered a in omega (arith, g, h)
    statement_lowered (tree.For x y z a) =
        let f = optional_lowered x in let g = optional_lowered y in let h = optional_lowered z in let k = statement_lowered a in omega (arith, f, g, h, k)
    statement_lowered (tree.Switch e cs) = let g = expression_lowered e in let h = choices_lowered cs in omega (arith, g, h)
    statement_lowered tree.Break = omega arith
    statement_lowered tree.Continue = omega arith
    statement_lowered (tree.Return e) = let h = optional_lowered e in omega (arith, h)

    statements_lowered : (ss : tree.Stmts) → statements_weight locals (lowered_statements ss) ≤ source_statements_weight locals ss
    statements_lowered tree.done = omega arith
    statements_lowered (tree.both s rest) = let h = statement_lowered s in let k = statements_lowered rest in omega (arith, h, k)

    choices_lowered : (cs : tree.Choices) → choices_weight locals (lowered_choices cs) ≤ source_choices_weight locals cs
    choices_lowered tree.no_more = omega arith
    choices_lowered (tree.case w rest) = let h = choices_lowered rest in omega (arith, h)
    choices_lowered (tree.default rest) = let h = choices_lowered rest in omega (arith, h)
    choices_lowered (tree.body s rest) = let h = statement_lowered s in let k = choices_lowered rest in omega (arith, h, k)

pub function_lowered : (f : FunctionTree) → function_weight (lowered_function f) ≤ source_function_weight f
function_lowered f = let h = statement_lowered f.locals f.body in omega (arith, h)

functions_lowered : (fs : List FunctionTree) → functions_weight (map lowered_function fs) ≤ source_functions_weight fs
functions_lowered [] = omega arith
functions_lowered (f ∷ fs) = let h = function_lowered f in let k = functions_lowered fs in omega (arith, h, k)

pub program_lowered : (p : ProgramTree) → tree_weight (lowered_program p) ≤ source_weight p
program_lowered p = let h = functions_lowered p.functions in omega (arith, h)
