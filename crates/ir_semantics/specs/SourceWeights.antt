-- What typed programs weigh: their nodes as those of word trees, and 1 for a conversion.
use Rattle.std.specs.Prelude.{[], ◌∷◌, ℕ, ◌+◌, List, slice_get, Option, Some, None}
use Rattle.c_tree.specs.TypedTree as tree
use Rattle.c_tree.specs.TypedTree.{Expr, Node, Named, At, Exprs, Stmt, Stmts, Choices, ObjectTree, FunctionTree, ProgramTree}
use Rattle.ir_semantics.specs.Weights.{fill_weight, statics_weight}

abbrev mutual
  pub source_expression_weight : Expr → ℕ
  source_expression_weight (Node (tree.Const w) kind at) = 2
  source_expression_weight (Node (tree.Read v) kind at) = 5
  source_expression_weight (Node (tree.AddressOf v) kind at) = 2
  source_expression_weight (Node (tree.Load e) kind at) = 5 + source_expression_weight e
  source_expression_weight (Node (tree.Unary o e) kind at) = 1 + source_expression_weight e
  source_expression_weight (Node (tree.Binary o a b) kind at) = 24 + (source_expression_weight a + source_expression_weight b)
  source_expression_weight (Node (tree.And a b) kind at) = 20 + (source_expression_weight a + source_expression_weight b)
  source_expression_weight (Node (tree.Or a b) kind at) = 20 + (source_expression_weight a + source_expression_weight b)
  source_expression_weight (Node (tree.Not e) kind at) = 10 + source_expression_weight e
  source_expression_weight (Node (tree.Pick c a b) kind at) = 14 + (source_expression_weight c + (source_expression_weight a + source_expression_weight b))
  source_expression_weight (Node (tree.Assign (Named v place) e) kind at) = 19 + source_expression_weight e
  source_expression_weight (Node (tree.Assign (At p place) e) kind at) = 19 + (source_expression_weight p + source_expression_weight e)
  source_expression_weight (Node (tree.AssignOp o (Named v place) e) kind at) = 48 + source_expression_weight e
  source_expression_weight (Node (tree.AssignOp o (At p place) e) kind at) = 48 + (source_expression_weight p + source_expression_weight e)
  source_expression_weight (Node (tree.StepBefore up (Named v place)) kind at) = 14
  source_expression_weight (Node (tree.StepBefore up (At p place)) kind at) = 14 + source_expression_weight p
  source_expression_weight (Node (tree.StepAfter up (Named v place)) kind at) = 14
  source_expression_weight (Node (tree.StepAfter up (At p place)) kind at) = 14 + source_expression_weight p
  source_expression_weight (Node (tree.Call f es) kind at) = 2 + source_arguments_weight es
  source_expression_weight (Node (tree.In port) kind at) = 4
  source_expression_weight (Node (tree.Out port e) kind at) = 4 + source_expression_weight e
  source_expression_weight (Node (tree.Comma a b) kind at) = 1 + (source_expression_weight a + source_expression_weight b)
  source_expression_weight (Node (tree.Convert e) kind at) = 1 + source_expression_weight e

  -- an argument counts besides what it is
  pub source_arguments_weight : Exprs → ℕ
  source_arguments_weight tree.none = 0
  source_arguments_weight (tree.more e rest) = 12 + (source_expression_weight e + source_arguments_weight rest)

abbrev pub source_optional_weight : Option Expr → ℕ
source_optional_weight None = 0
source_optional_weight (Some e) = source_expression_weight e

-- in a function of these local objects
module _ (locals : List ObjectTree) where
  abbrev mutual
    pub source_statement_weight : Stmt → ℕ
    source_statement_weight (tree.Block declared ss) = 1 + source_statements_weight ss
    source_statement_weight (tree.Fill n) = fill_weight (slice_get locals n)
    source_statement_weight (tree.Do_expr e) = 1 + source_expression_weight e
    source_statement_weight (tree.If e a b) = 6 + (source_expression_weight e + (source_statement_weight a + source_statement_weight b))
    source_statement_weight (tree.While e a) = 14 + (source_expression_weight e + source_statement_weight a)
    source_statement_weight (tree.Do_while a e) = 14 + (source_statement_weight a + source_expression_weight e)
    source_statement_weight (tree.For x y z a) = 14 + ((source_optional_weight x + source_optional_weight y) + (source_optional_weight z + source_statement_weight a))
    source_statement_weight (tree.Switch e cs) = 8 + (source_expression_weight e + source_choices_weight cs)
    source_statement_weight tree.Break = 2
    source_statement_weight tree.Continue = 2
    source_statement_weight (tree.Return e) = 3 + source_optional_weight e

    pub source_statements_weight : Stmts → ℕ
    source_statements_weight tree.done = 0
    source_statements_weight (tree.both s rest) = source_statement_weight s + source_statements_weight rest

    pub source_choices_weight : Choices → ℕ
    source_choices_weight tree.no_more = 0
    source_choices_weight (tree.case w rest) = 7 + source_choices_weight rest
    source_choices_weight (tree.default rest) = 2 + source_choices_weight rest
    source_choices_weight (tree.body s rest) = source_statement_weight s + source_choices_weight rest

abbrev pub source_function_weight : FunctionTree → ℕ
source_function_weight f = 10 + source_statement_weight f.locals f.body

abbrev pub source_functions_weight : List FunctionTree → ℕ
source_functions_weight [] = 0
source_functions_weight (f ∷ fs) = source_function_weight f + source_functions_weight fs

abbrev pub source_weight : ProgramTree → ℕ
source_weight p = statics_weight p.statics + source_functions_weight p.functions
