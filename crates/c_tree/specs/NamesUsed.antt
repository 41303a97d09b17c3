-- The objects that expressions and statements name, from left to right.
use Rattle.std.specs.Prelude.{List, [], ◌∷◌, ◌++◌, Option, Some, None}
use Rattle.c_tree.specs.declared.program.VarRef.{VarRef}
use Rattle.c_tree.specs.declared.program.VarRef.TheVariants as refs
use Rattle.c_tree.specs.TypedTree as tree
use Rattle.c_tree.specs.TypedTree.{Expr, Node, Lvalue, Named, At, Form, Exprs, Stmt, Stmts, Choices}

abbrev mutual
  pub names_in : Expr → List VarRef
  names_in (Node form kind at) = form_names form

  pub form_names : Form → List VarRef
  form_names (tree.Const w) = []
  form_names (tree.Read v) = v ∷ []
  form_names (tree.AddressOf v) = v ∷ []
  form_names (tree.Load e) = names_in e
  form_names (tree.Unary o e) = names_in e
  form_names (tree.Binary o a b) = names_in a ++ names_in b
  form_names (tree.And a b) = names_in a ++ names_in b
  form_names (tree.Or a b) = names_in a ++ names_in b
  form_names (tree.Not e) = names_in e
  form_names (tree.Pick c a b) = names_in c ++ (names_in a ++ names_in b)
  form_names (tree.Assign l e) = target_names l ++ names_in e
  form_names (tree.AssignOp o l e) = target_names l ++ names_in e
  form_names (tree.StepBefore up l) = target_names l
  form_names (tree.StepAfter up l) = target_names l
  form_names (tree.Call f es) = argument_names es
  form_names (tree.In port) = []
  form_names (tree.Out port e) = names_in e
  form_names (tree.Comma a b) = names_in a ++ names_in b
  form_names (tree.Convert e) = names_in e

  pub target_names : Lvalue → List VarRef
  target_names (Named v at) = v ∷ []
  target_names (At e at) = names_in e

  pub argument_names : Exprs → List VarRef
  argument_names tree.none = []
  argument_names (tree.more e rest) = names_in e ++ argument_names rest

abbrev pub optional_names : Option Expr → List VarRef
optional_names None = []
optional_names (Some e) = names_in e

abbrev mutual
  -- a declaration is no use of an object, and a fill is one
  pub statement_names : Stmt → List VarRef
  statement_names (tree.Block declared ss) = statements_names ss
  statement_names (tree.Fill n) = refs.Local n ∷ []
  statement_names (tree.Do_expr e) = names_in e
  statement_names (tree.If e a b) = names_in e ++ (statement_names a ++ statement_names b)
  statement_names (tree.While e a) = names_in e ++ statement_names a
  statement_names (tree.Do_while a e) = statement_names a ++ names_in e
  statement_names (tree.For x y z a) = optional_names x ++ (optional_names y ++ (optional_names z ++ statement_names a))
  statement_names (tree.Switch e cs) = names_in e ++ choices_names cs
  statement_names tree.Break = []
  statement_names tree.Continue = []
  statement_names (tree.Return e) = optional_names e

  pub statements_names : Stmts → List VarRef
  statements_names tree.done = []
  statements_names (tree.both s rest) = statement_names s ++ statements_names rest

  pub choices_names : Choices → List VarRef
  choices_names tree.no_more = []
  choices_names (tree.case w rest) = choices_names rest
  choices_names (tree.default rest) = choices_names rest
  choices_names (tree.body s rest) = statement_names s ++ choices_names rest
