-- Typed programs with other names and places.
use Rattle.std.specs.Prelude.{map, Option, option_map}
use Rattle.c_tree.specs.TypedTree.{Expr, Lvalue, Named, At, Form, Node, Exprs, none, more, Stmt, Stmts, done, both, Choices, no_more, case, default, body, ObjectTree, FunctionTree, ProgramTree}
use Rattle.c_tree.specs.TypedTree as tree
use Rattle.c_renaming.specs.Renaming.{Renaming}

module _ (r : Renaming) where
  abbrev mutual
    pub renamed_value : Expr → Expr
    renamed_value (Node form kind at) = Node (renamed_value_form form) kind (r.place at)

    pub renamed_target : Lvalue → Lvalue
    renamed_target (Named v at) = Named v (r.place at)
    renamed_target (At e at) = At (renamed_value e) (r.place at)

    pub renamed_value_form : Form → Form
    renamed_value_form (tree.Const w) = tree.Const w
    renamed_value_form (tree.Read v) = tree.Read v
    renamed_value_form (tree.AddressOf v) = tree.AddressOf v
    renamed_value_form (tree.Load e) = tree.Load (renamed_value e)
    renamed_value_form (tree.Unary o e) = tree.Unary o (renamed_value e)
    renamed_value_form (tree.Binary o a b) = tree.Binary o (renamed_value a) (renamed_value b)
    renamed_value_form (tree.And a b) = tree.And (renamed_value a) (renamed_value b)
    renamed_value_form (tree.Or a b) = tree.Or (renamed_value a) (renamed_value b)
    renamed_value_form (tree.Not e) = tree.Not (renamed_value e)
    renamed_value_form (tree.Pick c a b) = tree.Pick (renamed_value c) (renamed_value a) (renamed_value b)
    renamed_value_form (tree.Assign l e) = tree.Assign (renamed_target l) (renamed_value e)
    renamed_value_form (tree.AssignOp o l e) = tree.AssignOp o (renamed_target l) (renamed_value e)
    renamed_value_form (tree.StepBefore up l) = tree.StepBefore up (renamed_target l)
    renamed_value_form (tree.StepAfter up l) = tree.StepAfter up (renamed_target l)
    renamed_value_form (tree.Call f es) = tree.Call f (renamed_values es)
    renamed_value_form (tree.In port) = tree.In port
    renamed_value_form (tree.Out port e) = tree.Out port (renamed_value e)
    renamed_value_form (tree.Comma a b) = tree.Comma (renamed_value a) (renamed_value b)
    renamed_value_form (tree.Convert e) = tree.Convert (renamed_value e)

    pub renamed_values : Exprs → Exprs
    renamed_values none = none
    renamed_values (more e rest) = more (renamed_value e) (renamed_values rest)

  abbrev pub renamed_optional_value : Option Expr → Option Expr
  renamed_optional_value e = option_map renamed_value e

  abbrev mutual
    pub renamed_code : Stmt → Stmt
    renamed_code (tree.Block declared ss) = tree.Block declared (renamed_codes ss)
    renamed_code (tree.Fill n) = tree.Fill n
    renamed_code (tree.Do_expr e) = tree.Do_expr (renamed_value e)
    renamed_code (tree.If e a b) = tree.If (renamed_value e) (renamed_code a) (renamed_code b)
    renamed_code (tree.While e a) = tree.While (renamed_value e) (renamed_code a)
    renamed_code (tree.Do_while a e) = tree.Do_while (renamed_code a) (renamed_value e)
    renamed_code (tree.For x y z a) =
        tree.For (renamed_optional_value x) (renamed_optional_value y) (renamed_optional_value z) (renamed_code a)
    renamed_code (tree.Switch e cs) = tree.Switch (renamed_value e) (renamed_cases cs)
    renamed_code tree.Break = tree.Break
    renamed_code tree.Continue = tree.Continue
    renamed_code (tree.Return e) = tree.Return (renamed_optional_value e)

    pub renamed_codes : Stmts → Stmts
    renamed_codes done = done
    renamed_codes (both a rest) = both (renamed_code a) (renamed_codes rest)

    pub renamed_cases : Choices → Choices
    renamed_cases no_more = no_more
    renamed_cases (case w rest) = case w (renamed_cases rest)
    renamed_cases (default rest) = default (renamed_cases rest)
    renamed_cases (body a rest) = body (renamed_code a) (renamed_cases rest)

  abbrev pub renamed_object : ObjectTree → ObjectTree
  renamed_object o = record { name = r.name o.name; length = o.length; kind = o.kind; initial = o.initial }

  abbrev pub renamed_function_tree : FunctionTree → FunctionTree
  renamed_function_tree f = record {
    name = r.name f.name;
    result = f.result;
    params = f.params;
    scalars = f.scalars;
    locals = map renamed_object f.locals;
    body = renamed_code f.body;
  }

  abbrev pub renamed_program : ProgramTree → ProgramTree
  renamed_program p = record { statics = map renamed_object p.statics; functions = map renamed_function_tree p.functions }
