-- A typed tree once each object of its function has its number among its own kind, where it names them by one number each.
use Rattle.std.specs.Prelude.{ℕ, List, map, slice_get, unwrap_or, Option, Some, None}
use Rattle.c_tree.specs.declared.program.VarRef.{VarRef}
use Rattle.c_tree.specs.declared.program.VarRef.TheVariants as refs
use Rattle.c_tree.specs.TypedTree as tree
use Rattle.c_tree.specs.TypedTree.{Expr, Node, Lvalue, Named, At, Form, Exprs, Stmt, Stmts, Choices}

-- what an object of the function is called, by what each one is called
abbrev pub numbered : List VarRef → ℕ → VarRef
numbered frame n = unwrap_or (slice_get frame n) (refs.Local n)

abbrev pub renumbered : List VarRef → VarRef → VarRef
renumbered frame (refs.Local n) = numbered frame n
renumbered frame (refs.Scalar n) = refs.Scalar n
renumbered frame (refs.Static n) = refs.Static n

-- an array's list is given by the number of its object
abbrev pub number_in : VarRef → ℕ
number_in (refs.Scalar n) = n
number_in (refs.Local n) = n
number_in (refs.Static n) = n

module _ (frame : List VarRef) where
  abbrev mutual
    pub expression : Expr → Expr
    expression (Node form kind at) = Node (of_form form) kind at

    pub of_form : Form → Form
    of_form (tree.Const w) = tree.Const w
    of_form (tree.Read v) = tree.Read (renumbered frame v)
    of_form (tree.AddressOf v) = tree.AddressOf (renumbered frame v)
    of_form (tree.Load e) = tree.Load (expression e)
    of_form (tree.Unary o e) = tree.Unary o (expression e)
    of_form (tree.Binary o a b) = tree.Binary o (expression a) (expression b)
    of_form (tree.And a b) = tree.And (expression a) (expression b)
    of_form (tree.Or a b) = tree.Or (expression a) (expression b)
    of_form (tree.Not e) = tree.Not (expression e)
    of_form (tree.Pick c a b) = tree.Pick (expression c) (expression a) (expression b)
    of_form (tree.Assign l e) = tree.Assign (target l) (expression e)
    of_form (tree.AssignOp o l e) = tree.AssignOp o (target l) (expression e)
    of_form (tree.StepBefore up l) = tree.StepBefore up (target l)
    of_form (tree.StepAfter up l) = tree.StepAfter up (target l)
    of_form (tree.Call f es) = tree.Call f (arguments es)
    of_form (tree.In port) = tree.In port
    of_form (tree.Out port e) = tree.Out port (expression e)
    of_form (tree.Comma a b) = tree.Comma (expression a) (expression b)
    of_form (tree.Convert e) = tree.Convert (expression e)

    pub target : Lvalue → Lvalue
    target (Named v at) = Named (renumbered frame v) at
    target (At e at) = At (expression e) at

    pub arguments : Exprs → Exprs
    arguments tree.none = tree.none
    arguments (tree.more e rest) = tree.more (expression e) (arguments rest)

  abbrev pub optional : Option Expr → Option Expr
  optional None = None
  optional (Some e) = Some (expression e)

  abbrev mutual
    pub statement : Stmt → Stmt
    statement (tree.Block declared ss) = tree.Block (map (renumbered frame) declared) (statements ss)
    statement (tree.Fill n) = tree.Fill (number_in (numbered frame n))
    statement (tree.Do_expr e) = tree.Do_expr (expression e)
    statement (tree.If e a b) = tree.If (expression e) (statement a) (statement b)
    statement (tree.While e a) = tree.While (expression e) (statement a)
    statement (tree.Do_while a e) = tree.Do_while (statement a) (expression e)
    statement (tree.For x y z a) = tree.For (optional x) (optional y) (optional z) (statement a)
    statement (tree.Switch e cs) = tree.Switch (expression e) (choices cs)
    statement tree.Break = tree.Break
    statement tree.Continue = tree.Continue
    statement (tree.Return e) = tree.Return (optional e)

    pub statements : Stmts → Stmts
    statements tree.done = tree.done
    statements (tree.both s rest) = tree.both (statement s) (statements rest)

    pub choices : Choices → Choices
    choices tree.no_more = tree.no_more
    choices (tree.case w rest) = tree.case w (choices rest)
    choices (tree.default rest) = tree.default (choices rest)
    choices (tree.body s rest) = tree.body (statement s) (choices rest)
