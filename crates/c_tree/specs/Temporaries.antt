-- How many temporaries an expression, a statement or a function needs, where the code of each operator keeps a left operand in
-- one while it evaluates a right one (docs/LANGUAGE.md, "Types").
use Rattle.std.specs.Prelude.{ℕ, ◌+◌, max, Bool, true, false, if◌then◌else◌, Option, Some, None}
use Rattle.c_syntax.specs.declared.operator.UnaryOp.TheVariants.{Minus}
use Rattle.c_tree.specs.TypedTree as tree
use Rattle.c_tree.specs.TypedTree.{Expr, Node, Lvalue, Named, At, Form, Exprs, Stmt, Stmts, Choices}

-- a constant operand: a constant, a minus on a constant, or an address, also under a conversion
abbrev pub is_constant : Expr → Bool
is_constant (Node (tree.Const w) kind at) = true
is_constant (Node (tree.AddressOf v) kind at) = true
is_constant (Node (tree.Unary Minus (Node (tree.Const w) k a)) kind at) = true
is_constant (Node (tree.Convert e) kind at) = is_constant e
is_constant e = false

-- a simple one: one of these, or the read of a name, also under a conversion
abbrev pub is_simple : Expr → Bool
is_simple (Node (tree.Const w) kind at) = true
is_simple (Node (tree.AddressOf v) kind at) = true
is_simple (Node (tree.Unary Minus (Node (tree.Const w) k a)) kind at) = true
is_simple (Node (tree.Read v) kind at) = true
is_simple (Node (tree.Convert e) kind at) = is_simple e
is_simple e = false

-- so many, unless the operand for which values are kept is simple
abbrev pub unless_simple : Expr → ℕ → ℕ
unless_simple e n = if is_simple e then 0 else n

abbrev mutual
  pub temporaries : Expr → ℕ
  temporaries (Node form kind at) = form_temporaries form

  pub form_temporaries : Form → ℕ
  form_temporaries (tree.Const w) = 0
  form_temporaries (tree.Read v) = 0
  form_temporaries (tree.AddressOf v) = 0
  form_temporaries (tree.Load e) = temporaries e
  form_temporaries (tree.Unary o e) = temporaries e
  form_temporaries (tree.Binary o a b) = max (temporaries a) (if is_constant a then temporaries b else unless_simple b (1 + temporaries b))
  form_temporaries (tree.And a b) = max (temporaries a) (temporaries b)
  form_temporaries (tree.Or a b) = max (temporaries a) (temporaries b)
  form_temporaries (tree.Not e) = temporaries e
  form_temporaries (tree.Pick c a b) = max (temporaries c) (max (temporaries a) (temporaries b))
  form_temporaries (tree.Assign (Named v place) e) = temporaries e
  form_temporaries (tree.Assign (At p place) e) = max (temporaries p) (unless_simple e (1 + temporaries e))
  form_temporaries (tree.AssignOp o (Named v place) e) = unless_simple e (1 + temporaries e)
  form_temporaries (tree.AssignOp o (At p place) e) = max (temporaries p) (unless_simple e (2 + temporaries e))
  form_temporaries (tree.StepBefore up l) = target_temporaries l
  form_temporaries (tree.StepAfter up l) = target_temporaries l
  form_temporaries (tree.Call f es) = argument_temporaries es
  form_temporaries (tree.In port) = 0
  form_temporaries (tree.Out port e) = temporaries e
  form_temporaries (tree.Comma a b) = max (temporaries a) (temporaries b)
  form_temporaries (tree.Convert e) = temporaries e

  pub target_temporaries : Lvalue → ℕ
  target_temporaries (Named v at) = 0
  target_temporaries (At p at) = temporaries p

  -- arguments are kept until the call, other than the last
  pub argument_temporaries : Exprs → ℕ
  argument_temporaries tree.none = 0
  argument_temporaries (tree.more e tree.none) = temporaries e
  argument_temporaries (tree.more e (tree.more f rest)) = max (temporaries e) (1 + argument_temporaries (tree.more f rest))

abbrev pub optional_temporaries : Option Expr → ℕ
optional_temporaries None = 0
optional_temporaries (Some e) = temporaries e

abbrev mutual
  pub statement_temporaries : Stmt → ℕ
  statement_temporaries (tree.Block declared ss) = statements_temporaries ss
  statement_temporaries (tree.Fill n) = 0
  statement_temporaries (tree.Do_expr e) = temporaries e
  statement_temporaries (tree.If e a b) = max (temporaries e) (max (statement_temporaries a) (statement_temporaries b))
  statement_temporaries (tree.While e a) = max (temporaries e) (statement_temporaries a)
  statement_temporaries (tree.Do_while a e) = max (statement_temporaries a) (temporaries e)
  statement_temporaries (tree.For x y z a) = max (optional_temporaries x) (max (optional_temporaries y) (max (optional_temporaries z) (statement_temporaries a)))
  statement_temporaries (tree.Switch e cs) = max (temporaries e) (choices_temporaries cs)
  statement_temporaries tree.Break = 0
  statement_temporaries tree.Continue = 0
  statement_temporaries (tree.Return e) = optional_temporaries e

  pub statements_temporaries : Stmts → ℕ
  statements_temporaries tree.done = 0
  statements_temporaries (tree.both s rest) = max (statement_temporaries s) (statements_temporaries rest)

  pub choices_temporaries : Choices → ℕ
  choices_temporaries tree.no_more = 0
  choices_temporaries (tree.case w rest) = choices_temporaries rest
  choices_temporaries (tree.default rest) = choices_temporaries rest
  choices_temporaries (tree.body s rest) = max (statement_temporaries s) (choices_temporaries rest)
