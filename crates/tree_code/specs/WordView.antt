-- The tree that word code in memory stands for, form by form.
use Rattle.std.specs.Prelude.{ℕ, List, [], ◌∷◌, map, Option, Some, None}
use Rattle.c_tree.specs.View.{object_of}
use Rattle.tree_code.specs.declared.program.TreeFunction.{TreeFunction}
use Rattle.tree_code.specs.declared.word_expression.WordExpr.{WordExpr}
use Rattle.tree_code.specs.declared.word_expression.WordTargetForm as target
use Rattle.tree_code.specs.declared.word_expression.WordTargetForm.{WordTargetForm}
use Rattle.tree_code.specs.declared.word_expression.WordForm as form
use Rattle.tree_code.specs.declared.word_expression.WordForm.{WordForm, Row_of-WordExpr, end_of-WordExpr, more_of-WordExpr}
use Rattle.tree_code.specs.declared.word_statement.WordStmt as stmt
use Rattle.tree_code.specs.declared.word_statement.WordStmt.{WordStmt, Row_of-WordStmt, end_of-WordStmt, more_of-WordStmt}
use Rattle.tree_code.specs.declared.word_statement.WordChoice as choice
use Rattle.tree_code.specs.declared.word_statement.WordChoice.{WordChoice}
use Rattle.tree_code.specs.declared.word_statement.WordStmt.{Row_of-WordChoice, end_of-WordChoice, more_of-WordChoice}
use Rattle.tree_code.specs.WordTree.{ExprCode, Node, LvalueCode, Named, At, FormCode, Const, Read, AddressOf, Load, Unary, Binary, And, Or, Not, Pick, Assign, AssignOp, StepBefore, StepAfter, Call, In, Out, Comma, ExprsCode, none, more, StmtCode, Block, Fill, Do_expr, If, While, Do_while, For, Switch, Break, Continue, Return, StmtsCode, done, both, ChoicesCode, no_more, case, default, body, FunctionCode}

abbrev mutual
  -- the form of an expression, without its boxes
  pub word_form_of : WordForm → FormCode
  word_form_of (form.Const w) = Const w
  word_form_of (form.Read v) = Read v
  word_form_of (form.AddressOf v) = AddressOf v
  word_form_of (form.Load' p e a) = Load (Node (word_form_of e) a)
  word_form_of (form.Unary' op p e a) = Unary op (Node (word_form_of e) a)
  word_form_of (form.Binary' op p e a q f b) = Binary op (Node (word_form_of e) a) (Node (word_form_of f) b)
  word_form_of (form.And' p e a q f b) = And (Node (word_form_of e) a) (Node (word_form_of f) b)
  word_form_of (form.Or' p e a q f b) = Or (Node (word_form_of e) a) (Node (word_form_of f) b)
  word_form_of (form.Not' p e a) = Not (Node (word_form_of e) a)
  word_form_of (form.Pick' p e a q f b r g c) = Pick (Node (word_form_of e) a) (Node (word_form_of f) b) (Node (word_form_of g) c)
  word_form_of (form.Assign' t at p e a) = Assign (word_lvalue_of t at) (Node (word_form_of e) a)
  word_form_of (form.AssignOp' op t at p e a) = AssignOp op (word_lvalue_of t at) (Node (word_form_of e) a)
  word_form_of (form.StepBefore' up t at) = StepBefore up (word_lvalue_of t at)
  word_form_of (form.StepAfter' up t at) = StepAfter up (word_lvalue_of t at)
  word_form_of (form.Call' f shape args) = Call f (word_exprs_of args)
  word_form_of (form.In p) = In p
  word_form_of (form.Out' port p e a) = Out port (Node (word_form_of e) a)
  word_form_of (form.Comma' p e a q f b) = Comma (Node (word_form_of e) a) (Node (word_form_of f) b)

  -- what is assigned to
  pub word_lvalue_of : WordTargetForm → ℕ → LvalueCode
  word_lvalue_of (target.Named v) at = Named v at
  word_lvalue_of (target.At' p e a) at = At (Node (word_form_of e) a) at

  -- the arguments of a call
  pub word_exprs_of : {m : _} → Row_of-WordExpr m → ExprsCode
  word_exprs_of end_of-WordExpr = none
  word_exprs_of (more_of-WordExpr e a rest) = more (Node (word_form_of e) a) (word_exprs_of rest)

-- an expression
abbrev pub word_expr_of : WordExpr → ExprCode
word_expr_of e = Node (word_form_of e.form) e.at

-- the arguments of a call, of a list of them
abbrev pub word_argument_list : List WordExpr → ExprsCode
word_argument_list [] = none
word_argument_list (e ∷ rest) = more (word_expr_of e) (word_argument_list rest)

-- an expression that may be absent
abbrev pub optional_word_of : Option WordExpr → Option ExprCode
optional_word_of None = None
optional_word_of (Some e) = Some (word_expr_of e)

abbrev mutual
  -- a statement
  pub word_stmt_of : WordStmt → StmtCode
  word_stmt_of (stmt.Block' declared shape all) = Block declared.items (word_stmts_of all)
  word_stmt_of (stmt.Fill n) = Fill n
  word_stmt_of (stmt.Expr e) = Do_expr (word_expr_of e)
  word_stmt_of (stmt.If' test p s q t) = If (word_expr_of test) (word_stmt_of s) (word_stmt_of t)
  word_stmt_of (stmt.While' test p s) = While (word_expr_of test) (word_stmt_of s)
  word_stmt_of (stmt.Do' p s test) = Do_while (word_stmt_of s) (word_expr_of test)
  word_stmt_of (stmt.For' first test third p s) = For (optional_word_of first) (optional_word_of test) (optional_word_of third) (word_stmt_of s)
  word_stmt_of (stmt.Switch' value shape all) = Switch (word_expr_of value) (word_choices_of all)
  word_stmt_of stmt.Break = Break
  word_stmt_of stmt.Continue = Continue
  word_stmt_of (stmt.Return value) = Return (optional_word_of value)

  -- the statements of a block
  pub word_stmts_of : {m : _} → Row_of-WordStmt m → StmtsCode
  word_stmts_of end_of-WordStmt = done
  word_stmts_of (more_of-WordStmt s rest) = both (word_stmt_of s) (word_stmts_of rest)

  -- what stands in a switch
  pub word_choices_of : {m : _} → Row_of-WordChoice m → ChoicesCode
  word_choices_of end_of-WordChoice = no_more
  word_choices_of (more_of-WordChoice c rest) = word_choice_before c (word_choices_of rest)

  -- one of them, before the others
  pub word_choice_before : WordChoice → ChoicesCode → ChoicesCode
  word_choice_before (choice.Case w) rest = case w rest
  word_choice_before choice.Default rest = default rest
  word_choice_before (choice.Body s) rest = body (word_stmt_of s) rest

-- the statements of a block, of a list of them
abbrev pub word_statement_list : List WordStmt → StmtsCode
word_statement_list [] = done
word_statement_list (s ∷ rest) = both (word_stmt_of s) (word_statement_list rest)

-- what stands in a switch, of a list of it
abbrev pub word_choice_list : List WordChoice → ChoicesCode
word_choice_list [] = no_more
word_choice_list (c ∷ rest) = word_choice_before c (word_choice_list rest)

-- a function
abbrev pub function_code_of : TreeFunction → FunctionCode
function_code_of f = record { name = f.name; scalars = f.scalars; params = f.params; locals = map object_of f.locals; body = word_stmt_of f.body }
