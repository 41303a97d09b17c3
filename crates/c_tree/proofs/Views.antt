-- Rows of parts in memory, as lists.
use Rattle.std.proofs.Common.{◌≡◌, ℕ, refl, ap, rules}
use Rattle.c_tree.specs.declared.typed_expression.ExprForm as typed
use Rattle.c_tree.specs.declared.typed_expression.ExprForm.{Row_of-TypedExpr, end_of-TypedExpr, more_of-TypedExpr, items-the_row-TypedExpr}
use Rattle.c_tree.specs.declared.typed_statement.TypedStmt as stmt
use Rattle.c_tree.specs.declared.typed_statement.TypedStmt.{Row_of-TypedStmt, end_of-TypedStmt, more_of-TypedStmt, items-the_row-TypedStmt, Row_of-Choice, end_of-Choice, more_of-Choice, items-the_row-Choice}
use Rattle.c_tree.specs.TypedTree as expr
use Rattle.c_tree.specs.TypedTree.{more, both}
use Rattle.c_tree.specs.View.{form_of as typed_form_of, exprs_of, argument_list, stmt_of, stmts_of, statement_list, choices_of, choice_before, choice_list, expr_of}

typed_rows : (m : _) (k : Row_of-TypedExpr m) → exprs_of k ≡ argument_list (items-the_row-TypedExpr m k)
typed_rows m end_of-TypedExpr = refl
typed_rows m (more_of-TypedExpr {n = n} e kind at rest) = ap (more (expr.Node (typed_form_of e) kind at)) (typed_rows n rest)

-- a typed call of a list of arguments
pub typed_call_form : (f : ℕ) (l : _) → typed_form_of (typed.Call f l) ≡ expr.Call f (argument_list l.items)
typed_call_form f l = search (rules, typed.the_lemmas, typed_rows)

statement_rows : (m : _) (k : Row_of-TypedStmt m) → stmts_of k ≡ statement_list (items-the_row-TypedStmt m k)
statement_rows m end_of-TypedStmt = refl
statement_rows m (more_of-TypedStmt {n = n} s rest) = ap (both (stmt_of s)) (statement_rows n rest)

choice_rows : (m : _) (k : Row_of-Choice m) → choices_of k ≡ choice_list (items-the_row-Choice m k)
choice_rows m end_of-Choice = refl
choice_rows m (more_of-Choice {n = n} c rest) = ap (choice_before c) (choice_rows n rest)

-- a block and a switch of lists
pub block_of_list : (declared : _) (l : _) → stmt_of (stmt.Block declared l) ≡ expr.Block declared.items (statement_list l.items)
block_of_list declared l = search (rules, stmt.the_lemmas, statement_rows)

pub switch_of_list : (value : _) (l : _) → stmt_of (stmt.Switch value l) ≡ expr.Switch (expr_of value) (choice_list l.items)
switch_of_list value l = search (rules, stmt.the_lemmas, choice_rows)
