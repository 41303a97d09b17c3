-- Rows of word code in memory, as lists.
use Rattle.std.proofs.Common.{◌≡◌, ℕ, refl, ap, rules}
use Rattle.tree_code.specs.declared.word_expression.WordForm as coded
use Rattle.tree_code.specs.declared.word_expression.WordForm.{Row_of-WordExpr, end_of-WordExpr, more_of-WordExpr, items-the_row-WordExpr}
use Rattle.tree_code.specs.declared.word_statement.WordStmt as stmt
use Rattle.tree_code.specs.declared.word_statement.WordStmt.{Row_of-WordStmt, end_of-WordStmt, more_of-WordStmt, items-the_row-WordStmt, Row_of-WordChoice, end_of-WordChoice, more_of-WordChoice, items-the_row-WordChoice}
use Rattle.tree_code.specs.WordTree as expr
use Rattle.tree_code.specs.WordTree.{more, both}
use Rattle.tree_code.specs.WordView.{word_form_of, word_exprs_of, word_argument_list, word_stmt_of, word_stmts_of, word_statement_list, word_choices_of, word_choice_before, word_choice_list, word_expr_of}

word_rows : (m : _) (k : Row_of-WordExpr m) → word_exprs_of k ≡ word_argument_list (items-the_row-WordExpr m k)
word_rows m end_of-WordExpr = refl
word_rows m (more_of-WordExpr {n = n} e at rest) = ap (more (expr.Node (word_form_of e) at)) (word_rows n rest)

-- a call of a list of arguments
pub word_call_form : (f : ℕ) (l : _) → word_form_of (coded.Call f l) ≡ expr.Call f (word_argument_list l.items)
word_call_form f l = search (rules, coded.the_lemmas, word_rows)

statement_rows : (m : _) (k : Row_of-WordStmt m) → word_stmts_of k ≡ word_statement_list (items-the_row-WordStmt m k)
statement_rows m end_of-WordStmt = refl
statement_rows m (more_of-WordStmt {n = n} s rest) = ap (both (word_stmt_of s)) (statement_rows n rest)

choice_rows : (m : _) (k : Row_of-WordChoice m) → word_choices_of k ≡ word_choice_list (items-the_row-WordChoice m k)
choice_rows m end_of-WordChoice = refl
choice_rows m (more_of-WordChoice {n = n} c rest) = ap (word_choice_before c) (choice_rows n rest)

-- a block and a switch of lists
pub block_of_list : (declared : _) (l : _) → word_stmt_of (stmt.Block declared l) ≡ expr.Block declared.items (word_statement_list l.items)
block_of_list declared l = search (rules, stmt.the_lemmas, statement_rows)

pub switch_of_list : (value : _) (l : _) → word_stmt_of (stmt.Switch value l) ≡ expr.Switch (word_expr_of value) (word_choice_list l.items)
switch_of_list value l = search (rules, stmt.the_lemmas, choice_rows)
