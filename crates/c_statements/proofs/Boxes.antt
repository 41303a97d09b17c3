-- The statements of a block and the parts of a switch, in memory and as lists.
use mathlib.Core.Former.{Count}
use Rattle.std.proofs.Common.{◌≡◌, ℕ, map, Vec, Global, refl, ap, ◌∙◌}
use Rattle.c_syntax.specs.declared.decl.Decl.{Decl}
use Rattle.c_syntax.specs.declared.expr.Expr.{Expr}
use Rattle.c_syntax.specs.declared.stmt.Stmt.{Stmt}
use Rattle.c_syntax.specs.declared.stmt.SwitchPart.{SwitchPart}
use Rattle.c_syntax.specs.declared.stmt.StmtKind as stmt
use Rattle.c_syntax.specs.declared.stmt.StmtKind.{StmtKind, Row_of-Stmt, end_of-Stmt, more_of-Stmt, Row_of-SwitchPart, end_of-SwitchPart, more_of-SwitchPart, items-the_row-Stmt, items-the_row-SwitchPart, items_hidden-the_row-Stmt-0, items_hidden-the_row-SwitchPart-1}
use Rattle.c_syntax.specs.SyntaxTree as tree
use Rattle.c_syntax.specs.SyntaxView.{expression_of, declaration_of, statement_of, statements_of, choices_of, body_of, part_before}
use Rattle.c_statements.specs.StatementRows.{parts_of}

statements_row : (n : _) (row : Row_of-Stmt n) → statements_of row ≡ body_of (items-the_row-Stmt n row)
statements_row n end_of-Stmt = refl
statements_row n (more_of-Stmt k a rest) = ap (λ v. tree.statement (statement_of k a) v) (statements_row _ rest)

choices_row : (n : _) (row : Row_of-SwitchPart n) → choices_of row ≡ parts_of (items-the_row-SwitchPart n row)
choices_row n end_of-SwitchPart = refl
choices_row n (more_of-SwitchPart p rest) = ap (λ v. part_before p v) (choices_row _ rest)

abbrev row_of : StmtKind → (n : Count) × Row_of-Stmt n
row_of (stmt.Block' xs n row) = (_, row)
row_of kind = (_, end_of-Stmt)

abbrev parts_row_of : StmtKind → (n : Count) × Row_of-SwitchPart n
parts_row_of (stmt.Switch' e n row b) = (_, row)
parts_row_of kind = (_, end_of-SwitchPart)

pub block_tree : (xs : Vec Decl Global) (ys : Vec Stmt Global) (at : ℕ) → statement_of (stmt.Block xs ys) at ≡ tree.Block (map declaration_of xs.items) (body_of ys.items) at
block_tree xs ys at = let row = row_of (stmt.Block xs ys) in ap (λ l. tree.Block (map declaration_of xs.items) l at) (statements_row row.0 row.1 ∙ ap body_of (items_hidden-the_row-Stmt-0 ys))

pub switch_tree : (e : Expr) (ys : Vec SwitchPart Global) (b at : ℕ) → statement_of (stmt.Switch e ys b) at ≡ tree.Switch (expression_of e) (parts_of ys.items) b at
switch_tree e ys b at = let row = parts_row_of (stmt.Switch e ys b) in ap (λ l. tree.Switch (expression_of e) l b at) (choices_row row.0 row.1 ∙ ap parts_of (items_hidden-the_row-SwitchPart-1 ys))
