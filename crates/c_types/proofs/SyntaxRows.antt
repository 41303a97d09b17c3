-- Statements of a source whose parts are lists in memory.
use Rattle.std.proofs.Common.{◌≡◌, ℕ, map, refl, ap, rules}
use Rattle.c_syntax.specs.declared.stmt.StmtKind as stmt
use Rattle.c_syntax.specs.declared.stmt.StmtKind.{Row_of-Stmt, end_of-Stmt, more_of-Stmt, items-the_row-Stmt, Row_of-SwitchPart, end_of-SwitchPart, more_of-SwitchPart, items-the_row-SwitchPart, the_lemmas}
use Rattle.c_syntax.specs.SyntaxTree as tree
use Rattle.c_syntax.specs.SyntaxTree.{statement}
use Rattle.c_syntax.specs.SyntaxView.{statement_of, statements_of, choices_of, part_before, body_of, declaration_of, expression_of}
use Rattle.c_types.specs.Bodies.{parts_of}

rows : (m : _) (k : Row_of-Stmt m) → statements_of k ≡ body_of (items-the_row-Stmt m k)
rows m end_of-Stmt = refl
rows m (more_of-Stmt {n = n} k a rest) = ap (statement (statement_of k a)) (rows n rest)

-- a block of lists
pub block_of : (declarations : _) (l : _) (at : ℕ) → statement_of (stmt.Block declarations l) at ≡ tree.Block (map declaration_of declarations.items) (body_of l.items) at
block_of declarations l at = search (rules, the_lemmas, rows)

part_rows : (m : _) (k : Row_of-SwitchPart m) → choices_of k ≡ parts_of (items-the_row-SwitchPart m k)
part_rows m end_of-SwitchPart = refl
part_rows m (more_of-SwitchPart {n = n} p rest) = ap (part_before p) (part_rows n rest)

-- a switch of a list
pub switch_of : (e : _) (l : _) (place at : ℕ) → statement_of (stmt.Switch e l place) at ≡ tree.Switch (expression_of e) (parts_of l.items) place at
switch_of e l place at = search (rules, the_lemmas, part_rows)
