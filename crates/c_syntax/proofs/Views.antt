-- Rows of parts in memory, as lists.
use Rattle.std.proofs.Common.{◌≡◌, List, ℕ, refl, ap, rules}
use Rattle.c_syntax.specs.declared.expr.ExprKind.{Row_of-Expr, end_of-Expr, more_of-Expr, items-the_row-Expr, the_lemmas}
use Rattle.c_syntax.specs.declared.expr.ExprKind as kind
use Rattle.c_syntax.specs.SyntaxTree as tree
use Rattle.c_syntax.specs.SyntaxTree.{Node, argument}
use Rattle.c_syntax.specs.SyntaxView.{form_of, arguments_of, trees_of}

rows_items : (m : _) (k : Row_of-Expr m) → arguments_of k ≡ trees_of (items-the_row-Expr m k)
rows_items m end_of-Expr = refl
rows_items m (more_of-Expr {n = n} e a rest) = ap (argument (Node (form_of e) a)) (rows_items n rest)

-- a call of a list of arguments
pub call_form : (n : List ℕ) (l : _) → form_of (kind.Call n l) ≡ tree.Call n (trees_of l.items)
call_form n l = search (rules, the_lemmas, rows_items)
