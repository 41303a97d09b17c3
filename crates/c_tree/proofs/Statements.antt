-- The statements of a block: loops over them, and their measures.
use Rattle.std.proofs.Common.{◌≡◌, ◌<◌, ◌≤◌, ◌+◌, ◌++◌, ℕ, List, length, take, drop, get_or, ap, ◌∙◌, sym}
use Rattle.c_tree.specs.declared.typed_statement.TypedStmt.{TypedStmt}
use Rattle.c_tree.specs.TypedTree.{Stmt, Stmts, done, both}
use Rattle.c_tree.specs.View.{stmt_of, statement_list}
use Rattle.c_tree.specs.Monoids.{IsMonoid}
use Rattle.c_tree.specs.Replaced.{IsReplacedTo}
use Rattle.c_tree.proofs.Folds.{join_further, join_behind}
use Rattle.c_tree.proofs.Replacing.{all_replaced}
use Rattle.c_tree.proofs.Members.{member}

-- a value that joins those of the statements
module _ {V : Type 0} {unit : V} {join : V → V → V} (laws : IsMonoid unit join) (one : Stmt → V) (whole : Stmts → V)
    (empty : whole done ≡ unit) (first : (s : Stmt) (rest : Stmts) → whole (both s rest) ≡ join (one s) (whole rest)) where
  pub statements_further : (ss : List TypedStmt) (i : ℕ) (s : TypedStmt) → s ≡ get_or ss i s → i < length ss
      → {now next : V} → now ≡ whole (statement_list (take i ss)) → next ≡ join now (one (stmt_of s)) → next ≡ whole (statement_list (take (i + 1) ss))
  statements_further = join_further laws (λ s. one (stmt_of s)) (λ ss. whole (statement_list ss)) empty (λ s ss. first (stmt_of s) (statement_list ss))

  pub statements_behind : (old : V) (ss : List TypedStmt) (i : ℕ) (s : TypedStmt) → s ≡ get_or ss i s → i < length ss
      → {now next : V} → now ≡ join old (whole (statement_list (take i ss))) → next ≡ join now (one (stmt_of s))
      → next ≡ join old (whole (statement_list (take (i + 1) ss)))
  statements_behind = join_behind laws (λ s. one (stmt_of s)) (λ ss. whole (statement_list ss)) empty (λ s ss. first (stmt_of s) (statement_list ss))

-- statements that are replaced in place
module _ (make : Stmt → Stmt) (whole : Stmts → Stmts) (empty : whole done ≡ done) (first : (s : Stmt) (rest : Stmts) → whole (both s rest) ≡ both (make s) (whole rest)) where
  pub statements_replaced : (n i : ℕ) (new old lent : List TypedStmt) → lent ≡ old → length old ≤ n → length new ≤ i → IsReplacedTo stmt_of make i lent new
      → statement_list (take n (new ++ drop (length new) old)) ≡ whole (statement_list old)
  statements_replaced = all_replaced stmt_of make statement_list whole (sym empty)
      (λ x y xs ys one others. ap (λ s. both s (statement_list xs)) one ∙ ap (both (make (stmt_of y))) others ∙ sym (first (stmt_of y) (statement_list ys)))

-- a measure by which a statement is within its block
pub statement_within : (one : Stmt → ℕ) (whole : Stmts → ℕ) (holds : (s : Stmt) (rest : Stmts) → (one s ≤ whole (both s rest)) × (whole rest ≤ whole (both s rest)))
    (ss : List TypedStmt) (k : ℕ) (s : TypedStmt) → s ≡ get_or ss k s → k < length ss → one (stmt_of s) ≤ whole (statement_list ss)
statement_within one whole holds = member (λ s. one (stmt_of s)) (λ ss. whole (statement_list ss)) (λ s ss. holds (stmt_of s) (statement_list ss))
