-- The arguments of a call: loops over them, and their measures.
use Rattle.std.proofs.Common.{◌≡◌, ◌<◌, ◌≤◌, ◌+◌, ◌++◌, ℕ, List, length, take, drop, get_or, ap, ◌∙◌, sym}
use Rattle.c_tree.specs.declared.typed_expression.TypedExpr.{TypedExpr}
use Rattle.c_tree.specs.TypedTree.{Expr, Exprs, none, more}
use Rattle.c_tree.specs.View.{expr_of, argument_list}
use Rattle.c_tree.specs.Monoids.{IsMonoid}
use Rattle.c_tree.specs.Replaced.{IsReplacedTo}
use Rattle.c_tree.proofs.Folds.{join_further, join_behind}
use Rattle.c_tree.proofs.Replacing.{all_replaced}
use Rattle.c_tree.proofs.Members.{member}

-- a value that joins those of the arguments
module _ {V : Type 0} {unit : V} {join : V → V → V} (laws : IsMonoid unit join) (one : Expr → V) (whole : Exprs → V)
    (empty : whole none ≡ unit) (first : (e : Expr) (rest : Exprs) → whole (more e rest) ≡ join (one e) (whole rest)) where
  pub arguments_further : (es : List TypedExpr) (i : ℕ) (e : TypedExpr) → e ≡ get_or es i e → i < length es
      → {now next : V} → now ≡ whole (argument_list (take i es)) → next ≡ join now (one (expr_of e)) → next ≡ whole (argument_list (take (i + 1) es))
  arguments_further = join_further laws (λ e. one (expr_of e)) (λ es. whole (argument_list es)) empty (λ e es. first (expr_of e) (argument_list es))

  pub arguments_behind : (old : V) (es : List TypedExpr) (i : ℕ) (e : TypedExpr) → e ≡ get_or es i e → i < length es
      → {now next : V} → now ≡ join old (whole (argument_list (take i es))) → next ≡ join now (one (expr_of e))
      → next ≡ join old (whole (argument_list (take (i + 1) es)))
  arguments_behind = join_behind laws (λ e. one (expr_of e)) (λ es. whole (argument_list es)) empty (λ e es. first (expr_of e) (argument_list es))

-- arguments that are replaced in place
module _ (make : Expr → Expr) (whole : Exprs → Exprs) (empty : whole none ≡ none) (first : (e : Expr) (rest : Exprs) → whole (more e rest) ≡ more (make e) (whole rest)) where
  pub arguments_replaced : (n i : ℕ) (new old lent : List TypedExpr) → lent ≡ old → length old ≤ n → length new ≤ i → IsReplacedTo expr_of make i lent new
      → argument_list (take n (new ++ drop (length new) old)) ≡ whole (argument_list old)
  arguments_replaced = all_replaced expr_of make argument_list whole (sym empty)
      (λ x y xs ys one others. ap (λ e. more e (argument_list xs)) one ∙ ap (more (make (expr_of y))) others ∙ sym (first (expr_of y) (argument_list ys)))

-- a measure by which an argument is within the arguments
pub argument_within : (one : Expr → ℕ) (whole : Exprs → ℕ) (holds : (e : Expr) (rest : Exprs) → (one e ≤ whole (more e rest)) × (whole rest ≤ whole (more e rest)))
    (es : List TypedExpr) (k : ℕ) (e : TypedExpr) → e ≡ get_or es k e → k < length es → one (expr_of e) ≤ whole (argument_list es)
argument_within one whole holds = member (λ e. one (expr_of e)) (λ es. whole (argument_list es)) (λ e es. holds (expr_of e) (argument_list es))
