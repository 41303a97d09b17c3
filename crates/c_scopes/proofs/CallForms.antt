-- Forms of expressions in memory, and calls, whose arguments are a list there.
use Rattle.std.proofs.Common.{◌≡◌, ℕ, List, sym, subst, Vec, Global}
use Rattle.std.specs.Prelude.{Result}
use Rattle.c_syntax.specs.declared.expr.Expr.{Expr}
use Rattle.c_syntax.specs.declared.expr.ExprKind as kind
use Rattle.c_tree.specs.declared.typed_expression.TypedExpr.{TypedExpr}
use Rattle.c_tree.specs.declared.typed_expression.ExprForm as typed
use Rattle.c_syntax.specs.SyntaxTree as tree
use Rattle.c_syntax.specs.SyntaxView.{form_of, expression_of, trees_of}
use Rattle.c_tree.specs.TypedTree.{Kind, Node, Call, Expr as Typed, Exprs}
use Rattle.c_tree.specs.View.{form_of as typed_form_of, argument_list, expr_of}
use Rattle.c_syntax.proofs.Views.{call_form}
use Rattle.c_tree.proofs.Views.{typed_call_form}
use Rattle.c_rules.specs.declared.fault.Refusal.{Refusal}
use Rattle.c_rules.specs.declared.fault.Refusal.TheVariants as refusals
use Rattle.c_rules.specs.Outcome.{Outcome, Is, Broken, ◌>>=◌}
use Rattle.c_rules.specs.Answers.{Follows, Refuses}
use Rattle.c_scopes.specs.Sides.{left_then}
use Rattle.c_rules.specs.Scopes.{Scope}
use Rattle.c_rules.specs.Typing.{typing, typing_form, constant_typing}

-- a call in memory of the arguments that were passed
pub call_typed : (o : Outcome Exprs) (n m : ℕ) (l : Vec TypedExpr Global) (k : Kind) (at : ℕ) → m ≡ n → o ≡ Is (argument_list l.items) → (o >>= λ es. Is (Node (Call n es) k at)) ≡ Is (Node (typed_form_of (typed.Call m l)) k at)
call_typed o n m l k at q e = rw (e, typed_call_form m l, q)

-- what is known of a form is known of the expression
pub form_follows : (s : Scope) (r : Result TypedExpr Refusal) (e : Expr) (f : tree.ExpressionForm) → form_of e.kind ≡ f → Follows expr_of (typing_form s f e.at) r → Follows expr_of (typing s (expression_of e)) r
form_follows s r e f same h = subst (λ f. Follows expr_of (typing_form s f e.at) r) (sym same) h

-- what is known of the form of a call is known of the call
pub call_follows : (s : Scope) (r : Result TypedExpr Refusal) (e : Expr) (n m : List ℕ) (l : Vec Expr Global) (xs : List Expr) → e.kind ≡ kind.Call n l → m ≡ n → xs ≡ l.items → Follows expr_of (typing_form s (tree.Call m (trees_of xs)) e.at) r → Follows expr_of (typing s (expression_of e)) r
call_follows s r e n m l xs k p q h =
    let P : tree.ExpressionForm → Type 0 = λ f. Follows expr_of (typing_form s f e.at) r in
    let f : tree.Call m (trees_of xs) ≡ form_of e.kind = rw (k, p, q, call_form n l) in
    subst P f h

-- and where the call has to be constant
pub constant_call_follows : (s : Scope) (r : Result TypedExpr Refusal) (e : Expr) (n m : List ℕ) (l : Vec Expr Global) (xs : List Expr) → e.kind ≡ kind.Call n l → m ≡ n → xs ≡ l.items → Follows expr_of (constant_typing s (tree.Node (tree.Call m (trees_of xs)) e.at)) r → Follows expr_of (constant_typing s (expression_of e)) r
constant_call_follows s r e n m l xs k p q h =
    let P : tree.ExpressionForm → Type 0 = λ f. Follows expr_of (constant_typing s (tree.Node f e.at)) r in
    let f : tree.Call m (trees_of xs) ≡ form_of e.kind = rw (k, p, q, call_form n l) in
    subst P f h

-- two sides of which one is refused, before what is made of them
refused_before : (o p : Outcome Typed) (next : Typed → Typed → Outcome Typed) (f : Refusal) → Refuses (o >>= λ x. p) f → Refuses (o >>= λ x. p >>= λ y. next x y) f
refused_before o p next refusals.NoMemory h = tt {0}
refused_before (Is x) (Is y) next (refusals.Broken rule at) h = cc
refused_before (Is x) (Broken other place) next (refusals.Broken rule at) h = h
refused_before (Broken other place) p next (refusals.Broken rule at) h = h

pub side_refused : (s : Scope) (a b : tree.Expression) (next : Typed → Typed → Outcome Typed) (f : Refusal) → Refuses (left_then s a b) f → Refuses (typing s a >>= λ x. typing s b >>= λ y. next x y) f
side_refused s a b next f h = refused_before (typing s a) (typing s b) next f h
