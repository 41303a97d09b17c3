-- How an evaluation goes on behind its parts.
use Rattle.std.proofs.Common.{◌≡◌, ◌∙◌, refl, sym, ap, subst, ℕ, Bool, true, false, Option, Some, None, Result, Ok, Err, IsErrAnd, Box, Global}
use Rattle.word_base.specs.Ports.{Outputs}
use Rattle.c_tree.specs.declared.typed_expression.TypedExpr.{TypedExpr}
use Rattle.c_tree.specs.declared.typed_expression.ExprForm.{ExprForm}
use Rattle.c_tree.specs.declared.typed_statement.TypedStmt.{TypedStmt}
use Rattle.c_tree.specs.Store as runs
use Rattle.c_tree.specs.Store.{World, Res, Gives, Does, after, ◌>>=◌}
use Rattle.word_base.specs.Words.{truth}
use Rattle.c_tree.specs.declared.typed_expression.ExprForm as form
use Rattle.c_tree.specs.declared.typed_expression.TargetForm as target
use Rattle.c_tree.specs.declared.typed_expression.TargetForm.{TargetForm}
use Rattle.c_tree.specs.TypedTree as tree
use Rattle.c_tree.specs.TypedTree.{Kind, Expr, Node, Form, Lvalue, Named, At, Stmt}
use Rattle.c_means.specs.Expressions.{needed, tested}
use Rattle.c_tree.specs.Eval.{Calls, Env, eval, eval_form, value, test_of, choose, some, lvalue_place}
use Rattle.c_tree.specs.Exec.{exec}
use Rattle.c_tree.specs.View.{form_of, expr_of, lvalue_of, stmt_of}
use Rattle.c_state.specs.declared.value.Value as code
use Rattle.c_state.specs.declared.value.Stop.{Stop}
use Rattle.c_means.specs.declared.blocks.Flow as flow
use Rattle.c_state.specs.Values.{option_of, value_of}
use Rattle.c_means.specs.Blocks.{flow_of}
use Rattle.c_state.specs.declared.state.State.{State}
use Rattle.c_state.specs.Worlds.{ComesTo, Stops}
use Rattle.c_means.proofs.TurnLemmas.{grouped, stops_behind}

-- an error that is passed on says what it said
pub stopped : {A B : Type 0} (view : B → A) (x : Res A) (behind : State) (r : Result B Stop) (s : Stop) → IsErrAnd r (λ e. e ≡ s) → Stops x behind.outs.items s → ComesTo view x behind r
stopped view x behind (Ok b) s is h = absurd is
stopped view x behind (Err e) s is h = subst (λ v. Stops x behind.outs.items v) (sym is) h

-- behind a part that gave a value
pub past : {A B : Type 0} (r : Res A) (next : A → Does B) (a : A) (w : World) (outs : Outputs) (s : Stop) → r ≡ Gives a w → Stops (next a w) outs s → Stops (after r next) outs s
past r next a w outs s is h = subst (λ x. Stops (after x next) outs s) (sym is) h

-- the same where the part is itself two parts
pub past_both : {A B C : Type 0} (r : Res A) (f : A → Does B) (g : B → Does C) (b : B) (w : World) (outs : Outputs) (s : Stop)
    → after r f ≡ Gives b w → Stops (g b w) outs s → Stops (after r (λ a v. after (f a v) g)) outs s
past_both r f g b w outs s is h = subst (λ x. Stops x outs s) (grouped r f g) (past (after r f) g b w outs s is h)

pub stops_both : {A B C : Type 0} (r : Res A) (f : A → Does B) (g : B → Does C) (outs : Outputs) (s : Stop)
    → Stops (after (after r f) g) outs s → Stops (after r (λ a v. after (f a v) g)) outs s
stops_both r f g outs s h = subst (λ x. Stops x outs s) (grouped r f g) h

-- an expression and a statement of a form
module _ (calls : Calls) (env : Env) (e : TypedExpr) (f : Form) (w : World) (behind : State) (is : form_of e.form ≡ f) where
  pub eval_comes : (r : Result (Option code.Value) Stop) → ComesTo option_of (eval_form calls env f e.kind e.at w) behind r → ComesTo option_of (eval calls env (expr_of e) w) behind r
  eval_comes r h = subst (λ g. ComesTo option_of (eval_form calls env g e.kind e.at w) behind r) (sym is) h

  pub value_comes : (r : Result code.Value Stop) → ComesTo value_of (value calls env (Node f e.kind e.at) w) behind r → ComesTo value_of (value calls env (expr_of e) w) behind r
  value_comes r h = subst (λ g. ComesTo value_of (value calls env (Node g e.kind e.at) w) behind r) (sym is) h

pub exec_comes : (calls : Calls) (n : ℕ) (env : Env) (s : TypedStmt) (t : Stmt) (w : World) (behind : State) → stmt_of s ≡ t → (r : Result flow.Flow Stop) → ComesTo flow_of (exec calls n t env w) behind r
    → ComesTo flow_of (exec calls n (stmt_of s) env w) behind r
exec_comes calls n env s t w behind is r h = subst (λ g. ComesTo flow_of (exec calls n g env w) behind r) (sym is) h

-- the place of an assignment and of a conversion says nothing
pub assign_place : (calls : Calls) (env : Env) (l : Lvalue) (e : Expr) (kind : Kind) (at place : ℕ) (w : World) → eval_form calls env (tree.Assign l e) kind at w ≡ eval_form calls env (tree.Assign l e) kind place w
assign_place calls env (Named v p) e kind at place w = refl
assign_place calls env (At q p) e kind at place w = refl

pub convert_place : (calls : Calls) (env : Env) (e : Expr) (kind : Kind) (at place : ℕ) (w : World) → eval_form calls env (tree.Convert e) kind at w ≡ eval_form calls env (tree.Convert e) kind place w
convert_place calls env e None at place w = refl
convert_place calls env e (Some k) at place w = refl

pub target_place : (t : TargetForm) (at : ℕ) → lvalue_place (lvalue_of t at) ≡ at
target_place (target.Named v) at = refl
target_place (target.At' p e k a) at = refl

-- the right side of && and of || stops
module _ (calls : Calls) (env : Env) (a b : Expr) (at : ℕ) (w w1 : World) (outs : Outputs) (s : Stop) where
  pub and_right : tested calls env a at w ≡ Gives true w1 → Stops (tested calls env b at w1) outs s → Stops (eval_form calls env (tree.And a b) None at w) outs s
  and_right goes h = past_both (value calls env a w) (λ v. test_of v at) (λ t. choose t (value calls env b >>= λ v. test_of v at >>= λ u. some (runs.Word (truth u))) (some (runs.Word 0))) true w1 outs s goes
      (stops_both (value calls env b w1) (λ v. test_of v at) (λ u. some (runs.Word (truth u))) outs s (stops_behind _ (λ u. some (runs.Word (truth u))) outs s h))

  pub or_right : tested calls env a at w ≡ Gives false w1 → Stops (tested calls env b at w1) outs s → Stops (eval_form calls env (tree.Or a b) None at w) outs s
  or_right goes h = past_both (value calls env a w) (λ v. test_of v at) (λ t. choose t (some (runs.Word 1)) (value calls env b >>= λ v. test_of v at >>= λ u. some (runs.Word (truth u)))) false w1 outs s goes
      (stops_both (value calls env b w1) (λ v. test_of v at) (λ u. some (runs.Word (truth u))) outs s (stops_behind _ (λ u. some (runs.Word (truth u))) outs s h))

-- a used value of one of two arms
pub arm_of : (calls : Calls) (env : Env) (c a b : Expr) (kind : Kind) (at : ℕ) (t : Bool) (w w1 : World) → tested calls env c at w ≡ Gives t w1
    → value calls env (Node (tree.Pick c a b) kind at) w ≡ choose t (value calls env a) (value calls env b) w1
arm_of calls env c a b kind at t w w1 goes =
    sym (grouped (value calls env c w) (λ v. test_of v at) (λ u. choose u (value calls env a) (value calls env b))) ∙ ap (λ r. after r (λ u. choose u (value calls env a) (value calls env b))) goes

-- a used value of any other form
module _ (calls : Calls) (env : Env) (kind : Kind) (at : ℕ) (w : World) where
  other_value : (f : ExprForm) → ((x y z : Box TypedExpr Global) → f ≡ form.Pick x y z → ⊥) → ((x y : Box TypedExpr Global) → f ≡ form.Comma x y → ⊥)
      → needed calls env (Node (form_of f) kind at) w ≡ value calls env (Node (form_of f) kind at) w
  other_value (form.Const x) pick comma = refl
  other_value (form.Read v) pick comma = refl
  other_value (form.AddressOf v) pick comma = refl
  other_value (form.Load' p e k a) pick comma = refl
  other_value (form.Unary' o p e k a) pick comma = refl
  other_value (form.Binary' o p e k a q f l b) pick comma = refl
  other_value (form.And' p e k a q f l b) pick comma = refl
  other_value (form.Or' p e k a q f l b) pick comma = refl
  other_value (form.Not' p e k a) pick comma = refl
  other_value (form.Assign' t x p e k a) pick comma = refl
  other_value (form.AssignOp' o t x p e k a) pick comma = refl
  other_value (form.StepBefore' up t x) pick comma = refl
  other_value (form.StepAfter' up t x) pick comma = refl
  other_value (form.Call' f shape args) pick comma = refl
  other_value (form.In x) pick comma = refl
  other_value (form.Out' port p e k a) pick comma = refl
  other_value (form.Convert' p e k a) pick comma = refl
  other_value (form.Pick' p e k a q f l b r g m c) pick comma = absurd (pick (record { ptr = p.ptr; alloc = p.alloc; value = record { form = e; kind = k; at = a } }) (record { ptr = q.ptr; alloc = q.alloc; value = record { form = f; kind = l; at = b } }) (record { ptr = r.ptr; alloc = r.alloc; value = record { form = g; kind = m; at = c } }) refl)
  other_value (form.Comma' p e k a q f l b) pick comma = absurd (comma (record { ptr = p.ptr; alloc = p.alloc; value = record { form = e; kind = k; at = a } }) (record { ptr = q.ptr; alloc = q.alloc; value = record { form = f; kind = l; at = b } }) refl)

  pub other_comes : (f : ExprForm) (behind : State) (r : Result code.Value Stop) → ((x y z : Box TypedExpr Global) → f ≡ form.Pick x y z → ⊥) → ((x y : Box TypedExpr Global) → f ≡ form.Comma x y → ⊥)
      → ComesTo value_of (needed calls env (Node (form_of f) kind at) w) behind r → ComesTo value_of (value calls env (Node (form_of f) kind at) w) behind r
  other_comes f behind r pick comma h = subst (λ x. ComesTo value_of x behind r) (other_value f pick comma) h
