-- Where a write stops behind its lvalue: ISO 9899:1990 6.3.2.4, 6.3.3.1 and 6.3.16.2.
use Rattle.std.proofs.Common.{◌≡◌, ℕ, Bool}
use Rattle.word_base.specs.Ports.{Outputs}
use Rattle.c_syntax.specs.declared.operator.BinaryOp.{BinaryOp}
use Rattle.c_tree.specs.Store.{Value, World, Gives, ◌>>=◌, load, save}
use Rattle.c_tree.specs.TypedTree.{Kind, Expr, Lvalue, AssignOp, StepBefore, StepAfter}
use Rattle.c_tree.specs.Eval.{Calls, Env, Spot, eval_form, spot, value, of_two, stepped, some, points, kind_of, lvalue_place}
use Rattle.c_state.specs.declared.value.Stop.{Stop}
use Rattle.c_state.specs.Worlds.{Stops}
use Rattle.c_means.proofs.RunLemmas.{past}
use Rattle.c_means.proofs.TurnLemmas.{stops_behind}

module _ (calls : Calls) (env : Env) (l : Lvalue) (kind : Kind) (at object i : ℕ) (w w1 : World) (outs : Outputs) (s : Stop) (found : spot calls env l w ≡ Gives (object, i) w1) where
  module _ (h : Stops (load object i (points kind) (lvalue_place l) w1) outs s) where
    pub step_before_old : (up : Bool) → Stops (eval_form calls env (StepBefore up l) kind at w) outs s
    step_before_old up =
        past (spot calls env l w)
        (λ (t : Spot). load t.0 t.1 (points kind) (lvalue_place l) >>= λ x. stepped up kind x at >>= λ z. save t.0 t.1 (points kind) z (lvalue_place l) >>= some)
        (object, i) w1 outs s found
        (stops_behind _ (λ x. stepped up kind x at >>= λ z. save object i (points kind) z (lvalue_place l) >>= some) outs s h)

    pub step_after_old : (up : Bool) → Stops (eval_form calls env (StepAfter up l) kind at w) outs s
    step_after_old up =
        past (spot calls env l w)
        (λ (t : Spot). load t.0 t.1 (points kind) (lvalue_place l) >>= λ x. stepped up kind x at >>= λ z. save t.0 t.1 (points kind) z (lvalue_place l) >>= λ _. some x)
        (object, i) w1 outs s found
        (stops_behind _ (λ x. stepped up kind x at >>= λ z. save object i (points kind) z (lvalue_place l) >>= λ _. some x) outs s h)

  module _ (o : BinaryOp) (e : Expr) where
    behind_spot : Stops ((load object i (points kind) (lvalue_place l) >>= λ x. value calls env e >>= λ y. of_two o kind (kind_of e) x y at >>= λ z. save object i (points kind) z (lvalue_place l) >>= some) w1) outs s
        → Stops (eval_form calls env (AssignOp o l e) kind at w) outs s
    behind_spot h =
        past (spot calls env l w)
        (λ (t : Spot). load t.0 t.1 (points kind) (lvalue_place l) >>= λ x. value calls env e >>= λ y. of_two o kind (kind_of e) x y at >>= λ z. save t.0 t.1 (points kind) z (lvalue_place l) >>= some)
        (object, i) w1 outs s found h

    pub assign_old : Stops (load object i (points kind) (lvalue_place l) w1) outs s → Stops (eval_form calls env (AssignOp o l e) kind at w) outs s
    assign_old h =
        behind_spot (stops_behind _ (λ x. value calls env e >>= λ y. of_two o kind (kind_of e) x y at >>= λ z. save object i (points kind) z (lvalue_place l) >>= some) outs s h)

    module _ (x y : Value) (w2 : World) (read : load object i (points kind) (lvalue_place l) w1 ≡ Gives x w1) (by : value calls env e w1 ≡ Gives y w2) where
      behind_value : Stops ((of_two o kind (kind_of e) x y at >>= λ z. save object i (points kind) z (lvalue_place l) >>= some) w2) outs s → Stops (eval_form calls env (AssignOp o l e) kind at w) outs s
      behind_value h =
          behind_spot
          (past (load object i (points kind) (lvalue_place l) w1)
          (λ x. value calls env e >>= λ y. of_two o kind (kind_of e) x y at >>= λ z. save object i (points kind) z (lvalue_place l) >>= some)
          x w1 outs s read
          (past (value calls env e w1) (λ y. of_two o kind (kind_of e) x y at >>= λ z. save object i (points kind) z (lvalue_place l) >>= some) y w2 outs s by h))

      pub assign_new : Stops (of_two o kind (kind_of e) x y at w2) outs s → Stops (eval_form calls env (AssignOp o l e) kind at w) outs s
      assign_new h = behind_value (stops_behind _ (λ z. save object i (points kind) z (lvalue_place l) >>= some) outs s h)

      pub assign_saved : (z : Value) → of_two o kind (kind_of e) x y at w2 ≡ Gives z w2 → Stops (save object i (points kind) z (lvalue_place l) w2) outs s → Stops (eval_form calls env (AssignOp o l e) kind at w) outs s
      assign_saved z gave h =
          behind_value (past (of_two o kind (kind_of e) x y at w2) (λ z. save object i (points kind) z (lvalue_place l) >>= some) z w2 outs s gave (stops_behind _ some outs s h))
