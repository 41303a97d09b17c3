-- Expressions of typed programs keep, as their word trees, each with what its form asks of its parts: a used value, a test, a value that isn't used,
-- and arguments.
use Rattle.std.proofs.Common.{◌≡◌, ℕ, Bool, true, false, List, [], ◌∷◌, ◌++◌, Option, Some, None, refl, sym, ap, ◌∙◌, subst, arith}
use Rattle.std.proofs.lemmas.Bool.{false≢true}
use Rattle.c_tree.specs.declared.program.VarRef.{VarRef}
use Rattle.c_tree.specs.declared.program.VarRef.TheVariants.{Scalar, Local, Static}
use Rattle.c_tree.specs.declared.uses.Use.{Use}
use Rattle.c_tree.specs.declared.uses.Use.TheVariants as use_of
use Rattle.c_tree.specs.Kinds.{IsValue}
use Rattle.c_tree.specs.TypedTree as tree
use Rattle.c_tree.specs.TypedTree.{Kind, Form, Expr, Node, Named, At, Exprs, none, more, ProgramTree}
use Rattle.c_tree.specs.Rounds.{CallsAmong}
use Rattle.c_tree.specs.Uses.{uses, list_uses}
use Rattle.c_tree.specs.WellFormed.{Shape, Signature, Names, IsCell, PointsTo, IsCall, Converts, Leads, IsWellTyped, AreWellTyped, kinds_of}
use Rattle.c_tree.specs.WellFormedProgram.{program_calls}
use Rattle.tree_code_proof.specs.Counted as source
use Rattle.c_tree.specs.Store.{Value}
use Rattle.c_tree.specs.Store as store
use Rattle.c_tree.specs.Eval as plain
use Rattle.ir_semantics.specs.SourceWork.{CallsWork, expression_work}
use Rattle.tree_code_proof.specs.Evaluated as evaluation
use Rattle.tree_code_proof.proofs.Counting.{counted_nothing}
use Rattle.tree_code_proof.proofs.CountedForms.{needed_counted, const_counted, read_counted, address_of_counted, load_counted, unary_counted, not_counted, out_counted, in_counted, convert_counted, convert_away_counted, assign_name_counted, binary_counted, assign_at_counted, comma_counted, comma_value_counted, and_counted, or_counted, pick_counted, pick_value_counted, update_name_counted, update_at_counted, step_before_name_counted, step_before_at_counted, step_after_name_counted, step_after_at_counted, values_counted, call_counted}
use Rattle.c_tree.specs.Eval.{Env, object_number, points, kind_of}
use Rattle.tree_code.specs.Lowered.{is_converted, lowered, lowered_list}
use Rattle.ir_semantics.specs.Outside.{Places, address_of}
use Rattle.ir_semantics.specs.Parts.{Does, ◌>>=◌, give}
use Rattle.ir_semantics.specs.TreeRun as run
use Rattle.ir_semantics.specs.TreeRun.{Tree}
use Rattle.c_tree.specs.TypedOfWords.{UsesWords, AllUseWords}
use Rattle.tree_code_proof.specs.Seats.{Seats}
use Rattle.tree_code_proof.specs.Beside.{LiesThere, IsSeatOf}
use Rattle.tree_code_proof.specs.Surroundings.{Surrounds}
use Rattle.tree_code_proof.proofs.Growing.{give_grows, bind_grows, ticked, choose_grows}
use Rattle.tree_code_proof.proofs.Forms.{Values, Later}
use Rattle.tree_code_proof.proofs.Truths.{Tests, not_kept}
use Rattle.tree_code_proof.proofs.Joining.{Effects, and_kept, or_kept}
use Rattle.tree_code_proof.proofs.Interfaces.{CallsKeep, CallsOf, calls_left, calls_right}
use Rattle.tree_code_proof.proofs.Using.{Kept, of_forms, of_decides}
use Rattle.tree_code_proof.proofs.Operations.{no_pointer, binary_kept}
use Rattle.tree_code_proof.proofs.Unaries.{unary_form_kept}
use Rattle.tree_code_proof.proofs.Atoms.{leads_pointer, constant_kept, read_kept, address_of_kept, load_form_kept}
use Rattle.tree_code_proof.proofs.Targets.{assign_name_form, update_name_form, step_before_name, step_after_name, assign_at_form, update_at_form, step_before_at, step_after_at}
use Rattle.tree_code_proof.proofs.Porting.{in_kept, in_grows, out_kept}
use Rattle.tree_code_proof.proofs.Arguments.{Lists, none_passed, more_passed, call_kept}
use Rattle.tree_code_proof.proofs.Combining.{pick_form_kept, comma_form_kept, convert_away, convert_to, convert_away_later, convert_later}

-- a conversion keeps whether a value is a pointer
same_points : (k kind : Kind) → IsValue kind → Converts k kind → points k ≡ points kind
same_points k None there c = absurd there
same_points None (Some kind) there c = absurd c
same_points (Some from) (Some kind) there c = c

converted_value : (k kind : Kind) → IsValue kind → Converts k kind → IsValue k
converted_value k None there c = absurd there
converted_value None (Some kind) there c = absurd c
converted_value (Some from) (Some kind) there c = there

module _ (q : Places) (p : ProgramTree) (f : ℕ) (objects : VarRef → Option Shape) (names : Names) (env : Env) (seats : Seats) (around : Surrounds q p f objects names.object env seats) (calls : plain.Calls) (work : CallsWork) (does : run.Calls) (keep : CallsKeep q p f names.function (evaluation.calling calls work) does) where
  -- where the objects of names lie
  seat_of : (v : VarRef) (s : Shape) → names.object v ≡ Some s → IsSeatOf (address_of q f) v (seats.seat (object_number env v))
  seat_of (Scalar n) s e = around.named (Scalar n) s e
  seat_of (Local n) s e = subst (λ x. LiesThere (Some (q.local f n)) x) (sym (around.named (Local n) s e)) refl
  seat_of (Static n) s e = subst (λ x. LiesThere (Some (q.static n)) x) (sym (around.named (Static n) s e)) refl

  cell_seat : (v : VarRef) (kind : Kind) → IsCell (names.object v) kind → IsSeatOf (address_of q f) v (seats.seat (object_number env v))
  cell_seat v None is = absurd is
  cell_seat v (Some kind) is = seat_of v (record { kind = kind; length = 1 }) is

  addressed : (v : VarRef) (kind : Kind) (o : Option Shape) → names.object v ≡ o → PointsTo o kind → IsSeatOf (address_of q f) v (seats.seat (object_number env v))
  addressed v kind None e is = absurd is
  addressed v kind (Some s) e is = seat_of v s e

  -- what is called
  call_there : (us : List Use) (g at : ℕ) → CallsOf p f (us ++ use_of.Call g at ∷ []) → CallsAmong (program_calls p.functions) f g
  call_there us g at among = calls_right p f us (use_of.Call g at ∷ []) among g (0, omega arith, refl)

  call_form : {vs : source.Does (List Value)} {xs : Does Tree (List ℕ)} (g at : ℕ) (o : Option Signature) (kinds : List Kind) (kind : Kind) → names.function g ≡ o → CallsAmong (program_calls p.functions) f g → IsCall o kinds kind → Lists seats kinds vs xs
      → Kept seats kind (source.◌>>=◌ (source.ticked 2 (source.◌>>=◌ vs (evaluation.calling calls work g))) (evaluation.need at)) (source.ticked 2 (source.◌>>=◌ vs (evaluation.calling calls work g))) (run.call_does (does g) xs >>= run.need) (run.as_truth (run.call_does (does g) xs >>= run.need)) (run.as_nothing (run.call_does (does g) xs))
  call_form g at None kinds kind e among is l = absurd (keep.there g among e)
  call_form {vs = vs} {xs = xs} g at (Some s) kinds kind e among is l =
      call_kept seats (evaluation.calling calls work) does g s (keep.by g s among e seats (around.callees g among)) (keep.grow g) (subst (λ ks. Lists seats ks vs xs) is.0 l) kind at is.1

  -- a form, by what it does with what it costs
  value_counted : (form : Form) (kind : Kind) (at : ℕ) {does_it : source.Does (Option Value)}
      → evaluation.eval calls work env (Node form kind at) ≡ does_it → plain.value calls env (Node form kind at) ≡ store.◌>>=◌ (plain.eval calls env (Node form kind at)) (plain.need at)
      → evaluation.value calls work env (Node form kind at) ≡ source.◌>>=◌ does_it (evaluation.need at)
  value_counted form kind at is plainly =
      let cost = expression_work calls work env (Node form kind at) in
      ap (λ f. source.counted f cost) plainly ∙ needed_counted calls work env (plain.eval calls env (Node form kind at)) cost at ∙ ap (λ f. source.◌>>=◌ f (evaluation.need at)) is

  counted_kept : (form : Form) (kind : Kind) (at : ℕ) {does_it : source.Does (Option Value)} {word_does : Does Tree ℕ} {truth_does : Does Tree Bool} {nothing_does : Does Tree (Unit {0})}
      → evaluation.eval calls work env (Node form kind at) ≡ does_it → plain.value calls env (Node form kind at) ≡ store.◌>>=◌ (plain.eval calls env (Node form kind at)) (plain.need at)
      → Kept seats kind (source.◌>>=◌ does_it (evaluation.need at)) does_it word_does truth_does nothing_does
      → Kept seats kind (evaluation.value calls work env (Node form kind at)) (evaluation.eval calls work env (Node form kind at)) word_does truth_does nothing_does
  counted_kept form kind at {does_it = does_it} {word_does = word_does} {truth_does = truth_does} {nothing_does = nothing_does} is plainly kept =
      subst (λ v. Kept seats kind v (evaluation.eval calls work env (Node form kind at)) word_does truth_does nothing_does) (sym (value_counted form kind at is plainly))
      (subst (λ y. Kept seats kind (source.◌>>=◌ does_it (evaluation.need at)) y word_does truth_does nothing_does) (sym is) kept)

  -- a form with its own way to be used
  both_kept : (e : Expr) (kind : Kind) {value : source.Does Value} {eval : source.Does (Option Value)} {word_does : Does Tree ℕ} {truth_does : Does Tree Bool} {nothing_does : Does Tree (Unit {0})}
      → evaluation.value calls work env e ≡ value → evaluation.eval calls work env e ≡ eval → Kept seats kind value eval word_does truth_does nothing_does
      → Kept seats kind (evaluation.value calls work env e) (evaluation.eval calls work env e) word_does truth_does nothing_does
  both_kept e kind {value = value} {word_does = word_does} {truth_does = truth_does} {nothing_does = nothing_does} same_value same_eval kept =
      subst (λ v. Kept seats kind v (evaluation.eval calls work env e) word_does truth_does nothing_does) (sym same_value) (subst (λ y. Kept seats kind value y word_does truth_does nothing_does) (sym same_eval) kept)

  -- a value as one of another type, or as none
  convert_form : (e : Expr) (kind : Kind) (at : ℕ) → Converts (kind_of e) kind
      → Kept seats (kind_of e) (evaluation.value calls work env e) (evaluation.eval calls work env e) (run.value does (address_of q f) (lowered e)) (run.decide does (address_of q f) (lowered e)) (run.effect does (address_of q f) (lowered e))
      → Kept seats kind (evaluation.value calls work env (Node (tree.Convert e) kind at)) (evaluation.eval calls work env (Node (tree.Convert e) kind at)) (run.value does (address_of q f) (lowered e)) (run.decide does (address_of q f) (lowered e))
      (run.effect does (address_of q f) (lowered e))
  convert_form e None at c a = counted_kept (tree.Convert e) None at (convert_away_counted calls work env e at) refl (convert_away seats (kind_of e) at a)
  convert_form e (Some kind) at c a = counted_kept (tree.Convert e) (Some kind) at (convert_counted calls work env e kind at) refl (convert_to seats (kind_of e) (Some kind) at (same_points (kind_of e) (Some kind) tt c) (λ there. converted_value (kind_of e) (Some kind) there c) a)

  abbrev Keeping : Expr → Type 0
  Keeping e =
      Kept seats (kind_of e) (evaluation.value calls work env e) (evaluation.eval calls work env e) (run.value does (address_of q f) (lowered e)) (run.decide does (address_of q f) (lowered e)) (run.effect does (address_of q f) (lowered e))

  -- a pointer that is assigned through
  pointing : (e : Expr) (kind : Kind) → Leads (kind_of e) kind → Keeping e → Values seats true (evaluation.value calls work env e) (run.value does (address_of q f) (lowered e))
  pointing e kind leads a = subst (λ b. Values seats b (evaluation.value calls work env e) (run.value does (address_of q f) (lowered e))) (leads_pointer (kind_of e) kind leads) a.valued

  mutual
    kept : (e : Expr) → IsWellTyped names e → UsesWords e → CallsOf p f (uses e) → Keeping e
    kept (Node (tree.Const c) kind at) t u us = counted_kept (tree.Const c) kind at (const_counted calls work env c kind at) refl (constant_kept seats (address_of q f) at c kind t.1 u)
    kept (Node (tree.Read v) kind at) t u us =
        counted_kept (tree.Read v) kind at (read_counted calls work env v kind at) refl (read_kept seats (address_of q f) at v kind (object_number env v) (cell_seat v kind t.1))
    kept (Node (tree.AddressOf v) kind at) t u us =
        counted_kept (tree.AddressOf v) kind at (address_of_counted calls work env v kind at) refl
        (address_of_kept seats (address_of q f) at v (names.object v) kind (object_number env v) t.1.0 t.1.1 (addressed v kind (names.object v) refl t.1.1))
    kept (Node (tree.Load e) kind at) t u us =
        counted_kept (tree.Load e) kind at (load_counted calls work env e kind at) refl (load_form_kept seats (address_of q f) at (kind_of e) kind t.1.1 (kept e t.1.0 u us).valued)
    kept (Node (tree.Unary o e) kind at) t u us =
        let points_as = ap points t.1.2 ∙ no_pointer kind t.1.1 in
        counted_kept (tree.Unary o e) kind at (unary_counted calls work env o e kind at) refl
        (unary_form_kept seats does (address_of q f) o kind (no_pointer kind t.1.1) at (is_converted e) (lowered e)
        (subst (λ b. Values seats b (evaluation.value calls work env e) (run.value does (address_of q f) (lowered e))) points_as (kept e t.1.0 u us).valued)
        (λ is. subst (λ b. Later seats b (evaluation.value calls work env e) (run.value does (address_of q f) (lowered e))) points_as (later e is t.1.0 u us)))
    kept (Node (tree.Binary o a b) kind at) t u us =
        counted_kept (tree.Binary o a b) kind at (binary_counted calls work env o a b kind at) refl
        (binary_kept seats o (kind_of a) (kind_of b) kind at t.1.2 (kept a t.1.0 u.0 (calls_left p f (uses a) (uses b) us)).valued (kept b t.1.1 u.1 (calls_right p f (uses a) (uses b) us)).valued)
    kept (Node (tree.And a b) kind at) t u us =
        let first = (kept a t.1.0 u.0 (calls_left p f (uses a) (uses b) us)).tested t.1.2 in
        let second = (kept b t.1.1 u.1 (calls_right p f (uses a) (uses b) us)).tested t.1.3 in
        counted_kept (tree.And a b) kind at (and_counted calls work env a b kind at) refl
        (of_decides seats kind (ap points t.1.4) at (and_kept seats at first second) (bind_grows (ticked 20 (λ _. first.grows)) (λ c. choose_grows c second.grows (give_grows false))))
    kept (Node (tree.Or a b) kind at) t u us =
        let first = (kept a t.1.0 u.0 (calls_left p f (uses a) (uses b) us)).tested t.1.2 in
        let second = (kept b t.1.1 u.1 (calls_right p f (uses a) (uses b) us)).tested t.1.3 in
        counted_kept (tree.Or a b) kind at (or_counted calls work env a b kind at) refl
        (of_decides seats kind (ap points t.1.4) at (or_kept seats at first second) (bind_grows (ticked 20 (λ _. first.grows)) (λ c. choose_grows c (give_grows true) second.grows)))
    kept (Node (tree.Not e) kind at) t u us =
        let test = (kept e t.1.0 u us).tested t.1.1 in
        counted_kept (tree.Not e) kind at (not_counted calls work env e kind at) refl
        (of_decides seats kind (ap points t.1.2) at (not_kept seats at test) (bind_grows (ticked 10 (λ _. test.grows)) (λ c. give_grows _)))
    kept (Node (tree.Pick c a b) kind at) t u us =
        let arms = calls_right p f (uses c) (uses a ++ uses b) us in
        both_kept (Node (tree.Pick c a b) kind at) kind (pick_value_counted calls work env c a b kind at) (pick_counted calls work env c a b kind at)
        (pick_form_kept seats at ((kept c t.1.0 u.0 (calls_left p f (uses c) (uses a ++ uses b) us)).tested t.1.3) (kind_of a) (kind_of b) kind t.1.4 t.1.5 (kept a t.1.1 u.1 (calls_left p f (uses a) (uses b) arms)) (kept b t.1.2 u.2 (calls_right p f (uses a) (uses b) arms)))
    kept (Node (tree.Assign (Named v place) e) kind at) t u us =
        counted_kept (tree.Assign (Named v place) e) kind at (assign_name_counted calls work env v place e kind at) refl
        (assign_name_form seats (address_of q f) kind place at v (object_number env v) (cell_seat v kind t.1.0) (kind_of e) t.1.2 (kept e t.1.1 u.1 us).valued)
    kept (Node (tree.Assign (At l place) e) kind at) t u us =
        counted_kept (tree.Assign (At l place) e) kind at (assign_at_counted calls work env l place e kind at) refl
        (assign_at_form seats (address_of q f) kind place at (pointing l kind t.1.0.1 (kept l t.1.0.0 u.0 (calls_left p f (uses l) (uses e) us))) (kind_of e) t.1.2 (kept e t.1.1 u.1 (calls_right p f (uses l) (uses e) us)).valued)
    kept (Node (tree.AssignOp o (Named v place) e) kind at) t u us =
        counted_kept (tree.AssignOp o (Named v place) e) kind at (update_name_counted calls work env o v place e kind at) refl
        (update_name_form seats (address_of q f) kind place at v (object_number env v) (cell_seat v kind t.1.0) o (kind_of e) t.1.2 (kept e t.1.1 u.1 us).valued)
    kept (Node (tree.AssignOp o (At l place) e) kind at) t u us =
        counted_kept (tree.AssignOp o (At l place) e) kind at (update_at_counted calls work env o l place e kind at) refl
        (update_at_form seats (address_of q f) kind place at (pointing l kind t.1.0.1 (kept l t.1.0.0 u.0 (calls_left p f (uses l) (uses e) us))) o (kind_of e) t.1.2 (kept e t.1.1 u.1 (calls_right p f (uses l) (uses e) us)).valued)
    kept (Node (tree.StepBefore up (Named v place)) kind at) t u us =
        counted_kept (tree.StepBefore up (Named v place)) kind at (step_before_name_counted calls work env up v place kind at) refl (step_before_name seats (address_of q f) kind place at v (object_number env v) (cell_seat v kind t.1) up)
    kept (Node (tree.StepBefore up (At l place)) kind at) t u us =
        counted_kept (tree.StepBefore up (At l place)) kind at (step_before_at_counted calls work env up l place kind at) refl (step_before_at seats (address_of q f) kind place at (pointing l kind t.1.1 (kept l t.1.0 u us)) up)
    kept (Node (tree.StepAfter up (Named v place)) kind at) t u us =
        counted_kept (tree.StepAfter up (Named v place)) kind at (step_after_name_counted calls work env up v place kind at) refl (step_after_name seats (address_of q f) kind place at v (object_number env v) (cell_seat v kind t.1) up)
    kept (Node (tree.StepAfter up (At l place)) kind at) t u us =
        counted_kept (tree.StepAfter up (At l place)) kind at (step_after_at_counted calls work env up l place kind at) refl (step_after_at seats (address_of q f) kind place at (pointing l kind t.1.1 (kept l t.1.0 u us)) up)
    kept (Node (tree.Call g es) kind at) t u us =
        counted_kept (tree.Call g es) kind at (call_counted calls work env g es kind at) refl
        (call_form g at (names.function g) (kinds_of es) kind refl (call_there (list_uses es) g at us) t.1.1 (listed es t.1.0 u (calls_left p f (list_uses es) (use_of.Call g at ∷ []) us)))
    kept (Node (tree.In port) kind at) t u us = counted_kept (tree.In port) kind at (in_counted calls work env port kind at) refl (of_forms seats kind false (ap points t.1.1) at (in_kept seats port) (in_grows seats port))
    kept (Node (tree.Out port e) kind at) t u us =
        counted_kept (tree.Out port e) kind at (out_counted calls work env port e kind at) refl
        (out_kept seats port at (subst (λ b. Values seats b (evaluation.value calls work env e) (run.value does (address_of q f) (lowered e))) (no_pointer (kind_of e) t.1.1) (kept e t.1.0 u us).valued) kind t.1.3)
    kept (Node (tree.Comma a b) kind at) t u us =
        both_kept (Node (tree.Comma a b) kind at) kind (comma_value_counted calls work env a b kind at) (comma_counted calls work env a b kind at)
        (comma_form_kept seats (kept a t.1.0 u.0 (calls_left p f (uses a) (uses b) us)).effect (kind_of b) kind t.1.2 (kept b t.1.1 u.1 (calls_right p f (uses a) (uses b) us)))
    kept (Node (tree.Convert e) kind at) t u us = convert_form e kind at t.1.1 (kept e t.1.0 u us)

    -- a conversion counts before its operand
    later : (e : Expr) → is_converted e ≡ true → IsWellTyped names e → UsesWords e → CallsOf p f (uses e) → Later seats (points (kind_of e)) (evaluation.value calls work env e) (run.value does (address_of q f) (lowered e))
    later (Node (tree.Convert e) None at) is t u us =
        subst (λ v. Later seats false v (run.value does (address_of q f) (lowered e))) (sym (value_counted (tree.Convert e) None at (convert_away_counted calls work env e at) refl)) (convert_away_later seats (kind_of e) at (kept e t.1.0 u us))
    later (Node (tree.Convert e) (Some kind) at) is t u us =
        subst (λ v. Later seats (points (Some kind)) v (run.value does (address_of q f) (lowered e))) (sym (value_counted (tree.Convert e) (Some kind) at (convert_counted calls work env e kind at) refl))
        (convert_later seats (points (Some kind)) at (subst (λ b. Values seats b (evaluation.value calls work env e) (run.value does (address_of q f) (lowered e))) (same_points (kind_of e) (Some kind) tt t.1.1) (kept e t.1.0 u us).valued))
    later (Node (tree.Const c) kind at) is t u us = absurd (false≢true is)
    later (Node (tree.Read v) kind at) is t u us = absurd (false≢true is)
    later (Node (tree.AddressOf v) kind at) is t u us = absurd (false≢true is)
    later (Node (tree.Load e) kind at) is t u us = absurd (false≢true is)
    later (Node (tree.Unary o e) kind at) is t u us = absurd (false≢true is)
    later (Node (tree.Binary o a b) kind at) is t u us = absurd (false≢true is)
    later (Node (tree.And a b) kind at) is t u us = absurd (false≢true is)
    later (Node (tree.Or a b) kind at) is t u us = absurd (false≢true is)
    later (Node (tree.Not e) kind at) is t u us = absurd (false≢true is)
    later (Node (tree.Pick c a b) kind at) is t u us = absurd (false≢true is)
    later (Node (tree.Assign l e) kind at) is t u us = absurd (false≢true is)
    later (Node (tree.AssignOp o l e) kind at) is t u us = absurd (false≢true is)
    later (Node (tree.StepBefore up l) kind at) is t u us = absurd (false≢true is)
    later (Node (tree.StepAfter up l) kind at) is t u us = absurd (false≢true is)
    later (Node (tree.Call g es) kind at) is t u us = absurd (false≢true is)
    later (Node (tree.In port) kind at) is t u us = absurd (false≢true is)
    later (Node (tree.Out port e) kind at) is t u us = absurd (false≢true is)
    later (Node (tree.Comma a b) kind at) is t u us = absurd (false≢true is)

    listed : (es : Exprs) → AreWellTyped names es → AllUseWords es → CallsOf p f (list_uses es) → Lists seats (kinds_of es) (evaluation.values calls work env es) (run.values does (address_of q f) (lowered_list es))
    listed none t u us = subst (λ g. Lists seats [] g (give [])) (sym (counted_nothing (store.give []))) (none_passed seats)
    listed (more e es) t u us =
        subst (λ g. Lists seats (kind_of e ∷ kinds_of es) g (run.values does (address_of q f) (lowered_list (more e es)))) (sym (values_counted calls work env e es))
        (more_passed seats (kind_of e) (kinds_of es) (kept e t.0 u.0 (calls_left p f (uses e) (list_uses es) us)).valued (listed es t.1 u.1 (calls_right p f (uses e) (list_uses es) us)))

  -- an expression whose value is used, one that is tested, one whose value isn't used, and arguments
  pub value_keeps : (e : Expr) → IsWellTyped names e → UsesWords e → CallsOf p f (uses e) → Values seats (points (kind_of e)) (evaluation.value calls work env e) (run.value does (address_of q f) (lowered e))
  value_keeps e t u us = (kept e t u us).valued

  pub test_keeps : (e : Expr) → IsWellTyped names e → IsValue (kind_of e) → UsesWords e → CallsOf p f (uses e) → Tests seats (evaluation.value calls work env e) (run.decide does (address_of q f) (lowered e))
  test_keeps e t there u us = (kept e t u us).tested there

  pub effect_keeps : (e : Expr) → IsWellTyped names e → UsesWords e → CallsOf p f (uses e) → Effects seats (evaluation.eval calls work env e) (run.effect does (address_of q f) (lowered e))
  effect_keeps e t u us = (kept e t u us).effect

  pub values_keep : (es : Exprs) → AreWellTyped names es → AllUseWords es → CallsOf p f (list_uses es) → Lists seats (kinds_of es) (evaluation.values calls work env es) (run.values does (address_of q f) (lowered_list es))
  values_keep es t u us = listed es t u us
