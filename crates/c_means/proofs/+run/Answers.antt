use Rattle.std.proofs.Common.{rules, arith, ◌≡◌, ◌∙◌, refl, sym, ap, subst, ℕ, suc, ◌+◌, true, false, Some, None, ◌++◌, drop, map}
use Rattle.std.specs.Prelude.{slice_get}
use Rattle.std.proofs.lemmas.Option.{slice_get_read, slice_get_past}
use Rattle.c_tree.specs.Store.{Gives, after, give, load, save}
use Rattle.c_tree.specs.Eval.{Env, choose, condition, eval_form, points, spot, values}
use Rattle.c_tree.specs.Exec.{exec, Next, too_many, test_or_true, third_of, turns, turns_first}
use Rattle.c_tree.specs.TypedTree as tree
use Rattle.c_tree.specs.View.{argument_list, choice_list, expr_of, form_of, function_of, lvalue_of, option_expr_of, statement_list, stmt_of}
use Rattle.c_tree.proofs.Views.{typed_call_form, block_of_list, switch_of_list}
use Rattle.c_means.specs.Blocks.{flow_of, option_flow_of, numbers_of}
use Rattle.c_means.specs.Frames.{calls_of, env_in}
use Rattle.c_means.specs.Turns.{turn, turn_first}
use Rattle.c_state.specs.Values.{option_of, value_of}
use Rattle.c_state.specs.Worlds.{world_of, ComesTo, Stops}
use Rattle.c_means.proofs.CallLemmas.{call_there, call_missing, entered_first, body_stops, body_gives, next_argument, argument_stops, from_here, plus_one, mapped_behind}
use Rattle.c_means.proofs.RunLemmas.{stopped, eval_comes, value_comes, exec_comes, assign_place, convert_place, target_place, and_right, or_right, arm_of, other_comes}
use Rattle.c_means.proofs.RoomLemmas.{called_has_room}
use Rattle.c_means.proofs.Sizes.{nodes, form_nodes, argument_nodes, statement_nodes, body_nodes, choice_nodes, body_falls, argument_in, statement_in, choice_in}
use Rattle.c_means.proofs.StepLemmas.{step_before_old, step_after_old, assign_old, assign_new, assign_saved}
use Rattle.c_means.proofs.TurnLemmas.{stops_behind, one_turn, one_turn_first, first_tests, first_test_stops, third_stops, third_gives, loop_left, loop_on, loop_stops, loop_end}
use Rattle.c_means.proofs.+run.Goals as goal

pub expressions::arguments-loop-e-preserved : goal.expressions::arguments-loop-e-preserved
expressions::arguments-loop-e-preserved t c =
    ap (λ m. after (values (calls_of c.args.run.now) (env_in c.args.run.now c.args.names.now) (argument_list (drop m c.args.list.now)) (world_of c.used.new.state)) (λ ws. give (map value_of c.push.new.self.items ++ ws))) (plus_one c.loop-e.e-index) ∙ ap (λ vs. after (values (calls_of c.args.run.now) (env_in c.args.run.now c.args.names.now) (argument_list (drop (suc c.loop-e.e-index) c.args.list.now)) (world_of c.used.new.state)) (λ ws. give (vs ++ ws))) (ap (map value_of) c.in_ok-push.ensures.items ∙ mapped_behind value_of c.loop-e.values.items c.in_ok-value.value) ∙ sym (next_argument (calls_of c.args.run.now) (env_in c.args.run.now c.args.names.now) (expr_of c.e-item.result) (argument_list (drop (suc c.loop-e.e-index) c.args.list.now)) (map value_of c.loop-e.values.items) (value_of c.in_ok-value.value) (world_of c.loop-e.state) (world_of c.used.new.state) c.in_ok-value.ensures) ∙ sym (ap (λ l. after (values (calls_of c.args.run.now) (env_in c.args.run.now c.args.names.now) l (world_of c.loop-e.state)) (λ vs. give ((map value_of c.loop-e.values.items) ++ vs))) (from_here c.args.list.now c.loop-e.e-index c.e-item.result c.loop-e-test.true c.e-item.is)) ∙ c.loop-e.invariant

pub expressions::arguments-returns-in_err-value : goal.expressions::arguments-returns-in_err-value
expressions::arguments-returns-in_err-value t c =
    stopped _ _ c.used.new.state c.from_residual.result c.in_err-value.field-0.0 c.from_residual.ensures.1 (subst (λ r. Stops r c.used.new.state.outs.items c.in_err-value.field-0.0) (sym (ap (λ l. after (values (calls_of c.args.run.now) (env_in c.args.run.now c.args.names.now) l (world_of c.loop-e.state)) (λ vs. give ((map value_of c.loop-e.values.items) ++ vs))) (from_here c.args.list.now c.loop-e.e-index c.e-item.result c.loop-e-test.true c.e-item.is)) ∙ c.loop-e.invariant) (argument_stops (calls_of c.args.run.now) (env_in c.args.run.now c.args.names.now) (expr_of c.e-item.result) (argument_list (drop (suc c.loop-e.e-index) c.args.list.now)) (map value_of c.loop-e.values.items) (world_of c.loop-e.state) c.used.new.state.outs.items c.in_err-value.field-0.0 c.in_err-value.ensures))

pub expressions::arguments-used-requires : goal.expressions::arguments-used-requires
expressions::arguments-used-requires t c =
    let small = argument_in c.args.list.now c.loop-e.e-index c.e-item.result c.e-item.is c.loop-e-test.true in let now = c.decreases in (omega (arith, small, now), tt {0})

pub expressions::assign-returns-in-At : goal.expressions::assign-returns-in-At
expressions::assign-returns-in-At t c =
    subst (λ t. ComesTo option_of (eval_form (calls_of c.args.run.now) (env_in c.args.run.now c.args.names.now) (tree.Assign (lvalue_of t c.args.to.now.at) (expr_of c.args.value.now)) c.args.kind 0 (world_of c.args.state.now)) c.assign_through.new.state c.assign_through.result) (sym c.in-At.is) (rw c.deref.ensures at c.assign_through.ensures)

pub expressions::assign_by-returns-in_err-load : goal.expressions::assign_by-returns-in_err-load
expressions::assign_by-returns-in_err-load t c =
    stopped _ _ c.spot.new.state c.from_residual-in_err-load.result c.in_err-load.field-0.0 c.from_residual-in_err-load.ensures.1 (assign_old (calls_of c.args.run.now) (env_in c.args.run.now c.args.names.now) (lvalue_of c.args.to.now.form c.args.to.now.at) c.args.kind c.args.at c.in_ok-spot.spot.object.number c.in_ok-spot.spot.index (world_of c.args.state.now) (world_of c.spot.new.state) c.spot.new.state.outs.items c.in_err-load.field-0.0 c.in_ok-spot.ensures c.args.op (expr_of c.args.value.now) (subst (λ p. Stops (load c.in_ok-spot.spot.object.number c.in_ok-spot.spot.index (points c.args.kind) p (world_of c.spot.new.state)) c.spot.new.state.outs.items c.in_err-load.field-0.0) (sym (target_place c.args.to.now.form c.args.to.now.at)) c.in_err-load.ensures))

pub expressions::assign_by-returns-in_err-new : goal.expressions::assign_by-returns-in_err-new
expressions::assign_by-returns-in_err-new t c =
    stopped _ _ c.used.new.state c.from_residual-in_err-new.result c.in_err-new.field-0.0 c.from_residual-in_err-new.ensures.1 (assign_new (calls_of c.args.run.now) (env_in c.args.run.now c.args.names.now) (lvalue_of c.args.to.now.form c.args.to.now.at) c.args.kind c.args.at c.in_ok-spot.spot.object.number c.in_ok-spot.spot.index (world_of c.args.state.now) (world_of c.spot.new.state) c.used.new.state.outs.items c.in_err-new.field-0.0 c.in_ok-spot.ensures c.args.op (expr_of c.args.value.now) (value_of c.in_ok-load.field-0) (value_of c.in_ok-used.field-0) (world_of c.used.new.state) (subst (λ p. load c.in_ok-spot.spot.object.number c.in_ok-spot.spot.index (points c.args.kind) p (world_of c.spot.new.state) ≡ Gives (value_of c.in_ok-load.field-0) (world_of c.spot.new.state)) (sym (target_place c.args.to.now.form c.args.to.now.at)) c.in_ok-load.ensures) c.in_ok-used.ensures c.in_err-new.ensures)

pub expressions::assign_by-returns-in_err-save : goal.expressions::assign_by-returns-in_err-save
expressions::assign_by-returns-in_err-save t c =
    stopped _ _ c.save.new.self c.from_residual-in_err-save.result c.in_err-save.field-0.0 c.from_residual-in_err-save.ensures.1 (assign_saved (calls_of c.args.run.now) (env_in c.args.run.now c.args.names.now) (lvalue_of c.args.to.now.form c.args.to.now.at) c.args.kind c.args.at c.in_ok-spot.spot.object.number c.in_ok-spot.spot.index (world_of c.args.state.now) (world_of c.spot.new.state) c.save.new.self.outs.items c.in_err-save.field-0.0 c.in_ok-spot.ensures c.args.op (expr_of c.args.value.now) (value_of c.in_ok-load.field-0) (value_of c.in_ok-used.field-0) (world_of c.used.new.state) (subst (λ p. load c.in_ok-spot.spot.object.number c.in_ok-spot.spot.index (points c.args.kind) p (world_of c.spot.new.state) ≡ Gives (value_of c.in_ok-load.field-0) (world_of c.spot.new.state)) (sym (target_place c.args.to.now.form c.args.to.now.at)) c.in_ok-load.ensures) c.in_ok-used.ensures (value_of c.in_ok-new.new) c.in_ok-new.ensures (subst (λ p. Stops (save c.in_ok-spot.spot.object.number c.in_ok-spot.spot.index (points c.args.kind) (value_of c.in_ok-new.new) p (world_of c.used.new.state)) c.save.new.self.outs.items c.in_err-save.field-0.0) (sym (target_place c.args.to.now.form c.args.to.now.at)) c.in_err-save.ensures))

pub statements::body-returns : goal.statements::body-returns
statements::body-returns t c =
    body_gives (calls_of c.args.run.now) c.args.run.now.turns (function_of c.args.run.now.function.now) (map value_of c.args.arguments.now) (env_in c.args.run.now c.enter.new.names) (numbers_of c.in_ok-opened.opened.items) (world_of c.args.state.now) (world_of c.enter.new.state) (world_of c.pass.new.state) (entered_first c.args.run.now c.new-names.result c.as_slice.result.now _ _ _ c.as_slice.ensures (c.new-names.ensures _) c.in_ok-opened.ensures.entered) (rw c.as_slice-2.ensures at c.pass.ensures) (flow_of c.in_ok-flow.flow) (world_of c.statement.new.state) (world_of c.leave.new.state) c.in_ok-flow.ensures.comes (rw c.deref.ensures.value at c.leave.ensures) ∙ ap (λ v. Gives v (world_of c.leave.new.state)) (sym c.value.ensures)

pub statements::body-returns-in_err-flow : goal.statements::body-returns-in_err-flow
statements::body-returns-in_err-flow t c =
    stopped _ _ c.statement.new.state c.from_residual-in_err-flow.result c.in_err-flow.field-0.0 c.from_residual-in_err-flow.ensures.1 (body_stops (calls_of c.args.run.now) c.args.run.now.turns (function_of c.args.run.now.function.now) (map value_of c.args.arguments.now) (env_in c.args.run.now c.enter.new.names) (numbers_of c.in_ok-opened.opened.items) (world_of c.args.state.now) (world_of c.enter.new.state) (world_of c.pass.new.state) (entered_first c.args.run.now c.new-names.result c.as_slice.result.now _ _ _ c.as_slice.ensures (c.new-names.ensures _) c.in_ok-opened.ensures.entered) (rw c.as_slice-2.ensures at c.pass.ensures) c.statement.new.state.outs.items c.in_err-flow.field-0.0 c.in_err-flow.ensures.comes)

pub expressions::both-returns-in_err-right : goal.expressions::both-returns-in_err-right
expressions::both-returns-in_err-right t c =
    stopped _ _ c.holds-2.new.state c.from_residual-in_err-right.result c.in_err-right.field-0.0 c.from_residual-in_err-right.ensures.1 (and_right (calls_of c.args.run.now) (env_in c.args.run.now c.args.names.now) (expr_of c.args.left.now) (expr_of c.args.right.now) c.args.at (world_of c.args.state.now) (world_of c.holds.new.state) c.holds-2.new.state.outs.items c.in_err-right.field-0.0 (rw c.if-not-branch.false at c.in_ok-holds.ensures) c.in_err-right.ensures)

pub expressions::called-body-requires : goal.expressions::called-body-requires
expressions::called-body-requires t c =
    let r = c.args.run.now in
    let there : slice_get r.program.now.functions c.args.function ≡ Some c.in-Some-get.function.now = rw c.as_slice.ensures at (slice_get_read c.as_slice.result.now _ c.args.function c.in-Some-get.function.now refl (search rules) (search rules)) in
    (body_falls r (record { alloc = r.alloc; program = r.program; function = c.in-Some-get.function; turns = r.turns; depth = c.in-Some.depth; room = _ }) c.args.function t refl (search rules) there c.decreases, tt {0})

pub expressions::called-invariant_of-body : goal.expressions::called-invariant_of-body
expressions::called-invariant_of-body t c =
    let there : slice_get c.args.run.now.program.now.functions c.args.function ≡ Some c.in-Some-get.function.now = rw c.as_slice.ensures at (slice_get_read c.as_slice.result.now _ c.args.function c.in-Some-get.function.now refl (search rules) (search rules)) in
    record { room = called_has_room c.args.run.now.program.now c.args.function c.in-Some-get.function.now there }

pub expressions::called-returns-in-None : goal.expressions::called-returns-in-None
expressions::called-returns-in-None t c =
    call_missing c.args.run.now.program.now c.args.run.now.turns c.args.run.now.depth c.in-Some.depth c.args.function (map value_of c.args.arguments.now) (world_of c.args.state.now) (search rules) (rw c.as_slice.ensures at (slice_get_past c.as_slice.result.now c.args.function (search rules)))

pub expressions::called-returns-in-Some-get : goal.expressions::called-returns-in-Some-get
expressions::called-returns-in-Some-get t c =
    subst (λ x. ComesTo option_of x c.body.new.state c.body.result) (sym (call_there c.args.run.now.program.now c.args.run.now.turns c.args.run.now.depth c.in-Some.depth c.args.function c.in-Some-get.function.now (map value_of c.args.arguments.now) (world_of c.args.state.now) (search rules) (rw c.as_slice.ensures at (slice_get_read c.as_slice.result.now _ c.args.function c.in-Some-get.function.now refl (search rules) (search rules))))) c.body.ensures

pub statements::choices-statement-requires : goal.statements::choices-statement-requires
statements::choices-statement-requires t c =
    let small = choice_in c.args.list.now c.loop-n.n c.index-list-n.result c.in-Body.s c.index-list-n.is c.in-Body.is c.loop-n-test.true in let now = c.decreases in (omega (arith, small, now), tt {0})

pub statements::do_loop-loop-preserved : goal.statements::do_loop-loop-preserved
statements::do_loop-loop-preserved t c =
    (loop_on (λ (e : Env). turn_first (exec (calls_of c.args.run.now) c.args.run.now.turns (stmt_of c.args.body.now) e) (condition (calls_of c.args.run.now) e (expr_of c.args.test.now))) (λ (m : ℕ) (e : Env). turns_first m (exec (calls_of c.args.run.now) c.args.run.now.turns (stmt_of c.args.body.now) e) (condition (calls_of c.args.run.now) e (expr_of c.args.test.now))) (λ m e w. one_turn_first (condition (calls_of c.args.run.now) e (expr_of c.args.test.now)) (exec (calls_of c.args.run.now) c.args.run.now.turns (stmt_of c.args.body.now) e) (give (tt {0})) (turns_first m (exec (calls_of c.args.run.now) c.args.run.now.turns (stmt_of c.args.body.now) e) (condition (calls_of c.args.run.now) e (expr_of c.args.test.now))) w) c.args.run.now.turns c.loop.counter (env_in c.args.run.now c.args.names.now) (env_in c.args.run.now c.loop.names) c.loop.invariant.1 (world_of c.args.state.now) (world_of c.loop.state) c.loop.invariant.0 c.loop-test.true (option_flow_of c.in_ok-flow.field-0) (world_of c.do_turn.new.state) c.in_ok-flow.ensures.comes (ap option_flow_of c.in_default.is), c.in_ok-flow.ensures.names ∙ c.loop.invariant.1)

pub statements::do_loop-returns-in-Some-clause-comes : goal.statements::do_loop-returns-in-Some-clause-comes
statements::do_loop-returns-in-Some-clause-comes t c =
    loop_left (λ (e : Env). turn_first (exec (calls_of c.args.run.now) c.args.run.now.turns (stmt_of c.args.body.now) e) (condition (calls_of c.args.run.now) e (expr_of c.args.test.now))) (λ (m : ℕ) (e : Env). turns_first m (exec (calls_of c.args.run.now) c.args.run.now.turns (stmt_of c.args.body.now) e) (condition (calls_of c.args.run.now) e (expr_of c.args.test.now))) (λ m e w. one_turn_first (condition (calls_of c.args.run.now) e (expr_of c.args.test.now)) (exec (calls_of c.args.run.now) c.args.run.now.turns (stmt_of c.args.body.now) e) (give (tt {0})) (turns_first m (exec (calls_of c.args.run.now) c.args.run.now.turns (stmt_of c.args.body.now) e) (condition (calls_of c.args.run.now) e (expr_of c.args.test.now))) w) c.args.run.now.turns c.loop.counter (env_in c.args.run.now c.args.names.now) (env_in c.args.run.now c.loop.names) c.loop.invariant.1 (world_of c.args.state.now) (world_of c.loop.state) c.loop.invariant.0 c.loop-test.true (option_flow_of c.in_ok-flow.field-0) (flow_of c.in-Some.flow) (world_of c.do_turn.new.state) c.in_ok-flow.ensures.comes (ap option_flow_of c.in-Some.is)

pub statements::do_loop-returns-in_err-flow-clause-comes : goal.statements::do_loop-returns-in_err-flow-clause-comes
statements::do_loop-returns-in_err-flow-clause-comes t c =
    stopped _ _ c.do_turn.new.state c.from_residual.result c.in_err-flow.field-0.0 c.from_residual.ensures.1 (loop_stops (λ (e : Env). turn_first (exec (calls_of c.args.run.now) c.args.run.now.turns (stmt_of c.args.body.now) e) (condition (calls_of c.args.run.now) e (expr_of c.args.test.now))) (λ (m : ℕ) (e : Env). turns_first m (exec (calls_of c.args.run.now) c.args.run.now.turns (stmt_of c.args.body.now) e) (condition (calls_of c.args.run.now) e (expr_of c.args.test.now))) (λ m e w. one_turn_first (condition (calls_of c.args.run.now) e (expr_of c.args.test.now)) (exec (calls_of c.args.run.now) c.args.run.now.turns (stmt_of c.args.body.now) e) (give (tt {0})) (turns_first m (exec (calls_of c.args.run.now) c.args.run.now.turns (stmt_of c.args.body.now) e) (condition (calls_of c.args.run.now) e (expr_of c.args.test.now))) w) c.args.run.now.turns c.loop.counter (env_in c.args.run.now c.args.names.now) (env_in c.args.run.now c.loop.names) c.loop.invariant.1 (world_of c.args.state.now) (world_of c.loop.state) c.loop.invariant.0 c.loop-test.true c.do_turn.new.state.outs.items c.in_err-flow.field-0.0 c.in_err-flow.ensures.comes)

pub statements::do_turn-returns-clause-comes : goal.statements::do_turn-returns-clause-comes
statements::do_turn-returns-clause-comes t c =
    first_tests (exec (calls_of c.args.run.now) c.args.run.now.turns (stmt_of c.args.body.now) (env_in c.args.run.now c.args.names.now)) (flow_of c.in_ok-flow.flow) (world_of c.args.state.now) (world_of c.statement.new.state) c.in_ok-flow.ensures.comes (sym c.in_default.ensures) (condition (calls_of c.args.run.now) (env_in c.args.run.now c.args.names.now) (expr_of c.args.test.now)) false (world_of c.condition.new.state) (rw c.if-branch.false at (subst (λ (n : Env). condition (calls_of c.args.run.now) n (expr_of c.args.test.now) (world_of c.statement.new.state) ≡ Gives c.in_ok-condition.field-0 (world_of c.condition.new.state)) c.in_ok-flow.ensures.names c.in_ok-condition.ensures))

pub statements::do_turn-returns-in_err-condition-clause-comes : goal.statements::do_turn-returns-in_err-condition-clause-comes
statements::do_turn-returns-in_err-condition-clause-comes t c =
    stopped _ _ c.condition.new.state c.from_residual-in_err-condition.result c.in_err-condition.field-0.0 c.from_residual-in_err-condition.ensures.1 (first_test_stops (exec (calls_of c.args.run.now) c.args.run.now.turns (stmt_of c.args.body.now) (env_in c.args.run.now c.args.names.now)) (flow_of c.in_ok-flow.flow) (world_of c.args.state.now) (world_of c.statement.new.state) c.in_ok-flow.ensures.comes (sym c.in_default.ensures) (condition (calls_of c.args.run.now) (env_in c.args.run.now c.args.names.now) (expr_of c.args.test.now)) c.condition.new.state.outs.items c.in_err-condition.field-0.0 (subst (λ (n : Env). Stops (condition (calls_of c.args.run.now) n (expr_of c.args.test.now) (world_of c.statement.new.state)) c.condition.new.state.outs.items c.in_err-condition.field-0.0) c.in_ok-flow.ensures.names c.in_err-condition.ensures))

pub statements::do_turn-returns-then-branch-clause-comes : goal.statements::do_turn-returns-then-branch-clause-comes
statements::do_turn-returns-then-branch-clause-comes t c =
    first_tests (exec (calls_of c.args.run.now) c.args.run.now.turns (stmt_of c.args.body.now) (env_in c.args.run.now c.args.names.now)) (flow_of c.in_ok-flow.flow) (world_of c.args.state.now) (world_of c.statement.new.state) c.in_ok-flow.ensures.comes (sym c.in_default.ensures) (condition (calls_of c.args.run.now) (env_in c.args.run.now c.args.names.now) (expr_of c.args.test.now)) true (world_of c.condition.new.state) (rw c.if-branch.true at (subst (λ (n : Env). condition (calls_of c.args.run.now) n (expr_of c.args.test.now) (world_of c.statement.new.state) ≡ Gives c.in_ok-condition.field-0 (world_of c.condition.new.state)) c.in_ok-flow.ensures.names c.in_ok-condition.ensures))

pub expressions::either-returns-in_err-right : goal.expressions::either-returns-in_err-right
expressions::either-returns-in_err-right t c =
    stopped _ _ c.holds-2.new.state c.from_residual-in_err-right.result c.in_err-right.field-0.0 c.from_residual-in_err-right.ensures.1 (or_right (calls_of c.args.run.now) (env_in c.args.run.now c.args.names.now) (expr_of c.args.left.now) (expr_of c.args.right.now) c.args.at (world_of c.args.state.now) (world_of c.holds.new.state) c.holds-2.new.state.outs.items c.in_err-right.field-0.0 (rw c.if-branch.false at c.in_ok-holds.ensures) c.in_err-right.ensures)

pub expressions::eval-call-requires : goal.expressions::eval-call-requires
expressions::eval-call-requires t c =
    let now = c.decreases in let whole : nodes (expr_of c.args.e.now) ≡ suc (argument_nodes (argument_list c.deref-in-Call.result.now)) = ap (λ f. suc (form_nodes f)) (ap form_of c.in-Call.is ∙ typed_call_form c.in-Call.function c.in-Call.args) ∙ ap (λ l. suc (argument_nodes (argument_list l))) (sym c.deref-in-Call.ensures.value) in (omega (arith, whole, now), tt {0})

pub expressions::eval-returns-in-And : goal.expressions::eval-returns-in-And
expressions::eval-returns-in-And t c =
    eval_comes (calls_of c.args.run.now) (env_in c.args.run.now c.args.names.now) c.args.e.now _ (world_of c.args.state.now) c.both.new.state (ap form_of c.in-And.is) c.both.result (rw (c.deref-in-And.ensures, c.deref-in-And-2.ensures) at c.both.ensures)

pub expressions::eval-returns-in-Assign : goal.expressions::eval-returns-in-Assign
expressions::eval-returns-in-Assign t c =
    eval_comes (calls_of c.args.run.now) (env_in c.args.run.now c.args.names.now) c.args.e.now _ (world_of c.args.state.now) c.assign.new.state (ap form_of c.in-Assign.is) c.assign.result (subst (λ x. ComesTo option_of x c.assign.new.state c.assign.result) (assign_place (calls_of c.args.run.now) (env_in c.args.run.now c.args.names.now) (lvalue_of c.in-Assign.to.form c.in-Assign.to.at) (expr_of c.in-Assign.value.value) c.args.e.now.kind 0 c.args.e.now.at (world_of c.args.state.now)) (rw c.deref-in-Assign.ensures at c.assign.ensures))

pub expressions::eval-returns-in-AssignOp : goal.expressions::eval-returns-in-AssignOp
expressions::eval-returns-in-AssignOp t c =
    eval_comes (calls_of c.args.run.now) (env_in c.args.run.now c.args.names.now) c.args.e.now _ (world_of c.args.state.now) c.assign_by.new.state (ap form_of c.in-AssignOp.is) c.assign_by.result (rw c.deref-in-AssignOp.ensures at c.assign_by.ensures)

pub expressions::eval-returns-in-Binary : goal.expressions::eval-returns-in-Binary
expressions::eval-returns-in-Binary t c =
    eval_comes (calls_of c.args.run.now) (env_in c.args.run.now c.args.names.now) c.args.e.now _ (world_of c.args.state.now) c.binary.new.state (ap form_of c.in-Binary.is) c.binary.result (rw (c.deref-in-Binary.ensures, c.deref-in-Binary-2.ensures) at c.binary.ensures)

pub expressions::eval-returns-in-Call : goal.expressions::eval-returns-in-Call
expressions::eval-returns-in-Call t c =
    eval_comes (calls_of c.args.run.now) (env_in c.args.run.now c.args.names.now) c.args.e.now _ (world_of c.args.state.now) c.call.new.state (ap form_of c.in-Call.is ∙ typed_call_form c.in-Call.function c.in-Call.args) c.call.result (rw c.deref-in-Call.ensures.value at c.call.ensures)

pub expressions::eval-returns-in-Convert : goal.expressions::eval-returns-in-Convert
expressions::eval-returns-in-Convert t c =
    eval_comes (calls_of c.args.run.now) (env_in c.args.run.now c.args.names.now) c.args.e.now _ (world_of c.args.state.now) c.converted.new.state (ap form_of c.in-Convert.is) c.converted.result (subst (λ x. ComesTo option_of x c.converted.new.state c.converted.result) (convert_place (calls_of c.args.run.now) (env_in c.args.run.now c.args.names.now) (expr_of c.in-Convert.value.value) c.args.e.now.kind 0 c.args.e.now.at (world_of c.args.state.now)) (rw c.deref-in-Convert.ensures at c.converted.ensures))

pub expressions::eval-returns-in-Load : goal.expressions::eval-returns-in-Load
expressions::eval-returns-in-Load t c =
    eval_comes (calls_of c.args.run.now) (env_in c.args.run.now c.args.names.now) c.args.e.now _ (world_of c.args.state.now) c.loaded.new.state (ap form_of c.in-Load.is) c.loaded.result (rw c.deref.ensures at c.loaded.ensures)

pub expressions::eval-returns-in-Not : goal.expressions::eval-returns-in-Not
expressions::eval-returns-in-Not t c =
    eval_comes (calls_of c.args.run.now) (env_in c.args.run.now c.args.names.now) c.args.e.now _ (world_of c.args.state.now) c.negation.new.state (ap form_of c.in-Not.is) c.negation.result (rw c.deref-in-Not.ensures at c.negation.ensures)

pub expressions::eval-returns-in-Or : goal.expressions::eval-returns-in-Or
expressions::eval-returns-in-Or t c =
    eval_comes (calls_of c.args.run.now) (env_in c.args.run.now c.args.names.now) c.args.e.now _ (world_of c.args.state.now) c.either.new.state (ap form_of c.in-Or.is) c.either.result (rw (c.deref-in-Or.ensures, c.deref-in-Or-2.ensures) at c.either.ensures)

pub expressions::eval-returns-in-Out : goal.expressions::eval-returns-in-Out
expressions::eval-returns-in-Out t c =
    eval_comes (calls_of c.args.run.now) (env_in c.args.run.now c.args.names.now) c.args.e.now _ (world_of c.args.state.now) c.output.new.state (ap form_of c.in-Out.is) c.output.result (rw c.deref-in-Out.ensures at c.output.ensures)

pub expressions::eval-returns-in-Pick : goal.expressions::eval-returns-in-Pick
expressions::eval-returns-in-Pick t c =
    eval_comes (calls_of c.args.run.now) (env_in c.args.run.now c.args.names.now) c.args.e.now _ (world_of c.args.state.now) c.picked.new.state (ap form_of c.in-Pick.is) c.picked.result (rw (c.deref-in-Pick.ensures, c.deref-in-Pick-2.ensures, c.deref-in-Pick-3.ensures) at c.picked.ensures)

pub expressions::eval-returns-in-Unary : goal.expressions::eval-returns-in-Unary
expressions::eval-returns-in-Unary t c =
    eval_comes (calls_of c.args.run.now) (env_in c.args.run.now c.args.names.now) c.args.e.now _ (world_of c.args.state.now) c.unary.new.state (ap form_of c.in-Unary.is) c.unary.result (rw c.deref-in-Unary.ensures at c.unary.ensures)

pub statements::for_turn-returns-clause-comes : goal.statements::for_turn-returns-clause-comes
statements::for_turn-returns-clause-comes t c =
    third_gives (exec (calls_of c.args.run.now) c.args.run.now.turns (stmt_of c.args.body.now) (env_in c.args.run.now c.args.names.now)) (flow_of c.in_ok-flow.flow) (world_of c.goes_on.new.state) (world_of c.statement.new.state) c.in_ok-flow.ensures.comes (sym c.in_default.ensures) (test_or_true (calls_of c.args.run.now) (env_in c.args.run.now c.args.names.now) (option_expr_of c.args.test.now)) (world_of c.args.state.now) (rw c.if-not-branch.false at c.in_ok-goes_on.ensures) (third_of (calls_of c.args.run.now) (env_in c.args.run.now c.args.names.now) (option_expr_of c.args.third.now)) (world_of c.part.new.state) (subst (λ (n : Env). third_of (calls_of c.args.run.now) n (option_expr_of c.args.third.now) (world_of c.statement.new.state) ≡ Gives (tt {0}) (world_of c.part.new.state)) c.in_ok-flow.ensures.names c.in_ok-part.ensures)

pub statements::for_turn-returns-in_err-part-clause-comes : goal.statements::for_turn-returns-in_err-part-clause-comes
statements::for_turn-returns-in_err-part-clause-comes t c =
    stopped _ _ c.part.new.state c.from_residual-in_err-part.result c.in_err-part.field-0.0 c.from_residual-in_err-part.ensures.1 (third_stops (exec (calls_of c.args.run.now) c.args.run.now.turns (stmt_of c.args.body.now) (env_in c.args.run.now c.args.names.now)) (flow_of c.in_ok-flow.flow) (world_of c.goes_on.new.state) (world_of c.statement.new.state) c.in_ok-flow.ensures.comes (sym c.in_default.ensures) (test_or_true (calls_of c.args.run.now) (env_in c.args.run.now c.args.names.now) (option_expr_of c.args.test.now)) (world_of c.args.state.now) (rw c.if-not-branch.false at c.in_ok-goes_on.ensures) (third_of (calls_of c.args.run.now) (env_in c.args.run.now c.args.names.now) (option_expr_of c.args.third.now)) c.part.new.state.outs.items c.in_err-part.field-0.0 (subst (λ (n : Env). Stops (third_of (calls_of c.args.run.now) n (option_expr_of c.args.third.now) (world_of c.statement.new.state)) c.part.new.state.outs.items c.in_err-part.field-0.0) c.in_ok-flow.ensures.names c.in_err-part.ensures))

pub statements::for_turns-loop-preserved : goal.statements::for_turns-loop-preserved
statements::for_turns-loop-preserved t c =
    (loop_on (λ (e : Env). turn (test_or_true (calls_of c.args.run.now) e (option_expr_of c.args.test.now)) (exec (calls_of c.args.run.now) c.args.run.now.turns (stmt_of c.args.body.now) e) (third_of (calls_of c.args.run.now) e (option_expr_of c.args.third.now))) (λ (m : ℕ) (e : Env). turns m (test_or_true (calls_of c.args.run.now) e (option_expr_of c.args.test.now)) (exec (calls_of c.args.run.now) c.args.run.now.turns (stmt_of c.args.body.now) e) (third_of (calls_of c.args.run.now) e (option_expr_of c.args.third.now))) (λ m e w. one_turn (test_or_true (calls_of c.args.run.now) e (option_expr_of c.args.test.now)) (exec (calls_of c.args.run.now) c.args.run.now.turns (stmt_of c.args.body.now) e) (third_of (calls_of c.args.run.now) e (option_expr_of c.args.third.now)) (turns m (test_or_true (calls_of c.args.run.now) e (option_expr_of c.args.test.now)) (exec (calls_of c.args.run.now) c.args.run.now.turns (stmt_of c.args.body.now) e) (third_of (calls_of c.args.run.now) e (option_expr_of c.args.third.now))) w) c.args.run.now.turns c.loop.counter (env_in c.args.run.now c.args.names.now) (env_in c.args.run.now c.loop.names) c.loop.invariant.1 (world_of c.args.state.now) (world_of c.loop.state) c.loop.invariant.0 c.loop-test.true (option_flow_of c.in_ok-flow.field-0) (world_of c.for_turn.new.state) c.in_ok-flow.ensures.comes (ap option_flow_of c.in_default.is), c.in_ok-flow.ensures.names ∙ c.loop.invariant.1)

pub statements::for_turns-returns-clause-comes : goal.statements::for_turns-returns-clause-comes
statements::for_turns-returns-clause-comes t c =
    sym (loop_end (λ (e : Env). turn (test_or_true (calls_of c.args.run.now) e (option_expr_of c.args.test.now)) (exec (calls_of c.args.run.now) c.args.run.now.turns (stmt_of c.args.body.now) e) (third_of (calls_of c.args.run.now) e (option_expr_of c.args.third.now))) (λ (m : ℕ) (e : Env). turns m (test_or_true (calls_of c.args.run.now) e (option_expr_of c.args.test.now)) (exec (calls_of c.args.run.now) c.args.run.now.turns (stmt_of c.args.body.now) e) (third_of (calls_of c.args.run.now) e (option_expr_of c.args.third.now))) (λ m e w. one_turn (test_or_true (calls_of c.args.run.now) e (option_expr_of c.args.test.now)) (exec (calls_of c.args.run.now) c.args.run.now.turns (stmt_of c.args.body.now) e) (third_of (calls_of c.args.run.now) e (option_expr_of c.args.third.now)) (turns m (test_or_true (calls_of c.args.run.now) e (option_expr_of c.args.test.now)) (exec (calls_of c.args.run.now) c.args.run.now.turns (stmt_of c.args.body.now) e) (third_of (calls_of c.args.run.now) e (option_expr_of c.args.third.now))) w) c.args.run.now.turns c.loop.counter (env_in c.args.run.now c.args.names.now) (env_in c.args.run.now c.loop.names) c.loop.invariant.1 (world_of c.args.state.now) (world_of c.loop.state) c.loop.invariant.0 c.loop-test.false) ∙ ap (λ r. after r (λ t. choose t too_many (give Next))) (rw c.if-branch.false at (subst (λ (n : Env). test_or_true (calls_of c.args.run.now) n (option_expr_of c.args.test.now) (world_of c.loop.state) ≡ Gives c.in_ok-goes_on.field-0 (world_of c.goes_on.new.state)) c.loop.invariant.1 c.in_ok-goes_on.ensures))

pub statements::for_turns-returns-in-Some-clause-comes : goal.statements::for_turns-returns-in-Some-clause-comes
statements::for_turns-returns-in-Some-clause-comes t c =
    loop_left (λ (e : Env). turn (test_or_true (calls_of c.args.run.now) e (option_expr_of c.args.test.now)) (exec (calls_of c.args.run.now) c.args.run.now.turns (stmt_of c.args.body.now) e) (third_of (calls_of c.args.run.now) e (option_expr_of c.args.third.now))) (λ (m : ℕ) (e : Env). turns m (test_or_true (calls_of c.args.run.now) e (option_expr_of c.args.test.now)) (exec (calls_of c.args.run.now) c.args.run.now.turns (stmt_of c.args.body.now) e) (third_of (calls_of c.args.run.now) e (option_expr_of c.args.third.now))) (λ m e w. one_turn (test_or_true (calls_of c.args.run.now) e (option_expr_of c.args.test.now)) (exec (calls_of c.args.run.now) c.args.run.now.turns (stmt_of c.args.body.now) e) (third_of (calls_of c.args.run.now) e (option_expr_of c.args.third.now)) (turns m (test_or_true (calls_of c.args.run.now) e (option_expr_of c.args.test.now)) (exec (calls_of c.args.run.now) c.args.run.now.turns (stmt_of c.args.body.now) e) (third_of (calls_of c.args.run.now) e (option_expr_of c.args.third.now))) w) c.args.run.now.turns c.loop.counter (env_in c.args.run.now c.args.names.now) (env_in c.args.run.now c.loop.names) c.loop.invariant.1 (world_of c.args.state.now) (world_of c.loop.state) c.loop.invariant.0 c.loop-test.true (option_flow_of c.in_ok-flow.field-0) (flow_of c.in-Some.flow) (world_of c.for_turn.new.state) c.in_ok-flow.ensures.comes (ap option_flow_of c.in-Some.is)

pub statements::for_turns-returns-in_err-flow-clause-comes : goal.statements::for_turns-returns-in_err-flow-clause-comes
statements::for_turns-returns-in_err-flow-clause-comes t c =
    stopped _ _ c.for_turn.new.state c.from_residual.result c.in_err-flow.field-0.0 c.from_residual.ensures.1 (loop_stops (λ (e : Env). turn (test_or_true (calls_of c.args.run.now) e (option_expr_of c.args.test.now)) (exec (calls_of c.args.run.now) c.args.run.now.turns (stmt_of c.args.body.now) e) (third_of (calls_of c.args.run.now) e (option_expr_of c.args.third.now))) (λ (m : ℕ) (e : Env). turns m (test_or_true (calls_of c.args.run.now) e (option_expr_of c.args.test.now)) (exec (calls_of c.args.run.now) c.args.run.now.turns (stmt_of c.args.body.now) e) (third_of (calls_of c.args.run.now) e (option_expr_of c.args.third.now))) (λ m e w. one_turn (test_or_true (calls_of c.args.run.now) e (option_expr_of c.args.test.now)) (exec (calls_of c.args.run.now) c.args.run.now.turns (stmt_of c.args.body.now) e) (third_of (calls_of c.args.run.now) e (option_expr_of c.args.third.now)) (turns m (test_or_true (calls_of c.args.run.now) e (option_expr_of c.args.test.now)) (exec (calls_of c.args.run.now) c.args.run.now.turns (stmt_of c.args.body.now) e) (third_of (calls_of c.args.run.now) e (option_expr_of c.args.third.now))) w) c.args.run.now.turns c.loop.counter (env_in c.args.run.now c.args.names.now) (env_in c.args.run.now c.loop.names) c.loop.invariant.1 (world_of c.args.state.now) (world_of c.loop.state) c.loop.invariant.0 c.loop-test.true c.for_turn.new.state.outs.items c.in_err-flow.field-0.0 c.in_err-flow.ensures.comes)

pub statements::for_turns-returns-in_err-goes_on-clause-comes : goal.statements::for_turns-returns-in_err-goes_on-clause-comes
statements::for_turns-returns-in_err-goes_on-clause-comes t c =
    stopped _ _ c.goes_on.new.state c.from_residual-in_err-goes_on.result c.in_err-goes_on.field-0.0 c.from_residual-in_err-goes_on.ensures.1 (subst (λ r. Stops r c.goes_on.new.state.outs.items c.in_err-goes_on.field-0.0) (loop_end (λ (e : Env). turn (test_or_true (calls_of c.args.run.now) e (option_expr_of c.args.test.now)) (exec (calls_of c.args.run.now) c.args.run.now.turns (stmt_of c.args.body.now) e) (third_of (calls_of c.args.run.now) e (option_expr_of c.args.third.now))) (λ (m : ℕ) (e : Env). turns m (test_or_true (calls_of c.args.run.now) e (option_expr_of c.args.test.now)) (exec (calls_of c.args.run.now) c.args.run.now.turns (stmt_of c.args.body.now) e) (third_of (calls_of c.args.run.now) e (option_expr_of c.args.third.now))) (λ m e w. one_turn (test_or_true (calls_of c.args.run.now) e (option_expr_of c.args.test.now)) (exec (calls_of c.args.run.now) c.args.run.now.turns (stmt_of c.args.body.now) e) (third_of (calls_of c.args.run.now) e (option_expr_of c.args.third.now)) (turns m (test_or_true (calls_of c.args.run.now) e (option_expr_of c.args.test.now)) (exec (calls_of c.args.run.now) c.args.run.now.turns (stmt_of c.args.body.now) e) (third_of (calls_of c.args.run.now) e (option_expr_of c.args.third.now))) w) c.args.run.now.turns c.loop.counter (env_in c.args.run.now c.args.names.now) (env_in c.args.run.now c.loop.names) c.loop.invariant.1 (world_of c.args.state.now) (world_of c.loop.state) c.loop.invariant.0 c.loop-test.false) (stops_behind _ (λ t. choose t too_many (give Next)) c.goes_on.new.state.outs.items c.in_err-goes_on.field-0.0 (subst (λ (n : Env). Stops (test_or_true (calls_of c.args.run.now) n (option_expr_of c.args.test.now) (world_of c.loop.state)) c.goes_on.new.state.outs.items c.in_err-goes_on.field-0.0) c.loop.invariant.1 c.in_err-goes_on.ensures)))

pub statements::for_turns-returns-then-branch-clause-comes : goal.statements::for_turns-returns-then-branch-clause-comes
statements::for_turns-returns-then-branch-clause-comes t c =
    sym (loop_end (λ (e : Env). turn (test_or_true (calls_of c.args.run.now) e (option_expr_of c.args.test.now)) (exec (calls_of c.args.run.now) c.args.run.now.turns (stmt_of c.args.body.now) e) (third_of (calls_of c.args.run.now) e (option_expr_of c.args.third.now))) (λ (m : ℕ) (e : Env). turns m (test_or_true (calls_of c.args.run.now) e (option_expr_of c.args.test.now)) (exec (calls_of c.args.run.now) c.args.run.now.turns (stmt_of c.args.body.now) e) (third_of (calls_of c.args.run.now) e (option_expr_of c.args.third.now))) (λ m e w. one_turn (test_or_true (calls_of c.args.run.now) e (option_expr_of c.args.test.now)) (exec (calls_of c.args.run.now) c.args.run.now.turns (stmt_of c.args.body.now) e) (third_of (calls_of c.args.run.now) e (option_expr_of c.args.third.now)) (turns m (test_or_true (calls_of c.args.run.now) e (option_expr_of c.args.test.now)) (exec (calls_of c.args.run.now) c.args.run.now.turns (stmt_of c.args.body.now) e) (third_of (calls_of c.args.run.now) e (option_expr_of c.args.third.now))) w) c.args.run.now.turns c.loop.counter (env_in c.args.run.now c.args.names.now) (env_in c.args.run.now c.loop.names) c.loop.invariant.1 (world_of c.args.state.now) (world_of c.loop.state) c.loop.invariant.0 c.loop-test.false) ∙ ap (λ r. after r (λ t. choose t too_many (give Next))) (rw c.if-branch.true at (subst (λ (n : Env). test_or_true (calls_of c.args.run.now) n (option_expr_of c.args.test.now) (world_of c.loop.state) ≡ Gives c.in_ok-goes_on.field-0 (world_of c.goes_on.new.state)) c.loop.invariant.1 c.in_ok-goes_on.ensures))

pub expressions::picked_value-returns-else-branch : goal.expressions::picked_value-returns-else-branch
expressions::picked_value-returns-else-branch t c =
    subst (λ x. ComesTo value_of x c.used-else-branch.new.state c.used-else-branch.result) (sym (arm_of (calls_of c.args.run.now) (env_in c.args.run.now c.args.names.now) (expr_of c.args.test.now) (expr_of c.args.yes.now) (expr_of c.args.no.now) None c.args.at false (world_of c.args.state.now) (world_of c.holds.new.state) (rw c.if-branch.false at c.in_ok-holds.ensures))) c.used-else-branch.ensures

pub expressions::picked_value-returns-then-branch : goal.expressions::picked_value-returns-then-branch
expressions::picked_value-returns-then-branch t c =
    subst (λ x. ComesTo value_of x c.used.new.state c.used.result) (sym (arm_of (calls_of c.args.run.now) (env_in c.args.run.now c.args.names.now) (expr_of c.args.test.now) (expr_of c.args.yes.now) (expr_of c.args.no.now) None c.args.at true (world_of c.args.state.now) (world_of c.holds.new.state) (rw c.if-branch.true at c.in_ok-holds.ensures))) c.used.ensures

pub expressions::spot-returns-in-At : goal.expressions::spot-returns-in-At
expressions::spot-returns-in-At t c =
    subst (λ t. ComesTo (λ v. (v.object.number, v.index)) (spot (calls_of c.args.run.now) (env_in c.args.run.now c.args.names.now) (lvalue_of t c.args.to.now.at) (world_of c.args.state.now)) c.spot_through.new.state c.spot_through.result) (sym c.in-At.is) (rw c.deref.ensures at c.spot_through.ensures)

pub statements::statement-block-requires : goal.statements::statement-block-requires
statements::statement-block-requires t c =
    let now = c.decreases in let whole : statement_nodes (stmt_of c.args.s.now) ≡ suc (body_nodes (statement_list c.deref-in-Block.result.now)) = ap statement_nodes (ap stmt_of c.in-Block.is ∙ block_of_list c.in-Block.declared c.in-Block.body) ∙ ap (λ l. suc (body_nodes (statement_list l))) (sym c.deref-in-Block.ensures.value) in (omega (arith, whole, now), tt {0})

pub statements::statement-returns-in-Block-clause-comes : goal.statements::statement-returns-in-Block-clause-comes
statements::statement-returns-in-Block-clause-comes t c =
    exec_comes (calls_of c.args.run.now) c.args.run.now.turns (env_in c.args.run.now c.args.names.now) c.args.s.now _ (world_of c.args.state.now) c.block.new.state (ap stmt_of c.in-Block.is ∙ block_of_list c.in-Block.declared c.in-Block.body) c.block.result (rw (c.deref.ensures.value, c.deref-in-Block.ensures.value) at c.block.ensures.comes)

pub statements::statement-returns-in-Do-clause-comes : goal.statements::statement-returns-in-Do-clause-comes
statements::statement-returns-in-Do-clause-comes t c =
    exec_comes (calls_of c.args.run.now) c.args.run.now.turns (env_in c.args.run.now c.args.names.now) c.args.s.now _ (world_of c.args.state.now) c.do_loop.new.state (ap stmt_of c.in-Do.is) c.do_loop.result (rw c.deref-in-Do.ensures at c.do_loop.ensures.comes)

pub statements::statement-returns-in-Switch-clause-comes : goal.statements::statement-returns-in-Switch-clause-comes
statements::statement-returns-in-Switch-clause-comes t c =
    exec_comes (calls_of c.args.run.now) c.args.run.now.turns (env_in c.args.run.now c.args.names.now) c.args.s.now _ (world_of c.args.state.now) c.switch.new.state (ap stmt_of c.in-Switch.is ∙ switch_of_list c.in-Switch.value c.in-Switch.choices) c.switch.result (rw c.deref-in-Switch.ensures.value at c.switch.ensures.comes)

pub statements::statement-returns-in-While-clause-comes : goal.statements::statement-returns-in-While-clause-comes
statements::statement-returns-in-While-clause-comes t c =
    exec_comes (calls_of c.args.run.now) c.args.run.now.turns (env_in c.args.run.now c.args.names.now) c.args.s.now _ (world_of c.args.state.now) c.while_loop.new.state (ap stmt_of c.in-While.is) c.while_loop.result (rw c.deref-in-While.ensures at c.while_loop.ensures.comes)

pub statements::statement-switch-requires : goal.statements::statement-switch-requires
statements::statement-switch-requires t c =
    let now = c.decreases in let whole : statement_nodes (stmt_of c.args.s.now) ≡ suc (nodes (expr_of c.in-Switch.value) + choice_nodes (choice_list c.deref-in-Switch.result.now)) = ap statement_nodes (ap stmt_of c.in-Switch.is ∙ switch_of_list c.in-Switch.value c.in-Switch.choices) ∙ ap (λ l. suc (nodes (expr_of c.in-Switch.value) + choice_nodes (choice_list l))) (sym c.deref-in-Switch.ensures.value) in (omega (arith, whole, now), tt {0})

pub statements::statements-statement-requires : goal.statements::statements-statement-requires
statements::statements-statement-requires t c =
    let small = statement_in c.args.list.now c.loop-s.s-index c.s-item.result c.s-item.is c.loop-s-test.true in let now = c.decreases in (omega (arith, small, now), tt {0})

pub expressions::step_after-returns-in_err-old : goal.expressions::step_after-returns-in_err-old
expressions::step_after-returns-in_err-old t c =
    stopped _ _ c.spot.new.state c.from_residual-in_err-old.result c.in_err-old.field-0.0 c.from_residual-in_err-old.ensures.1 (step_after_old (calls_of c.args.run.now) (env_in c.args.run.now c.args.names.now) (lvalue_of c.args.to.now.form c.args.to.now.at) c.args.kind c.args.at c.in_ok-spot.spot.object.number c.in_ok-spot.spot.index (world_of c.args.state.now) (world_of c.spot.new.state) c.spot.new.state.outs.items c.in_err-old.field-0.0 c.in_ok-spot.ensures (subst (λ p. Stops (load c.in_ok-spot.spot.object.number c.in_ok-spot.spot.index (points c.args.kind) p (world_of c.spot.new.state)) c.spot.new.state.outs.items c.in_err-old.field-0.0) (sym (target_place c.args.to.now.form c.args.to.now.at)) c.in_err-old.ensures) c.args.up)

pub expressions::step_before-returns-in_err-old : goal.expressions::step_before-returns-in_err-old
expressions::step_before-returns-in_err-old t c =
    stopped _ _ c.spot.new.state c.from_residual-in_err-old.result c.in_err-old.field-0.0 c.from_residual-in_err-old.ensures.1 (step_before_old (calls_of c.args.run.now) (env_in c.args.run.now c.args.names.now) (lvalue_of c.args.to.now.form c.args.to.now.at) c.args.kind c.args.at c.in_ok-spot.spot.object.number c.in_ok-spot.spot.index (world_of c.args.state.now) (world_of c.spot.new.state) c.spot.new.state.outs.items c.in_err-old.field-0.0 c.in_ok-spot.ensures (subst (λ p. Stops (load c.in_ok-spot.spot.object.number c.in_ok-spot.spot.index (points c.args.kind) p (world_of c.spot.new.state)) c.spot.new.state.outs.items c.in_err-old.field-0.0) (sym (target_place c.args.to.now.form c.args.to.now.at)) c.in_err-old.ensures) c.args.up)

pub expressions::used-returns-in-Comma : goal.expressions::used-returns-in-Comma
expressions::used-returns-in-Comma t c =
    value_comes (calls_of c.args.run.now) (env_in c.args.run.now c.args.names.now) c.args.e.now _ (world_of c.args.state.now) c.value_behind.new.state (ap form_of c.in-Comma.is) c.value_behind.result (rw (c.deref-in-Comma.ensures, c.deref-in-Comma-2.ensures) at c.value_behind.ensures)

pub expressions::used-returns-in-Pick : goal.expressions::used-returns-in-Pick
expressions::used-returns-in-Pick t c =
    value_comes (calls_of c.args.run.now) (env_in c.args.run.now c.args.names.now) c.args.e.now _ (world_of c.args.state.now) c.picked_value.new.state (ap form_of c.in-Pick.is) c.picked_value.result (rw (c.deref.ensures, c.deref-in-Pick.ensures, c.deref-in-Pick-2.ensures) at c.picked_value.ensures)

pub expressions::used-returns-in_default : goal.expressions::used-returns-in_default
expressions::used-returns-in_default t c =
    other_comes (calls_of c.args.run.now) (env_in c.args.run.now c.args.names.now) c.args.e.now.kind c.args.e.now.at (world_of c.args.state.now) c.args.e.now.form c.needed.new.state c.needed.result c.in_default.not-Pick c.in_default.not-Comma c.needed.ensures

pub statements::while_loop-loop-preserved : goal.statements::while_loop-loop-preserved
statements::while_loop-loop-preserved t c =
    (loop_on (λ (e : Env). turn (condition (calls_of c.args.run.now) e (expr_of c.args.test.now)) (exec (calls_of c.args.run.now) c.args.run.now.turns (stmt_of c.args.body.now) e) (give (tt {0}))) (λ (m : ℕ) (e : Env). turns m (condition (calls_of c.args.run.now) e (expr_of c.args.test.now)) (exec (calls_of c.args.run.now) c.args.run.now.turns (stmt_of c.args.body.now) e) (give (tt {0}))) (λ m e w. one_turn (condition (calls_of c.args.run.now) e (expr_of c.args.test.now)) (exec (calls_of c.args.run.now) c.args.run.now.turns (stmt_of c.args.body.now) e) (give (tt {0})) (turns m (condition (calls_of c.args.run.now) e (expr_of c.args.test.now)) (exec (calls_of c.args.run.now) c.args.run.now.turns (stmt_of c.args.body.now) e) (give (tt {0}))) w) c.args.run.now.turns c.loop.counter (env_in c.args.run.now c.args.names.now) (env_in c.args.run.now c.loop.names) c.loop.invariant.1 (world_of c.args.state.now) (world_of c.loop.state) c.loop.invariant.0 c.loop-test.true (option_flow_of c.in_ok-flow.field-0) (world_of c.while_turn.new.state) c.in_ok-flow.ensures.comes (ap option_flow_of c.in_default.is), c.in_ok-flow.ensures.names ∙ c.loop.invariant.1)

pub statements::while_loop-returns-clause-comes : goal.statements::while_loop-returns-clause-comes
statements::while_loop-returns-clause-comes t c =
    sym (loop_end (λ (e : Env). turn (condition (calls_of c.args.run.now) e (expr_of c.args.test.now)) (exec (calls_of c.args.run.now) c.args.run.now.turns (stmt_of c.args.body.now) e) (give (tt {0}))) (λ (m : ℕ) (e : Env). turns m (condition (calls_of c.args.run.now) e (expr_of c.args.test.now)) (exec (calls_of c.args.run.now) c.args.run.now.turns (stmt_of c.args.body.now) e) (give (tt {0}))) (λ m e w. one_turn (condition (calls_of c.args.run.now) e (expr_of c.args.test.now)) (exec (calls_of c.args.run.now) c.args.run.now.turns (stmt_of c.args.body.now) e) (give (tt {0})) (turns m (condition (calls_of c.args.run.now) e (expr_of c.args.test.now)) (exec (calls_of c.args.run.now) c.args.run.now.turns (stmt_of c.args.body.now) e) (give (tt {0}))) w) c.args.run.now.turns c.loop.counter (env_in c.args.run.now c.args.names.now) (env_in c.args.run.now c.loop.names) c.loop.invariant.1 (world_of c.args.state.now) (world_of c.loop.state) c.loop.invariant.0 c.loop-test.false) ∙ ap (λ r. after r (λ t. choose t too_many (give Next))) (rw c.if-branch.false at (subst (λ (n : Env). condition (calls_of c.args.run.now) n (expr_of c.args.test.now) (world_of c.loop.state) ≡ Gives c.in_ok-condition.field-0 (world_of c.condition.new.state)) c.loop.invariant.1 c.in_ok-condition.ensures))

pub statements::while_loop-returns-in-Some-clause-comes : goal.statements::while_loop-returns-in-Some-clause-comes
statements::while_loop-returns-in-Some-clause-comes t c =
    loop_left (λ (e : Env). turn (condition (calls_of c.args.run.now) e (expr_of c.args.test.now)) (exec (calls_of c.args.run.now) c.args.run.now.turns (stmt_of c.args.body.now) e) (give (tt {0}))) (λ (m : ℕ) (e : Env). turns m (condition (calls_of c.args.run.now) e (expr_of c.args.test.now)) (exec (calls_of c.args.run.now) c.args.run.now.turns (stmt_of c.args.body.now) e) (give (tt {0}))) (λ m e w. one_turn (condition (calls_of c.args.run.now) e (expr_of c.args.test.now)) (exec (calls_of c.args.run.now) c.args.run.now.turns (stmt_of c.args.body.now) e) (give (tt {0})) (turns m (condition (calls_of c.args.run.now) e (expr_of c.args.test.now)) (exec (calls_of c.args.run.now) c.args.run.now.turns (stmt_of c.args.body.now) e) (give (tt {0}))) w) c.args.run.now.turns c.loop.counter (env_in c.args.run.now c.args.names.now) (env_in c.args.run.now c.loop.names) c.loop.invariant.1 (world_of c.args.state.now) (world_of c.loop.state) c.loop.invariant.0 c.loop-test.true (option_flow_of c.in_ok-flow.field-0) (flow_of c.in-Some.flow) (world_of c.while_turn.new.state) c.in_ok-flow.ensures.comes (ap option_flow_of c.in-Some.is)

pub statements::while_loop-returns-in_err-condition-clause-comes : goal.statements::while_loop-returns-in_err-condition-clause-comes
statements::while_loop-returns-in_err-condition-clause-comes t c =
    stopped _ _ c.condition.new.state c.from_residual-in_err-condition.result c.in_err-condition.field-0.0 c.from_residual-in_err-condition.ensures.1 (subst (λ r. Stops r c.condition.new.state.outs.items c.in_err-condition.field-0.0) (loop_end (λ (e : Env). turn (condition (calls_of c.args.run.now) e (expr_of c.args.test.now)) (exec (calls_of c.args.run.now) c.args.run.now.turns (stmt_of c.args.body.now) e) (give (tt {0}))) (λ (m : ℕ) (e : Env). turns m (condition (calls_of c.args.run.now) e (expr_of c.args.test.now)) (exec (calls_of c.args.run.now) c.args.run.now.turns (stmt_of c.args.body.now) e) (give (tt {0}))) (λ m e w. one_turn (condition (calls_of c.args.run.now) e (expr_of c.args.test.now)) (exec (calls_of c.args.run.now) c.args.run.now.turns (stmt_of c.args.body.now) e) (give (tt {0})) (turns m (condition (calls_of c.args.run.now) e (expr_of c.args.test.now)) (exec (calls_of c.args.run.now) c.args.run.now.turns (stmt_of c.args.body.now) e) (give (tt {0}))) w) c.args.run.now.turns c.loop.counter (env_in c.args.run.now c.args.names.now) (env_in c.args.run.now c.loop.names) c.loop.invariant.1 (world_of c.args.state.now) (world_of c.loop.state) c.loop.invariant.0 c.loop-test.false) (stops_behind _ (λ t. choose t too_many (give Next)) c.condition.new.state.outs.items c.in_err-condition.field-0.0 (subst (λ (n : Env). Stops (condition (calls_of c.args.run.now) n (expr_of c.args.test.now) (world_of c.loop.state)) c.condition.new.state.outs.items c.in_err-condition.field-0.0) c.loop.invariant.1 c.in_err-condition.ensures)))

pub statements::while_loop-returns-in_err-flow-clause-comes : goal.statements::while_loop-returns-in_err-flow-clause-comes
statements::while_loop-returns-in_err-flow-clause-comes t c =
    stopped _ _ c.while_turn.new.state c.from_residual.result c.in_err-flow.field-0.0 c.from_residual.ensures.1 (loop_stops (λ (e : Env). turn (condition (calls_of c.args.run.now) e (expr_of c.args.test.now)) (exec (calls_of c.args.run.now) c.args.run.now.turns (stmt_of c.args.body.now) e) (give (tt {0}))) (λ (m : ℕ) (e : Env). turns m (condition (calls_of c.args.run.now) e (expr_of c.args.test.now)) (exec (calls_of c.args.run.now) c.args.run.now.turns (stmt_of c.args.body.now) e) (give (tt {0}))) (λ m e w. one_turn (condition (calls_of c.args.run.now) e (expr_of c.args.test.now)) (exec (calls_of c.args.run.now) c.args.run.now.turns (stmt_of c.args.body.now) e) (give (tt {0})) (turns m (condition (calls_of c.args.run.now) e (expr_of c.args.test.now)) (exec (calls_of c.args.run.now) c.args.run.now.turns (stmt_of c.args.body.now) e) (give (tt {0}))) w) c.args.run.now.turns c.loop.counter (env_in c.args.run.now c.args.names.now) (env_in c.args.run.now c.loop.names) c.loop.invariant.1 (world_of c.args.state.now) (world_of c.loop.state) c.loop.invariant.0 c.loop-test.true c.while_turn.new.state.outs.items c.in_err-flow.field-0.0 c.in_err-flow.ensures.comes)

pub statements::while_loop-returns-then-branch-clause-comes : goal.statements::while_loop-returns-then-branch-clause-comes
statements::while_loop-returns-then-branch-clause-comes t c =
    sym (loop_end (λ (e : Env). turn (condition (calls_of c.args.run.now) e (expr_of c.args.test.now)) (exec (calls_of c.args.run.now) c.args.run.now.turns (stmt_of c.args.body.now) e) (give (tt {0}))) (λ (m : ℕ) (e : Env). turns m (condition (calls_of c.args.run.now) e (expr_of c.args.test.now)) (exec (calls_of c.args.run.now) c.args.run.now.turns (stmt_of c.args.body.now) e) (give (tt {0}))) (λ m e w. one_turn (condition (calls_of c.args.run.now) e (expr_of c.args.test.now)) (exec (calls_of c.args.run.now) c.args.run.now.turns (stmt_of c.args.body.now) e) (give (tt {0})) (turns m (condition (calls_of c.args.run.now) e (expr_of c.args.test.now)) (exec (calls_of c.args.run.now) c.args.run.now.turns (stmt_of c.args.body.now) e) (give (tt {0}))) w) c.args.run.now.turns c.loop.counter (env_in c.args.run.now c.args.names.now) (env_in c.args.run.now c.loop.names) c.loop.invariant.1 (world_of c.args.state.now) (world_of c.loop.state) c.loop.invariant.0 c.loop-test.false) ∙ ap (λ r. after r (λ t. choose t too_many (give Next))) (rw c.if-branch.true at (subst (λ (n : Env). condition (calls_of c.args.run.now) n (expr_of c.args.test.now) (world_of c.loop.state) ≡ Gives c.in_ok-condition.field-0 (world_of c.condition.new.state)) c.loop.invariant.1 c.in_ok-condition.ensures))
