use Rattle.std.proofs.Common.{◌≡◌, ◌∙◌, ◌++◌, ◌∷◌, ◌-◌, ◌+◌, ℕ, [], true, sym, ap, refl, rules}
use Rattle.std.specs.Prelude.{Vec}
use Rattle.std.specs.declared.alloc.Global.{Global}
use Rattle.c25_isa.specs.Step.{Ran, Put, Over, Trapped, step}
use Rattle.c25_isa.specs.MachineRun.{Ended, Stopped, run_from}
use Rattle.c25_sim.specs.Answers.{event_of, reached_of, behind, puts}
use Rattle.c25_sim.specs.MachineView.{state_of}
use Rattle.c25_sim.proofs.Steps.{run_ends, ends_at, after_more}
use Rattle.c25_sim.proofs.Puts.{stands_before, had_room}
use Rattle.c25_sim.proofs.machine.Machine.run.Goals as goal
use Rattle.c25_sim.proofs.machine.Machine.run.Goals.{in-Ran, in-Out+in_ok-push-in-Out}

pub returns-in-Ended-clause-reached : goal.returns-in-Ended-clause-reached
returns-in-Ended-clause-reached c =
    let outs : c.outcome.result.outs ≡ c.loop-i.outs.items = c.outcome.ensures.outs ∙ c.reserve.ensures.items in
    c.loop-i.invariant.reached
    ∙ run_ends c.args.steps c.loop-i.i (state_of c.loop-i.self) c.loop-i.outs.items (Ended c.loop-i.outs.items c.in-Ended.ending) (Over c.in-Ended.ending) c.loop-i-test.true (c.in-Some.ensures.event ∙ ap (λ e. event_of e (state_of c.step_within.new.self)) c.in-Ended.is) refl
    ∙ sym (ap (λ o. reached_of o c.outcome.result.stop) outs ∙ ap (reached_of c.loop-i.outs.items) c.outcome.ensures.stop)

pub returns-in-Ended-clause-state : goal.returns-in-Ended-clause-state
returns-in-Ended-clause-state c =
    let s = state_of c.loop-i.self in
    let still : behind (step s) s ≡ s = ap (λ e. behind e s) (c.in-Some.ensures.event ∙ ap (λ e. event_of e (state_of c.step_within.new.self)) c.in-Ended.is) in
    ends_at c.args.steps c.loop-i.i (state_of c.args.self.now) s (state_of c.step_within.new.self) c.loop-i-test.true c.loop-i.invariant.state still (c.in-Some.ensures.state ∙ still)

pub returns-in-Trap-clause-reached : goal.returns-in-Trap-clause-reached
returns-in-Trap-clause-reached c =
    let outs : c.outcome-in-Trap.result.outs ≡ c.loop-i.outs.items = c.outcome-in-Trap.ensures.outs ∙ c.reserve.ensures.items in
    c.loop-i.invariant.reached
    ∙ run_ends c.args.steps c.loop-i.i (state_of c.loop-i.self) c.loop-i.outs.items (Stopped c.loop-i.outs.items c.in-Trap.kind c.in-Trap.at) (Trapped c.in-Trap.kind c.in-Trap.at) c.loop-i-test.true (c.in-Some.ensures.event ∙ ap (λ e. event_of e (state_of c.step_within.new.self)) c.in-Trap.is) refl
    ∙ sym (ap (λ o. reached_of o c.outcome-in-Trap.result.stop) outs ∙ ap (reached_of c.loop-i.outs.items) c.outcome-in-Trap.ensures.stop)

pub returns-in-Trap-clause-state : goal.returns-in-Trap-clause-state
returns-in-Trap-clause-state c =
    let s = state_of c.loop-i.self in
    let still : behind (step s) s ≡ s = ap (λ e. behind e s) (c.in-Some.ensures.event ∙ ap (λ e. event_of e (state_of c.step_within.new.self)) c.in-Trap.is) in
    ends_at c.args.steps c.loop-i.i (state_of c.args.self.now) s (state_of c.step_within.new.self) c.loop-i-test.true c.loop-i.invariant.state still (c.in-Some.ensures.state ∙ still)

pub loop-i-preserved : goal.loop-i-preserved
loop-i-preserved c =
    let s = state_of c.loop-i.self in
    let t = state_of c.step_within.new.self in
    let n = c.args.steps in
    let i = c.loop-i.i in
    record {
      reached = c.loop-i.invariant.reached ∙ (elim c.match-event.branch [
        | in-Ran w ↦ run_ends n i s c.loop-i.outs.items _ (Ran t) c.loop-i-test.true (c.in-Some.ensures.event ∙ ap (λ e. event_of e t) w.in-Ran.is) (ap (run_from (n - (i + 1)) t) (sym (ap (λ (v : Vec (ℕ × ℕ) Global). v.items) w.outs-is ∙ c.reserve.ensures.items)))
        | in-Out+in_ok-push-in-Out w ↦ run_ends n i s c.loop-i.outs.items _ (Put w.in-Out.word t) c.loop-i-test.true (c.in-Some.ensures.event ∙ ap (λ e. event_of e t) w.in-Out.is) (ap (run_from (n - (i + 1)) t) (sym (ap (λ (v : Vec (ℕ × ℕ) Global). v.items) w.outs-is ∙ w.in_ok-push-in-Out.ensures.items ∙ ap (λ l. l ++ w.in-Out.word ∷ []) c.reserve.ensures.items)))
      ]);
      state = c.in-Some.ensures.state ∙ ap (λ x. behind (step x) x) c.loop-i.invariant.state ∙ sym (after_more i (state_of c.args.self.now));
    }

pub returns-in_default-clause-before_an_output : goal.returns-in_default-clause-before_an_output
returns-in_default-clause-before_an_output c =
    let waits = c.in_default.ensures.waits refl in
    stands_before c.args.steps c.loop-i.i (state_of c.args.self.now) (state_of c.loop-i.self) (state_of c.step_within.new.self) c.loop-i-test.true c.loop-i.invariant.state waits.2 waits.1

pub returns-in_err-push-in-Out-clause-before_an_output : goal.returns-in_err-push-in-Out-clause-before_an_output
returns-in_err-push-in-Out-clause-before_an_output c =
    let t = state_of c.step_within.new.self in
    let room : c.is_ok-has_room.result ≡ true = had_room c.is_ok-has_room.result (λ none. sym (ap (λ e. puts (event_of e t)) c.in-Out.is) ∙ c.in-Some.ensures.kept none) in
    search rules
