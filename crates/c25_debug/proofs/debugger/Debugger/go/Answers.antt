use Rattle.std.proofs.Common.{◌≡◌, ◌∙◌, ◌+◌, ◌++◌, [], ℕ, true, inl, inr, refl, sym, ap, subst, arith}
use Rattle.std.specs.Prelude.{Vec}
use Rattle.std.specs.declared.alloc.Global.{Global}
use Rattle.std.proofs.lemmas.Bool.{false≢true}
use Rattle.text_base.specs.Lines.{with_feed}
use Rattle.c25_isa.specs.Step.{Over, Trapped, step}
use Rattle.c25_isa.specs.MachineRun.{Running, Ended, Stopped}
use Rattle.c25_image.specs.StopLines.{ending_line, trap_line}
use Rattle.c25_sim.specs.Answers.{event_of}
use Rattle.c25_sim.specs.MachineView.{state_of}
use Rattle.c25_debug.specs.Session.{go_line}
use Rattle.c25_debug.specs.Standing.{breakpoints_of, kept_of}
use Rattle.c25_debug.proofs.Going.{Gone, StopsHere, gone_more, gone_out, gone_over, next_behind, did_go, did_stop, on_ok}
use Rattle.c25_debug.proofs.debugger.Debugger.go.Goals as goal
use Rattle.c25_debug.proofs.debugger.Debugger.go.Goals.{else-loop-i-test, then-loop-i-test+then-has, in-Ran, in-Out+in_ok-push_out-in-Out}

pub returns-in-Ended-clause-did : goal.returns-in-Ended-clause-did
returns-in-Ended-clause-did c = λ s begins.
    let before = c.args.self.now in
    let now = state_of c.loop-i.self.machine in
    let next = state_of c.step.new.self in
    let is : step now ≡ Over c.in-Ended.ending = c.in-Ended.ensures.event in
    let steps : c.loop-i.self.steps + 1 ≡ before.steps + (c.loop-i.i + 1) = omega (arith, c.loop-i.invariant.steps) in
    on_ok c.push_end_line.result (λ pushed. did_go s before _ c.args.count (c.loop-i.i + 1) c.args.text.now.items c.push_end_line.new.text.items
    (gone_over s (state_of before.machine) now (kept_of before) c.args.count c.loop-i.i c.args.text.now.items c.loop-i.text.items c.push_end_line.new.text.items (ending_line c.in-Ended.ending)
    (Over c.in-Ended.ending) (λ outs. Ended outs c.in-Ended.ending) begins c.loop-i-test.true c.loop-i.invariant.goes is (λ outs. refl) (λ outs. tt {0}) (λ outs. refl) (λ outs pc n. refl) pushed)
    steps (ap breakpoints_of c.loop-i.invariant.breakpoints)
    (next_behind s (state_of before.machine) now next before.steps c.loop-i.i begins c.loop-i.invariant.goes.gone.stands c.step.ensures.state)) c.push_end_line.ensures

pub returns-in-Trap-clause-did : goal.returns-in-Trap-clause-did
returns-in-Trap-clause-did c = λ s begins.
    let before = c.args.self.now in
    let now = state_of c.loop-i.self.machine in
    let next = state_of c.step.new.self in
    let is : step now ≡ Trapped c.in-Trap.kind c.in-Trap.at = c.in-Trap.ensures.event in
    let steps : c.loop-i.self.steps + 1 ≡ before.steps + (c.loop-i.i + 1) = omega (arith, c.loop-i.invariant.steps) in
    on_ok c.push_trap_line.result (λ pushed. did_go s before _ c.args.count (c.loop-i.i + 1) c.args.text.now.items c.push_trap_line.new.text.items
    (gone_over s (state_of before.machine) now (kept_of before) c.args.count c.loop-i.i c.args.text.now.items c.loop-i.text.items c.push_trap_line.new.text.items (trap_line c.in-Trap.kind c.in-Trap.at)
    (Trapped c.in-Trap.kind c.in-Trap.at) (λ outs. Stopped outs c.in-Trap.kind c.in-Trap.at) begins c.loop-i-test.true c.loop-i.invariant.goes is (λ outs. refl) (λ outs. tt {0}) (λ outs. refl) (λ outs pc n. refl) pushed)
    steps (ap breakpoints_of c.loop-i.invariant.breakpoints)
    (next_behind s (state_of before.machine) now next before.steps c.loop-i.i begins c.loop-i.invariant.goes.gone.stands c.step.ensures.state)) c.push_trap_line.ensures

pub loop-i-preserved : goal.loop-i-preserved
loop-i-preserved c =
    let before = c.args.self.now in
    let first = state_of before.machine in
    let now = state_of c.loop-i.self.machine in
    let next = state_of c.step.new.self in
    let breakpoints = breakpoints_of before.breakpoints in
    let gone : Gone first next breakpoints (c.loop-i.i + 1) c.args.text.now.items c.match-step.text.items = elim c.match-step.branch [
      | in-Ran w ↦
          subst (λ (t : Vec ℕ Global). Gone first next breakpoints (c.loop-i.i + 1) c.args.text.now.items t.items) (sym w.text-is)
          (gone_more first now next breakpoints c.loop-i.i c.args.text.now.items c.loop-i.text.items c.loop-i.invariant.goes (c.step.ensures.event ∙ ap (λ e. event_of e next) w.in-Ran.is))
      | in-Out+in_ok-push_out-in-Out w ↦
          gone_out first now next breakpoints c.loop-i.i c.args.text.now.items c.loop-i.text.items c.match-step.text.items w.in-Out.out c.loop-i.invariant.goes (c.step.ensures.event ∙ ap (λ e. event_of e next) w.in-Out.is)
          (ap (λ (t : Vec ℕ Global). t.items) w.text-is ∙ w.in_ok-push_out-in-Out.ensures.text)
    ] in
    record {
      goes = record {
        gone = gone;
        clear = λ some at. false≢true (sym c.if-has.false ∙ c.has.ensures ∙ ap (breakpoints_of c.loop-i.self.breakpoints) c.pc.ensures ∙ ap (λ b. breakpoints_of b next.pc) c.loop-i.invariant.breakpoints ∙ at);
      };
      steps = omega (arith, c.loop-i.invariant.steps);
      breakpoints = c.loop-i.invariant.breakpoints;
    }

pub returns-clause-did : goal.returns-clause-did
returns-clause-did c = λ s begins.
    let before = c.args.self.now in
    let first = state_of before.machine in
    let breakpoints = breakpoints_of before.breakpoints in
    let here : StopsHere before c.loop-i-test.self c.args.count c.args.text.now.items c.loop-i-test.text.items = elim c.loop-i-test.branch [
      | else-loop-i-test w ↦
          subst (λ d. StopsHere before d c.args.count c.args.text.now.items c.loop-i-test.text.items) (sym w.self-is)
          (subst (λ (t : Vec ℕ Global). StopsHere before c.loop-i.self c.args.count c.args.text.now.items t.items) (sym w.text-is)
          (record {
            i = c.loop-i.i;
            some = omega (arith, w.loop-i-test.false, c.requires.some);
            within = omega (arith, c.loop-i.auto.i-end);
            gone = c.loop-i.invariant.goes.gone;
            stops = inr (omega (arith, w.loop-i-test.false, c.loop-i.auto.i-end));
            steps = c.loop-i.invariant.steps;
            same = ap breakpoints_of c.loop-i.invariant.breakpoints;
          }))
      | then-loop-i-test+then-has w ↦
          let now = state_of c.loop-i.self.machine in
          let next = state_of w.step.new.self in
          let gone : Gone first next breakpoints (c.loop-i.i + 1) c.args.text.now.items w.match-step.text.items = elim w.match-step.branch [
            | in-Ran v ↦
                subst (λ (t : Vec ℕ Global). Gone first next breakpoints (c.loop-i.i + 1) c.args.text.now.items t.items) (sym v.text-is)
                (gone_more first now next breakpoints c.loop-i.i c.args.text.now.items c.loop-i.text.items c.loop-i.invariant.goes (w.step.ensures.event ∙ ap (λ e. event_of e next) v.in-Ran.is))
            | in-Out+in_ok-push_out-in-Out v ↦
                gone_out first now next breakpoints c.loop-i.i c.args.text.now.items c.loop-i.text.items w.match-step.text.items v.in-Out.out c.loop-i.invariant.goes (w.step.ensures.event ∙ ap (λ e. event_of e next) v.in-Out.is)
                (ap (λ (t : Vec ℕ Global). t.items) v.text-is ∙ v.in_ok-push_out-in-Out.ensures.text)
          ] in
          let self_is : c.loop-i-test.self ≡ record { machine = w.step.new.self; steps = c.loop-i.self.steps + 1; breakpoints = c.loop-i.self.breakpoints } = w.self-is in
          let at : breakpoints next.pc ≡ true =
          ap (λ b. breakpoints_of b next.pc) (sym c.loop-i.invariant.breakpoints) ∙ ap (breakpoints_of c.loop-i.self.breakpoints) (sym w.pc.ensures) ∙ sym w.has.ensures ∙ w.if-has.true in
          subst (λ d. StopsHere before d c.args.count c.args.text.now.items c.loop-i-test.text.items) (sym self_is)
          (subst (λ (t : Vec ℕ Global). StopsHere before (record { machine = w.step.new.self; steps = c.loop-i.self.steps + 1; breakpoints = c.loop-i.self.breakpoints }) c.args.count c.args.text.now.items t.items) (sym w.text-is)
          (record {
            i = c.loop-i.i + 1;
            some = omega arith;
            within = omega (arith, w.loop-i-test.true);
            gone = gone;
            stops = inl at;
            steps = omega (arith, c.loop-i.invariant.steps);
            same = ap breakpoints_of c.loop-i.invariant.breakpoints;
          }))
    ] in
    on_ok c.push_stopped.result (λ pushed. did_stop s before c.loop-i-test.self c.args.count c.args.text.now.items c.loop-i-test.text.items c.push_stopped.new.text.items begins here
    (pushed ∙ ap (λ p. c.loop-i-test.text.items ++ with_feed (go_line p c.loop-i-test.self.steps (Running []))) c.pc-2.ensures)) c.push_stopped.ensures
