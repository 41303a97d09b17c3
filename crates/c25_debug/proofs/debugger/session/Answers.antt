use Rattle.std.proofs.Common.{◌≡◌, ◌∙◌, ◌+◌, ◌∷◌, [], get_or, refl, sym, ap, subst, drop, arith, append-nil}
use Rattle.std.proofs.lemmas.List.{drop_all, drop_more}
use Rattle.word_base.specs.Ports.{input_of}
use Rattle.c25_isa.specs.State.{State, zero_start}
use Rattle.c25_isa.specs.MachineRun.{reset}
use Rattle.c25_sim.specs.Taken.{of_sixteen}
use Rattle.c25_sim.specs.MachineView.{state_of}
use Rattle.c25_debug.specs.declared.command.Command.TheVariants.{Break}
use Rattle.c25_debug.specs.Session.{Shows, before_all}
use Rattle.c25_debug.specs.Standing.{kept_of}
use Rattle.c25_debug.proofs.Shown.{follow_more}
use Rattle.c25_debug.proofs.debugger.session.Goals as goal

pub loop-command-preserved : goal.loop-command-preserved
loop-command-preserved c =
    let s : State = state_of c.in_ok-new.field-0 in
    let start = kept_of (record { machine = c.in_ok-new.field-0; steps = 0; breakpoints = c.in_ok-new-2.field-0 }) in
    let script = c.args.script.now in
    let n = c.loop-command.command-index in
    let done = c.in_ok-follow.ensures.did s c.loop-command.invariant.behind in
    let rest : drop n script ≡ get_or script n (Break 0) ∷ drop (n + 1) script = drop_more script n (Break 0) c.loop-command-test.true in
    record {
      steps = omega (arith, c.in_ok-follow.ensures.steps, c.loop-command.invariant.steps);
      behind = done.behind;
      follows = follow_more s start script (drop (n + 1) script) (get_or script n (Break 0)) c.loop-command.debugger c.follow.new.self c.loop-command.text.items c.follow.new.text.items done
          (λ back h. c.loop-command.invariant.follows back (subst (λ l. Shows s l (kept_of c.loop-command.debugger) back) (sym rest) h));
    }

pub returns : goal.returns
returns c =
    let s : State = state_of c.in_ok-new.field-0 in
    let words = c.args.image.now.words in
    let script = c.args.script.now in
    let lines : c.new.result ≡ c.args.ports.now = c.new.ensures ∙ c.in_ok-lines.ensures.items ∙ c.lines.ensures in
    let start : s ≡ reset (zero_start words) (of_sixteen (input_of c.args.ports.now)) =
    c.in_ok-new.ensures ∙ ap (λ b. reset b (of_sixteen (input_of c.new.result))) c.in_ok-start.ensures ∙ ap (λ l. reset (zero_start words) (of_sixteen (input_of l))) lines in
    let kept : kept_of (record { machine = c.in_ok-new.field-0; steps = 0; breakpoints = c.in_ok-new-2.field-0 }) ≡ before_all = ap (λ b. record { steps = 0; breakpoints = b }) c.in_ok-new-2.ensures in
    let none : drop c.loop-command.command-index script ≡ [] = drop_all c.loop-command.command-index script (omega (arith, c.loop-command-test.false)) in
    let all = c.loop-command.invariant.follows [] (subst (λ l. Shows s l (kept_of c.loop-command.debugger) []) (sym none) refl) in
    record {
      text = subst (λ t. Shows t script before_all c.loop-command.text.items) start
          (subst (λ k. Shows s script k c.loop-command.text.items) kept (subst (Shows s script (kept_of (record { machine = c.in_ok-new.field-0; steps = 0; breakpoints = c.in_ok-new-2.field-0 }))) (append-nil c.loop-command.text.items) all));
    }
