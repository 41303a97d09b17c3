use Rattle.std.proofs.lemmas.Result.{on_ok_weaker, IfErr-weaker, err_from_is_err_and}
use Rattle.c_macro.specs.Macros.{steps, most_macros}
use Rattle.c_macro.specs.Expanding.{table_in}
use Rattle.c_macro.proofs.PendingLemmas.{steps_idle, lone_takes, lone_stops, text_stops, text_takes, text_stops_later, text_busy, passed_on}
use Rattle.c_macro.proofs.replacer.Replacer.expand_token.Goals as goal

pub returns-in_ok-enter-in-Some-clause-busy : goal.returns-in_ok-enter-in-Some-clause-busy
returns-in_ok-enter-in-Some-clause-busy c =
    let old = c.args.self.now in
    let t = c.args.token in
    let whole = steps most_macros (table_in old.macros.bodies) t in
    let idle = steps_idle old.macros most_macros t c.requires.idle.0 c.requires.idle.1 in
    on_ok_weaker c.finish.result
    (λ is. text_busy old t whole idle c.in-Some.index c.in-Some.ensures c.requires.empty c.enter.new.self c.in_ok-enter-in-Some.ensures.entered
    c.finish.new.self.macros.busy.items is)
    c.finish.ensures.unwound

pub returns-in_ok-enter-in-Some-clause-takes : goal.returns-in_ok-enter-in-Some-clause-takes
returns-in_ok-enter-in-Some-clause-takes c =
    let old = c.args.self.now in
    let t = c.args.token in
    let whole = steps most_macros (table_in old.macros.bodies) t in
    let idle = steps_idle old.macros most_macros t c.requires.idle.0 c.requires.idle.1 in
    on_ok_weaker c.finish.result
    (λ takes. text_takes old t whole idle c.in-Some.index c.in-Some.ensures c.requires.empty c.enter.new.self c.in_ok-enter-in-Some.ensures.entered
    c.finish.new.self.output takes)
    c.finish.ensures.takes

pub returns-in_ok-enter-in-Some-clause-stopped : goal.returns-in_ok-enter-in-Some-clause-stopped
returns-in_ok-enter-in-Some-clause-stopped c =
    let old = c.args.self.now in
    let t = c.args.token in
    let whole = steps most_macros (table_in old.macros.bodies) t in
    let idle = steps_idle old.macros most_macros t c.requires.idle.0 c.requires.idle.1 in
    IfErr-weaker c.finish.result _ _
    (λ fault stop. text_stops_later old t whole idle c.in-Some.index c.in-Some.ensures c.requires.empty c.enter.new.self c.in_ok-enter-in-Some.ensures.entered fault stop)
    c.finish.ensures.stopped

pub returns-in_err-enter-in-Some-clause-stopped : goal.returns-in_err-enter-in-Some-clause-stopped
returns-in_err-enter-in-Some-clause-stopped c =
    let old = c.args.self.now in
    let t = c.args.token in
    let whole = steps most_macros (table_in old.macros.bodies) t in
    let idle = steps_idle old.macros most_macros t c.requires.idle.0 c.requires.idle.1 in
    let p = err_from_is_err_and c.from_residual.result c.from_residual.ensures.1 in
    passed_on c.from_residual.result _ p.0 c.in_err-enter-in-Some.field-0.0 p.1 p.2
    (text_stops old t whole idle c.in-Some.index c.in-Some.ensures c.in_err-enter-in-Some.field-0.0 c.in_err-enter-in-Some.ensures.stopped)

pub returns-in-None-clause-takes : goal.returns-in-None-clause-takes
returns-in-None-clause-takes c =
    let old = c.args.self.now in
    let t = c.args.token in
    let whole = steps most_macros (table_in old.macros.bodies) t in
    let idle = steps_idle old.macros most_macros t c.requires.idle.0 c.requires.idle.1 in
    on_ok_weaker c.answer.result (λ takes. lone_takes old t whole idle c.in-None.ensures c.answer.new.self takes) c.answer.ensures.answered

pub returns-in-None-clause-stopped : goal.returns-in-None-clause-stopped
returns-in-None-clause-stopped c =
    let old = c.args.self.now in
    let t = c.args.token in
    let whole = steps most_macros (table_in old.macros.bodies) t in
    let idle = steps_idle old.macros most_macros t c.requires.idle.0 c.requires.idle.1 in
    IfErr-weaker c.answer.result _ _ (λ fault stop. lone_stops old t whole idle c.in-None.ensures fault stop) c.answer.ensures.stopped
