use Rattle.std.proofs.Common.{arith}
use Rattle.std.proofs.lemmas.Result.{on_ok_weaker, IfErr-weaker}
use Rattle.c_macro.proofs.PendingLemmas.{next_fits, answered_leads, answered_stops, replaced_leads, replaced_stops, replaced_unwound, ended_leads}
use Rattle.c_macro.proofs.replacer.Replacer.take_token.Goals as goal

pub returns-in_default-clause-leads_on : goal.returns-in_default-clause-leads_on
returns-in_default-clause-leads_on c =
    ended_leads c.args.at c.args.len c.args.self.now c.args.frame c.end.new.self c.in_default.ensures c.end.ensures.bodies c.end.ensures.busy

pub overflow_add-following : goal.overflow_add-following
overflow_add-following c =
    let fits = next_fits c.args.self.now.macros.bodies c.args.frame.index c.args.frame.next c.in-Some.kind.now c.in-Some.ensures in
    omega (arith, fits)

pub returns-in_ok-push-in-Some-find-clause-leads_on :
    goal.returns-in_ok-push-in-Some-find-clause-leads_on
returns-in_ok-push-in-Some-find-clause-leads_on c =
    on_ok_weaker c.enter.result
    (λ e. replaced_leads c.args.at c.args.len c.args.self.now c.args.frame c.in-Some.kind.now c.in-Some.ensures c.in-Some-find.index c.in-Some-find.ensures
    c.push.new.self c.in_ok-push-in-Some-find.ensures.items c.enter.new.self e)
    c.enter.ensures.entered

pub returns-in_ok-push-in-Some-find-clause-unwound :
    goal.returns-in_ok-push-in-Some-find-clause-unwound
returns-in_ok-push-in-Some-find-clause-unwound c =
    on_ok_weaker c.enter.result
    (λ e. replaced_unwound c.args.at c.args.len c.args.self.now c.args.frame c.in-Some.kind.now c.in-Some.ensures c.in-Some-find.index c.in-Some-find.ensures
    c.push.new.self c.in_ok-push-in-Some-find.ensures.items c.enter.new.self e)
    c.enter.ensures.entered

pub returns-in_ok-push-in-Some-find-clause-stopped :
    goal.returns-in_ok-push-in-Some-find-clause-stopped
returns-in_ok-push-in-Some-find-clause-stopped c =
    IfErr-weaker c.enter.result _ _
    (λ fault stop. replaced_stops c.args.at c.args.len c.args.self.now c.args.frame c.in-Some.kind.now c.in-Some.ensures c.in-Some-find.index c.in-Some-find.ensures fault stop)
    c.enter.ensures.stopped

pub returns-in_ok-push-in-None-clause-leads_on : goal.returns-in_ok-push-in-None-clause-leads_on
returns-in_ok-push-in-None-clause-leads_on c =
    on_ok_weaker c.answer.result
    (λ takes. answered_leads c.args.at c.args.len c.args.self.now c.args.frame c.in-Some.kind.now c.in-Some.ensures c.in-None.ensures
    c.in_ok-kind-in-None.kind c.in_ok-kind-in-None.ensures c.answer.new.self c.push-in-None.new.self c.in_ok-push-in-None.ensures.items takes)
    c.answer.ensures.answered

pub returns-in_ok-push-in-None-clause-stopped : goal.returns-in_ok-push-in-None-clause-stopped
returns-in_ok-push-in-None-clause-stopped c =
    IfErr-weaker c.answer.result _ _
    (λ fault stop. answered_stops c.args.at c.args.len c.args.self.now c.args.frame c.in-Some.kind.now c.in-Some.ensures c.in-None.ensures
    c.in_ok-kind-in-None.kind c.in_ok-kind-in-None.ensures fault stop)
    c.answer.ensures.stopped
