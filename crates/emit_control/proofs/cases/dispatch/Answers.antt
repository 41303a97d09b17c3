use Rattle.std.proofs.lemmas.Result.{on_ok_weaker}
use Rattle.emit_control.proofs.CaseLemmas.{dispatched}
use Rattle.emit_control.proofs.cases.dispatch.Goals as goal

pub returns : goal.returns
returns c =
    on_ok_weaker c.goto.result
    (λ adds m. dispatched m c.args.code.now c.push_cases.new.code c.goto.new.self c.args.cases.now c.args.first c.args.behind c.in_ok-other.other c.in_ok-other.ensures c.in_ok-push_cases.ensures (adds m))
    c.goto.ensures
