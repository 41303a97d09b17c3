use Rattle.std.proofs.Common.{ap}
use Rattle.emit_control.proofs.cases.push_case.Goals as goal

pub returns-in_ok-add-in-Default-clause-state : goal.returns-in_ok-add-in-Default-clause-state
returns-in_ok-add-in-Default-clause-state c = ap (λ f. record { before = c.args.code.now.before; named = f }) c.in_ok-add-in-Default.ensures
