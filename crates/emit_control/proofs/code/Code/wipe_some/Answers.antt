use Rattle.std.proofs.Common.{ap}
use Rattle.emit_control.specs.declared.state.Before.TheVariants.{Shut}
use Rattle.emit_control.proofs.code.Code.wipe_some.Goals as goal

pub returns-clause-state : goal.returns-clause-state
returns-clause-state c = ap (λ f. record { before = Shut; named = f }) c.in_ok-add.ensures
