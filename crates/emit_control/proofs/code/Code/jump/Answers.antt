use Rattle.std.proofs.Common.{ap}
use Rattle.std.proofs.lemmas.Result.{on_ok_weaker}
use Rattle.emit_control.proofs.code.Code.jump.Goals as goal

pub returns-clause-state : goal.returns-clause-state
returns-clause-state c = on_ok_weaker c.add.result (λ e. ap (λ f. record { before = c.args.self.now.before; named = f }) e) c.add.ensures
