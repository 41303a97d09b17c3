use Rattle.emit_proof.proofs.Accessing.{callers_spared, parameters_spared, scalars_spared}
use Rattle.emit_proof.proofs.OperationRunning.{runs_meet}
use Rattle.emit_proof.proofs.row_laws.runs_do_operations.Goals as goal

pub returns : goal.returns
returns c = record {
  meet = runs_meet;
  scalars = λ k n stores site few. scalars_spared k site stores n few;
  callers = λ k a x register stores site kept. callers_spared k site stores a x register kept;
  parameters = λ k f i register stores site few. parameters_spared k site stores f i register few;
}
