-- Bodies keep what they do, and so do calls, at every depth.
use Rattle.tree_code_proof.proofs.Bodies.{lowering_keeps}
use Rattle.tree_code_proof.proofs.laws.lowering_keeps_runs.Goals as goal

pub returns : goal.returns
returns c = record { keeps = λ q p input n is words places inputs. lowering_keeps q p is words places n input inputs }
