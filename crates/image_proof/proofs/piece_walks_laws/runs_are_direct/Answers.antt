use Rattle.image_proof.proofs.DirectRuns.{run_direct}
use Rattle.image_proof.proofs.DirectBodies.{body_direct}
use Rattle.image_proof.proofs.piece_walks_laws.runs_are_direct.Goals as goal

pub returns : goal.returns
returns c = record { steps = λ w s os d at names. run_direct w s os names d at; bodies = body_direct }
