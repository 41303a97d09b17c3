use Rattle.c25_code.proofs.LaterSteps.{stopped_stays}
use Rattle.c25_code.proofs.laws.stopped_runs_stay.Goals as goal

pub returns : goal.returns
returns c = record { stays = stopped_stays }
