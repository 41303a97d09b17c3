use Rattle.cc_driver.proofs.StoredLemmas.{runs_stored}
use Rattle.cc_driver.proofs.stored_laws.stored_images_run_as_executions.Goals as goal

pub returns : goal.returns
returns c = runs_stored
