use Rattle.c_macro.proofs.OneOutcome.{outcome_one}
use Rattle.c_macro.proofs.laws.one_outcome.Goals as goal

pub returns : goal.returns
returns c = outcome_one
