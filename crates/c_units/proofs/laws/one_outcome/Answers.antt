use Rattle.c_units.proofs.OneOutcome as outcome
use Rattle.c_units.proofs.laws.one_outcome.Goals as goal

pub returns-clause-one_joined : goal.returns-clause-one_joined
returns-clause-one_joined c = outcome.one_joined

pub returns-clause-one_fault : goal.returns-clause-one_fault
returns-clause-one_fault c = outcome.one_fault

pub returns-clause-not_both : goal.returns-clause-not_both
returns-clause-not_both c = outcome.joined_not
