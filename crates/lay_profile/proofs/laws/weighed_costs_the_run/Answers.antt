use Rattle.lay_cost.specs.Placements.{placement_of}
use Rattle.lay_profile.proofs.Weighings.{costs_the_run}
use Rattle.lay_profile.proofs.laws.weighed_costs_the_run.Goals as goal

pub returns-clause-cost : goal.returns-clause-cost
returns-clause-cost c = costs_the_run

pub returns-clause-arranged : goal.returns-clause-arranged
returns-clause-arranged c = λ seq counts lists. costs_the_run seq counts (placement_of lists)
