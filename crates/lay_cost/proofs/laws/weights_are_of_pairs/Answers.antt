use Rattle.lay_cost.proofs.Pairs.{weight_turned, weight_itself, weight_outside}
use Rattle.lay_cost.proofs.laws.weights_are_of_pairs.Goals as goal

pub returns-clause-turned : goal.returns-clause-turned
returns-clause-turned c = weight_turned

pub returns-clause-itself : goal.returns-clause-itself
returns-clause-itself c = weight_itself

pub returns-clause-outside : goal.returns-clause-outside
returns-clause-outside c = weight_outside
