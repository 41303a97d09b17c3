use Rattle.lay_cost.proofs.OneList.{list_costs}
use Rattle.lay_cost.proofs.LastList.{last_list_costs}
use Rattle.lay_cost.proofs.laws.a_list_costs_its_pairs.Goals as goal

pub returns-clause-alone : goal.returns-clause-alone
returns-clause-alone c = list_costs

pub returns-clause-last : goal.returns-clause-last
returns-clause-last c = last_list_costs
