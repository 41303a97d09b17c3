use Rattle.lay_cert.proofs.Verdicts.{yes_costs, yes_replays}
use Rattle.lay_cert.proofs.laws.yes_means_least.Goals as goal

pub returns-clause-costs : goal.returns-clause-costs
returns-clause-costs c = yes_costs

pub returns-clause-least : goal.returns-clause-least
returns-clause-least c = λ f frame sequence e. c.logs_show_least.ensures.least f.registers f.seq f.cost f.log f.arr sequence (yes_replays f e) (record { arranges = frame.arranged; few = frame.lists }) (yes_costs f e)
