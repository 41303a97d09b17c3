use Rattle.lay_tree.proofs.CertifiedLeast.{none_costs_less, shown_least}
use Rattle.lay_tree.proofs.laws.logs_show_least.Goals as goal

pub returns-clause-lists : goal.returns-clause-lists
returns-clause-lists c = none_costs_less

pub returns-clause-least : goal.returns-clause-least
returns-clause-least c = λ k seq cost marks lists sequence replays arranged costs. c.placements_close_up.ensures.least_lists seq k cost sequence (shown_least k seq cost marks lists sequence replays arranged costs)
