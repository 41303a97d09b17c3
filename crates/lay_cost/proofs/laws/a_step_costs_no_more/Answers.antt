use Rattle.lay_cost.proofs.Bounds.{no_dearer_at_a_step}
use Rattle.lay_cost.proofs.laws.a_step_costs_no_more.Goals as goal

pub returns : goal.returns
returns c = no_dearer_at_a_step
