use Rattle.lay_cost.proofs.Follows.{renumbered}
use Rattle.lay_cost.proofs.laws.registers_are_alike.Goals as goal

pub returns : goal.returns
returns c = renumbered
