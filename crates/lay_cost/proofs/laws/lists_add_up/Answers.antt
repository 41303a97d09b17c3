use Rattle.lay_cost.proofs.Adding.{parts_add}
use Rattle.lay_cost.proofs.laws.lists_add_up.Goals as goal

pub returns : goal.returns
returns c = parts_add
