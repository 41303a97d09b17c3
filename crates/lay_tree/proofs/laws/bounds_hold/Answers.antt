use Rattle.lay_tree.proofs.Bounds.{bound_holds}
use Rattle.lay_tree.proofs.laws.bounds_hold.Goals as goal

pub returns : goal.returns
returns c = bound_holds
