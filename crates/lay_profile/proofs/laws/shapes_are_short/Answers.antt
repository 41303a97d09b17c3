use Rattle.lay_profile.proofs.Short.{shapes_are_short}
use Rattle.lay_profile.proofs.laws.shapes_are_short.Goals as goal

pub returns : goal.returns
returns c = shapes_are_short
