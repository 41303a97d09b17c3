use Rattle.lay_cost.proofs.OthersLoad as lemmas
use Rattle.lay_cost.proofs.laws.others_load.Goals as goal

pub returns : goal.returns
returns c = lemmas.others_load
