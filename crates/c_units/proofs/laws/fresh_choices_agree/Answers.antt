use Rattle.c_units.proofs.ChoiceLemmas.{choices_agree}
use Rattle.c_units.proofs.laws.fresh_choices_agree.Goals as goal

pub returns : goal.returns
returns c = choices_agree
