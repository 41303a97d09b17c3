use Rattle.c25_isa.proofs.Touching.{touches_one}
use Rattle.c25_isa.proofs.walk_laws.steps_touch_one_word.Goals as goal

pub returns : goal.returns
returns c = touches_one
