use Rattle.lay_tree.proofs.ExhaustedAnswers.{unfinished}
use Rattle.lay_tree.proofs.laws.exhausted_answers_are_full.Goals as goal

pub returns : goal.returns
returns c = unfinished
