use Rattle.lay_tree.proofs.AnswerLemmas.{certified_replays}
use Rattle.lay_tree.proofs.laws.certified_logs_replay.Goals as goal

pub returns : goal.returns
returns c = certified_replays
