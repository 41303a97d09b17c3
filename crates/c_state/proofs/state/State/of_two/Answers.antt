use Rattle.std.proofs.Common.{rules}
use Rattle.c_state.proofs.AnswerLemmas.{comes_at}
use Rattle.c_state.proofs.state.State.of_two.Goals as goal

pub returns-in-Word-Word : goal.returns-in-Word-Word
returns-in-Word-Word c = let here = comes_at (_) c.of_words.result c.args.self.now c.of_words.ensures in search (rules, here)

pub returns-in-Null-Null : goal.returns-in-Null-Null
returns-in-Null-Null c = let here = comes_at (_) c.equality.result c.args.self.now c.equality.ensures in search (rules, here)
