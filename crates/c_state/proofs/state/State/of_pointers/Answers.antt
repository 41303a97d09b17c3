use Rattle.std.proofs.Common.{rules}
use Rattle.c_state.proofs.AnswerLemmas.{comes_at}
use Rattle.c_state.proofs.state.State.of_pointers.Goals as goal

pub returns-then-left-right : goal.returns-then-left-right
returns-then-left-right c = let here = comes_at (_) c.ordering.result c.args.self.now c.ordering.ensures in search (rules, here)

pub returns-else-left-right : goal.returns-else-left-right
returns-else-left-right c = let here = comes_at (_) c.equality.result c.args.self.now c.equality.ensures in search (rules, here)
