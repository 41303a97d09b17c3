use Rattle.c_state.proofs.AnswerLemmas.{subtracted, other_order}
use Rattle.c_state.proofs.operators.ordering.Goals as goal

pub returns-in-Sub : goal.returns-in-Sub
returns-in-Sub c = subtracted c.args.op c.args.i c.args.j c.args.at c.of_words.result c.in-Sub.is c.of_words.ensures

pub returns-in_default : goal.returns-in_default
returns-in_default c = other_order c.args.op c.args.i c.args.j c.args.at c.equality.result c.in_default.not-Lt c.in_default.not-Gt c.in_default.not-Le c.in_default.not-Ge c.in_default.not-Sub c.equality.ensures
