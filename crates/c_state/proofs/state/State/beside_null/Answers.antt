use Rattle.std.proofs.Common.{rules}
use Rattle.c_tree.specs.Eval as eval
use Rattle.c_state.proofs.AnswerLemmas.{comes_at}
use Rattle.c_state.proofs.state.State.beside_null.Goals as goal

pub returns-in-Some : goal.returns-in-Some
returns-in-Some c = let here = comes_at (eval.equality c.args.op _ c.args.at) c.equality.result c.args.self.now c.equality.ensures in search (rules, here)
