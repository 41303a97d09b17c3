-- The last scalar is at the end.
use Rattle.std.proofs.Common.{sym}
use Rattle.lay_greedy.proofs.Ends.{is_last_at}
use Rattle.lay_greedy.proofs.lists.is_last.Goals as goal

pub returns-in-Some : goal.returns-in-Some
returns-in-Some c = is_last_at c.args.scalar c.args.list.now c.in-Some.last.now (sym c.in-Some.ensures.value)
