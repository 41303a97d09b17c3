-- The first and the last scalar decide.
use Rattle.std.proofs.Common.{sym}
use Rattle.lay_greedy.proofs.Ends.{turned_is}
use Rattle.lay_greedy.proofs.lists.ends_smaller.Goals as goal

pub returns-in-Some-Some : goal.returns-in-Some-Some
returns-in-Some-Some c = turned_is c.args.list.now c.in-Some-Some.first.now c.in-Some-Some.last.now (sym c.in-Some-Some.ensures.value) (sym c.in-Some-Some.ensures'.value)
