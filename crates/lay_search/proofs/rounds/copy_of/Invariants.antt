-- The lists so far.
use Rattle.std.proofs.Common.{◌≡◌, take}
use Rattle.lay_search.proofs.rounds.copy_of.Given as goal

abbrev pub invariant-loop-list : goal.invariant-loop-list
invariant-loop-list l = l.lists.items ≡ take l.list-index l.arrangement
