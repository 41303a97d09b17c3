-- The greedy lists of the lists so far.
use Rattle.std.proofs.Common.{◌≡◌, map, take}
use Rattle.lay_tree.specs.Greedy.{filled, greedy_list}
use Rattle.lay_greedy.proofs.starting.greedy_lists.Given as goal

abbrev pub invariant-loop-list : goal.invariant-loop-list
invariant-loop-list l = l.greedy.items ≡ map (greedy_list l.seq) (filled (take l.list-index l.lists))
