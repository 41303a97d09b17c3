use Rattle.std.proofs.Common.{map, take, vec_items}
use Rattle.std.specs.List.{AllZip}
use Rattle.c_tree.specs.Uses.{called}
use Rattle.c_limits.specs.Calls.{IsOrdered}
use Rattle.c_limits.proofs.recursion.all_callees.Given as goal

abbrev pub invariant-loop-list : goal.invariant-loop-list
invariant-loop-list l = AllZip IsOrdered (map vec_items l.lists.items) (map called (map vec_items (take l.list-index l.uses)))
