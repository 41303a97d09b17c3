-- The string of the lists so far.
use Rattle.std.proofs.Common.{◌≡◌, take}
use Rattle.lay_greedy.specs.Spread.{string_of}
use Rattle.lay_greedy.proofs.spread.string_of.Given as goal

abbrev pub invariant-loop-list : goal.invariant-loop-list
invariant-loop-list l = l.string.items ≡ string_of (take l.list-index l.lists)
