-- The levels so far.
use Rattle.std.proofs.Common.{◌≡◌, take}
use Rattle.lay_node.proofs.position.copies_of.Given as goal

abbrev pub invariant-loop-level : goal.invariant-loop-level
invariant-loop-level l = l.copies.items ≡ take l.level-index l.levels
