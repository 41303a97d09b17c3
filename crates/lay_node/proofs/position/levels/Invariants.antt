-- As many as were made.
use Rattle.std.proofs.Common.{◌≡◌, length}
use Rattle.lay_node.proofs.position.levels.Given as goal

abbrev pub invariant-loop-closes : goal.invariant-loop-closes
invariant-loop-closes l = length l.levels.items ≡ l._closes
