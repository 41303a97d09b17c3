-- The greatest one so far.
use Rattle.std.proofs.Common.{◌≡◌}
use Rattle.lay_node.specs.Levels.{free_below, greatest_among}
use Rattle.lay_node.proofs.level.Level.greatest_of.Given as goal

abbrev pub invariant-loop-other : goal.invariant-loop-other
invariant-loop-other l = l.greatest ≡ greatest_among l.self.weights (free_below l.placed l.other) l.scalar
