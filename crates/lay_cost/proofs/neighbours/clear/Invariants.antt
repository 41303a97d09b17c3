-- The rows so far are clear.
use Rattle.lay_cost.proofs.Pairs.{AreClearTo}
use Rattle.lay_cost.proofs.neighbours.clear.Given as goal

abbrev pub invariant-loop-row : goal.invariant-loop-row
invariant-loop-row l = AreClearTo l.row l.scalars l.weights
