-- The sum of the weights of each two of the scalars so far.
use Rattle.std.proofs.Common.{◌≡◌}
use Rattle.std.specs.List.{range_with_len}
use Rattle.lay_cost.specs.Weights.{weight_at}
use Rattle.lay_tree.specs.Bound.{sum_of_pairs}
use Rattle.lay_node.proofs.level.Level.total.Given as goal

abbrev pub invariant-loop-high : goal.invariant-loop-high
invariant-loop-high l = l.total ≡ sum_of_pairs (weight_at l.self.weights) (range_with_len 0 l.high)
