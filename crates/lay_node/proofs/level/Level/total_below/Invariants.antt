-- The sum of the weights so far.
use Rattle.std.proofs.Common.{◌≡◌, sum_by}
use Rattle.std.specs.List.{range_with_len}
use Rattle.lay_cost.specs.Weights.{weight_at}
use Rattle.lay_node.proofs.level.Level.total_below.Given as goal

abbrev pub invariant-loop-low : goal.invariant-loop-low
invariant-loop-low l = l.total ≡ sum_by (λ low. weight_at l.self.weights low l.high) (range_with_len 0 l.low)
