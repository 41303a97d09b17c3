-- The greatest weights of the scalars so far, and their sum.
use Rattle.std.proofs.Common.{◌≡◌, ℕ, ◌<◌, true, sum_by, slice_index}
use Rattle.lay_node.specs.Levels.{is_free, free_below, greatest_among}
use Rattle.lay_node.proofs.level.Level.find_greatest.Given as goal

abbrev pub invariant-loop-scalar : goal.invariant-loop-scalar
invariant-loop-scalar l = record {
  weights : l.self.weights ≡ l.fn.self.weights;
  greatest : (s : ℕ) → s < l.scalar → is_free l.placed s ≡ true → slice_index l.self.greatest s ≡ greatest_among l.fn.self.weights (free_below l.placed l.scalars) s;
  sum : l.sum ≡ sum_by (greatest_among l.fn.self.weights (free_below l.placed l.scalars)) (free_below l.placed l.scalar);
}
