-- The greatest weights of the scalars so far and their sum, and the others as they were.
use Rattle.std.proofs.Common.{◌≡◌, ℕ, ◌<◌, true, sum_by, slice_index, length}
use Rattle.lay_node.specs.Levels.{is_free, free_below, greatest_among, SameOfOthers}
use Rattle.lay_node.proofs.level.Level.take_out.Given as goal

abbrev pub invariant-loop-other : goal.invariant-loop-other
invariant-loop-other l = record {
  size : length l.self.greatest ≡ 64;
  weights : l.self.weights ≡ l.fn.self.weights;
  greatest : (s : ℕ) → s < l.other → is_free l.placed s ≡ true → slice_index l.self.greatest s ≡ greatest_among l.fn.self.weights (free_below l.placed l.scalars) s;
  others : SameOfOthers l.fn.self.greatest l.self.greatest l.placed l.other;
  sum : l.sum ≡ sum_by (greatest_among l.fn.self.weights (free_below l.placed l.scalars)) (free_below l.placed l.other);
}
