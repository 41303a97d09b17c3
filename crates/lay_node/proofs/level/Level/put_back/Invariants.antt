-- The greatest weights of the scalars so far, and the others as they were.
use Rattle.std.proofs.Common.{◌≡◌, ℕ, ◌<◌, true, max, slice_index}
use Rattle.lay_cost.specs.Weights.{weight_at}
use Rattle.lay_node.specs.Levels.{is_free, SameOfOthers}
use Rattle.lay_node.proofs.level.Level.put_back.Given as goal

abbrev pub invariant-loop-other : goal.invariant-loop-other
invariant-loop-other l = record {
  weights : l.self.weights ≡ l.fn.self.weights;
  greatest : (s : ℕ) → s < l.other → is_free l.placed s ≡ true → slice_index l.self.greatest s ≡ max (slice_index l.fn.self.greatest s) (weight_at l.fn.self.weights s l.scalar);
  others : SameOfOthers l.fn.self.greatest l.self.greatest l.placed l.other;
}
