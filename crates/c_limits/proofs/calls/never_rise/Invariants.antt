use Rattle.std.proofs.Common.{◌<◌, ◌≤◌, ℕ, map, vec_items, slice_index}
use Rattle.c_tree.specs.Rounds.{CallsAmong}
use Rattle.c_limits.proofs.calls.never_rise.Given as goal

abbrev pub invariant-loop-n : goal.invariant-loop-n
invariant-loop-n l = (k m : ℕ) → k < l.n → CallsAmong (map vec_items l.callees) k m → slice_index l.levels m ≤ slice_index l.levels k
