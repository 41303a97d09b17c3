use Rattle.std.proofs.Common.{◌<◌, ◌≤◌, ℕ, slice_index}
use Rattle.c_limits.proofs.calls.highest.Given as goal

abbrev pub invariant-loop-callee : goal.invariant-loop-callee
invariant-loop-callee l = (i : ℕ) → i < l.callee-index → slice_index l.levels (slice_index l.called i) ≤ l.highest
