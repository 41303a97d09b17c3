use Rattle.std.proofs.Common.{map, vec_items}
use Rattle.c_limits.specs.Calls.{FallBefore}
use Rattle.c_limits.proofs.calls.count_falling.Given as goal

abbrev pub invariant-loop-n : goal.invariant-loop-n
invariant-loop-n l = FallBefore l.levels (map vec_items l.callees) l.n
