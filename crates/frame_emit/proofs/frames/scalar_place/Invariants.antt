use Rattle.std.proofs.Common.{◌≡◌, ◌≤◌, ◌+◌, length}
use Rattle.frame_emit.specs.Frames.{FIRST_REGISTER, scalar_place}
use Rattle.frame_emit.proofs.frames.scalar_place.Given as goal

abbrev pub invariant-loop-list : goal.invariant-loop-list
invariant-loop-list l = record {
  place : scalar_place l.fn.lists l.fn.bases FIRST_REGISTER l.scalar ≡ scalar_place l.rest l.starts l.register l.scalar;
  few : l.register + length l.rest ≤ 6;
}

abbrev pub decreases-loop-list : goal.decreases-loop-list
decreases-loop-list l = length l.rest
