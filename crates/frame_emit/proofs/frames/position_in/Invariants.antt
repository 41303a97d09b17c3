use Rattle.std.proofs.Common.{◌≡◌, ◌+◌, length}
use Rattle.frame_emit.specs.Frames.{position_in}
use Rattle.frame_emit.proofs.Positions.{further}
use Rattle.frame_emit.proofs.frames.position_in.Given as goal

abbrev pub invariant-loop-first : goal.invariant-loop-first
invariant-loop-first l = record {
  found : position_in l.fn.list l.scalar ≡ further l.position (position_in l.rest l.scalar);
  count : l.position + length l.rest ≡ length l.fn.list;
}

abbrev pub decreases-loop-first : goal.decreases-loop-first
decreases-loop-first l = length l.rest
