use Rattle.std.proofs.Common.{◌≡◌}
use Rattle.emit_blocks.specs.Right.{HaveRegisters}
use Rattle.frame_emit.specs.Frames.{scalar_places}
use Rattle.frame_emit.proofs.frames.scalar_places.Given as goal

abbrev pub invariant-loop-scalar : goal.invariant-loop-scalar
invariant-loop-scalar l = record {
  places : l.all.items ≡ scalar_places l.lists l.bases 0 l.scalar;
  registers : HaveRegisters l.all.items;
}
