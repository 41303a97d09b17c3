use Rattle.std.proofs.Common.{◌≡◌}
use Rattle.lay_text.proofs.Faults.{BlocksSoFar, lines_left}
use Rattle.lay_text.proofs.reading.read_blocks.Given as goal

abbrev pub invariant-loop-line : goal.invariant-loop-line
invariant-loop-line l = record {
  same : l.lines.bytes ≡ l.initial.lines.bytes;
  so_far : BlocksSoFar l.lines l.head.scalars l.head.step l.room l.line l.blocks;
}

abbrev pub decreases-loop-line : goal.decreases-loop-line
decreases-loop-line l = lines_left l.lines
