use Rattle.std.proofs.Common.{length}
use Rattle.lay_lines.proofs.Blocks.{AccessesSoFar}
use Rattle.lay_lines.proofs.block_lines.read_accesses.Given as goal

abbrev pub invariant-loop-scalar : goal.invariant-loop-scalar
invariant-loop-scalar l = AccessesSoFar l.bytes l.rest l.accesses.items l.scalars

abbrev pub decreases-loop-scalar : goal.decreases-loop-scalar
decreases-loop-scalar l = length l.rest
