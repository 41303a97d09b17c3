use Rattle.std.proofs.Common.{length}
use Rattle.c25_image.proofs.PortLines.{BlanksSoFar}
use Rattle.c25_image.proofs.ports.behind_blanks.Given as goal

abbrev pub invariant-loop-after : goal.invariant-loop-after
invariant-loop-after l = BlanksSoFar l.bytes l.rest

abbrev pub decreases-loop-after : goal.decreases-loop-after
decreases-loop-after l = length l.rest
