use Rattle.std.proofs.Common.{length}
use Rattle.c25_image.proofs.PortLines.{GivenSoFar}
use Rattle.c25_image.proofs.ports.read_ports.Given as goal

abbrev pub invariant-loop-rest : goal.invariant-loop-rest
invariant-loop-rest l = GivenSoFar l.bytes l.rest l.number l.puts.items

abbrev pub decreases-loop-rest : goal.decreases-loop-rest
decreases-loop-rest l = length l.rest
