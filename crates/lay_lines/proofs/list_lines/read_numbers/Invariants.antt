use Rattle.std.proofs.Common.{length}
use Rattle.lay_lines.proofs.Lists.{NumbersSoFar}
use Rattle.lay_lines.proofs.list_lines.read_numbers.Given as goal

abbrev pub invariant-loop-number : goal.invariant-loop-number
invariant-loop-number l = NumbersSoFar l.bytes l.rest l.numbers.items

abbrev pub decreases-loop-number : goal.decreases-loop-number
decreases-loop-number l = length l.rest
