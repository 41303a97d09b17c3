use Rattle.std.proofs.Common.{length}
use Rattle.c25_image.proofs.ImageLoops.{RangesSoFar}
use Rattle.c25_image.proofs.reading.read_ranges.Given as goal

abbrev pub invariant-loop-text : goal.invariant-loop-text
invariant-loop-text l = RangesSoFar l.bytes l.rest l.count l.first_line l.line l.from l.functions.items

abbrev pub decreases-loop-text : goal.decreases-loop-text
decreases-loop-text l = length l.rest
