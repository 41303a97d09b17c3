use Rattle.std.proofs.Common.{◌-◌, length}
use Rattle.c25_image.proofs.ImageLoops.{RowsSoFar}
use Rattle.c25_image.proofs.reading.read_rows.Given as goal

abbrev pub invariant-loop-words : goal.invariant-loop-words
invariant-loop-words l = RowsSoFar l.bytes l.rest l.count l.line l.words.items

abbrev pub decreases-loop-words : goal.decreases-loop-words
decreases-loop-words l = l.count - length l.words.items
