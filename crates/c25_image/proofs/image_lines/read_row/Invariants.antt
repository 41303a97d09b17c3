use Rattle.std.proofs.Common.{length}
use Rattle.c25_image.proofs.Rows.{SoFar}
use Rattle.c25_image.proofs.image_lines.read_row.Given as goal

abbrev pub invariant-loop-word : goal.invariant-loop-word
invariant-loop-word l = SoFar l.line l.rest l.fn.words.items l.words.items

abbrev pub decreases-loop-word : goal.decreases-loop-word
decreases-loop-word l = length l.rest
