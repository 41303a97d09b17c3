use Rattle.std.proofs.Common.{rules}
use Rattle.c25_image.proofs.ImageLoops.{rows_more}
use Rattle.c25_image.proofs.reading.read_rows.Goals as goal

pub loop-words-preserved : goal.loop-words-preserved
loop-words-preserved c =
    rows_more c.args.bytes.now c.loop-words.rest.now c.in-Some.after.now c.args.count c.loop-words.line c.min-in_line.result c.loop-words.words.items c.next_row.new.words.items c.loop-words.invariant (search rules) (search rules) (rw c.in-Some.is at c.in_ok-after.ensures)
