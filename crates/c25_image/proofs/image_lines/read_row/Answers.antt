use Rattle.c25_image.proofs.Rows.{row_end}
use Rattle.c25_image.proofs.image_lines.read_row.Goals as goal

pub returns : goal.returns
returns c = row_end c.args.line.now c.loop-word.rest.now c.args.words.now.items c.loop-word.words.items c.is_empty.result c.is_empty.ensures c.loop-word.invariant c.in_default-front_spaced.ensures
