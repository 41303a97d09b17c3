use Rattle.std.proofs.Common.{refl, arith}
use Rattle.lay_lines.proofs.MarkLines.{no_marks}
use Rattle.lay_lines.proofs.marks.push_marks.Goals as goal

pub returns-in_default : goal.returns-in_default
returns-in_default c = no_marks c.args.line.now c.loop-byte.byte-index _ (omega arith) refl c.in_default.ensures
