use Rattle.std.proofs.Common.{take}
use Rattle.lay_lines.specs.MarkText.{JoinsMarks}
use Rattle.lay_lines.proofs.marks.push_marks.Given as goal

abbrev pub invariant-loop-byte : goal.invariant-loop-byte
invariant-loop-byte l = JoinsMarks (take l.byte-index l.line) l.initial.marks.items l.marks.items
