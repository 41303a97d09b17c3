use Rattle.std.proofs.Common.{◌≡◌, ◌++◌, length}
use Rattle.text_base.specs.Lines.{lines_text}
use Rattle.lay_lines.specs.MarkText.{mark_lines, line_count}
use Rattle.lay_lines.proofs.writing.push_mark_lines.Given as goal

abbrev pub invariant-loop-rest : goal.invariant-loop-rest
invariant-loop-rest l = l.text.items ++ lines_text (mark_lines (line_count (length l.rest)) l.rest) ≡ l.initial.text.items ++ lines_text (mark_lines (line_count (length l.marks)) l.marks)

abbrev pub decreases-loop-rest : goal.decreases-loop-rest
decreases-loop-rest l = length l.rest
