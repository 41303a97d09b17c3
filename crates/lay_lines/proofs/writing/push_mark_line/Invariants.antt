use Rattle.std.proofs.Common.{◌≡◌, ◌++◌, drop}
use Rattle.lay_lines.specs.MarkText.{mark_bytes}
use Rattle.lay_lines.proofs.writing.push_mark_line.Given as goal

abbrev pub invariant-loop-mark : goal.invariant-loop-mark
invariant-loop-mark l = l.text.items ++ mark_bytes (drop l.mark-index l.marks) ≡ l.initial.text.items ++ mark_bytes l.marks
