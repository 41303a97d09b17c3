use Rattle.std.proofs.Common.{◌≡◌, ◌++◌, drop, map}
use Rattle.text_base.specs.Lines.{lines_text}
use Rattle.c25_image.specs.ImageText.{range_line}
use Rattle.c25_image.proofs.writing.push_ranges.Given as goal

abbrev pub invariant-loop-function : goal.invariant-loop-function
invariant-loop-function l = l.text.items ++ lines_text (map range_line (drop l.function-index l.functions)) ≡ l.initial.text.items ++ lines_text (map range_line l.functions)
