use Rattle.std.proofs.Common.{◌≡◌, ◌++◌, length}
use Rattle.text_base.specs.Lines.{lines_text}
use Rattle.c25_image.specs.ImageText.{word_lines, line_count}
use Rattle.c25_image.proofs.writing.push_words.Given as goal

abbrev pub invariant-loop-rest : goal.invariant-loop-rest
invariant-loop-rest l = l.text.items ++ lines_text (word_lines (line_count (length l.rest)) l.rest) ≡ l.initial.text.items ++ lines_text (word_lines (line_count (length l.words)) l.words)

abbrev pub decreases-loop-rest : goal.decreases-loop-rest
decreases-loop-rest l = length l.rest
