use Rattle.std.proofs.Common.{length}
use Rattle.c_macro.proofs.LineLemmas.{PassesBlanks}
use Rattle.c_macro.proofs.lines.after_blanks.Given as goal

abbrev pub invariant-loop-after : goal.invariant-loop-after
invariant-loop-after l = PassesBlanks l.text l.rest

abbrev pub decreases-loop-after : goal.decreases-loop-after
decreases-loop-after l = length l.rest
