use Rattle.std.proofs.Common.{length}
use Rattle.c_spellings.proofs.BlankLemmas.{PassesNoEnd}
use Rattle.c_spellings.proofs.blank.behind_end.Given as goal

abbrev pub invariant-loop-after : goal.invariant-loop-after
invariant-loop-after l = PassesNoEnd l.bytes l.rest

abbrev pub decreases-loop-after : goal.decreases-loop-after
decreases-loop-after l = length l.rest
