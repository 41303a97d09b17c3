-- The words of the lines so far stand before those of the others.
use Rattle.std.proofs.Common.{length}
use Rattle.c25_asm.specs.LabelView.{known}
use Rattle.c25_asm.proofs.WordLemmas.{WordsSoFar}
use Rattle.c25_asm.proofs.assembling.words_of.Given as goal

abbrev pub invariant-loop-rest : goal.invariant-loop-rest
invariant-loop-rest l = WordsSoFar (known l.labels) l.text l.words.items l.number l.rest

abbrev pub decreases-loop-rest : goal.decreases-loop-rest
decreases-loop-rest l = length l.rest
