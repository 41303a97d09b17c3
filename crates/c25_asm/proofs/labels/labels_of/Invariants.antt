-- The labels of the lines so far are kept.
use Rattle.std.proofs.Common.{length}
use Rattle.c25_asm.proofs.LabelLemmas.{LabelsSoFar}
use Rattle.c25_asm.proofs.labels.labels_of.Given as goal

abbrev pub invariant-loop-rest : goal.invariant-loop-rest
invariant-loop-rest l = LabelsSoFar l.text l.table l.place l.rest

abbrev pub decreases-loop-rest : goal.decreases-loop-rest
decreases-loop-rest l = length l.rest
