-- The digits are read up to the rest.
use Rattle.std.proofs.Common.{length}
use Rattle.c25_asm.proofs.NumberLemmas.{DigitsSoFar}
use Rattle.c25_asm.proofs.numbers.digits.Given as goal

abbrev pub invariant-loop-first : goal.invariant-loop-first
invariant-loop-first l = DigitsSoFar l.base l.text l.value l.rest

abbrev pub decreases-loop-first : goal.decreases-loop-first
decreases-loop-first l = length l.rest
