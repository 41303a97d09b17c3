use Rattle.std.proofs.Common.{length}
use Rattle.c_spellings.proofs.DigitLemmas.{DigitsSoFar}
use Rattle.c_spellings.proofs.digits.digits_value.Given as goal

abbrev pub invariant-loop-first : goal.invariant-loop-first
invariant-loop-first l = DigitsSoFar l.radix l.text l.value l.rest

abbrev pub decreases-loop-first : goal.decreases-loop-first
decreases-loop-first l = length l.rest
