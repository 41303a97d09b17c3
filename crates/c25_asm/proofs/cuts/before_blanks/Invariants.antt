-- The blanks that are passed are at the end.
use Rattle.std.proofs.Common.{◌≡◌, length}
use Rattle.c25_asm.specs.Cuts.{before_blanks}
use Rattle.c25_asm.proofs.cuts.before_blanks.Given as goal

abbrev pub invariant-loop-rest : goal.invariant-loop-rest
invariant-loop-rest l = before_blanks l.rest ≡ before_blanks l.text

abbrev pub decreases-loop-rest : goal.decreases-loop-rest
decreases-loop-rest l = length l.rest
