-- The blanks that are passed are in front.
use Rattle.std.proofs.Common.{◌≡◌, length}
use Rattle.c25_asm.specs.Cuts.{behind_blanks}
use Rattle.c25_asm.proofs.cuts.behind_blanks.Given as goal

abbrev pub invariant-loop-rest : goal.invariant-loop-rest
invariant-loop-rest l = behind_blanks l.rest ≡ behind_blanks l.text

abbrev pub decreases-loop-rest : goal.decreases-loop-rest
decreases-loop-rest l = length l.rest
