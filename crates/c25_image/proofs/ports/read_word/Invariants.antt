use Rattle.c25_image.proofs.PortLines.{SpellsSoFar}
use Rattle.c25_image.proofs.ports.read_word.Given as goal

abbrev pub invariant-loop-digit : goal.invariant-loop-digit
invariant-loop-digit l = SpellsSoFar l.digits l.digit-index l.word
