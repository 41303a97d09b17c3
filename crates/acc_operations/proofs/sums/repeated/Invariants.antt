use Rattle.acc_operations.specs.Appended.{Appends}
use Rattle.acc_operations.specs.Sums as sums
use Rattle.acc_operations.specs.Words as word
use Rattle.acc_operations.proofs.sums.repeated.Given as goal

abbrev pub invariant-loop-turn : goal.invariant-loop-turn
invariant-loop-turn l = Appends l.initial.code.items l.code.items (sums.repeated l._turn (word.bare l.op))
