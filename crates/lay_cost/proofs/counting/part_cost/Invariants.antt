-- The places are those of the signs so far.
use Rattle.lay_cost.proofs.Strings.{State}
use Rattle.lay_cost.proofs.counting.part_cost.Given as goal

abbrev pub invariant-loop-sign : goal.invariant-loop-sign
invariant-loop-sign l = State l.node l.sign-index l.places
