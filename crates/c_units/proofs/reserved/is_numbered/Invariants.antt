use Rattle.std.proofs.Common.{◌≡◌, reverse, length}
use Rattle.c_units.specs.Statics as names
use Rattle.c_units.proofs.reserved.is_numbered.Given as goal

-- what follows are digits
abbrev pub invariant-loop-last : goal.invariant-loop-last
invariant-loop-last l = names.marked_before_digits (reverse l.front) ≡ names.marked_before_digits (reverse l.fn.text)

abbrev pub decreases-loop-last : goal.decreases-loop-last
decreases-loop-last l = length l.front
