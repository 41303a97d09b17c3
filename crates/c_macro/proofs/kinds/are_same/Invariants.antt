use Rattle.std.proofs.Common.{◌≡◌, ◌↔◌, length}
use Rattle.c_macro.proofs.kinds.are_same.Given as goal

abbrev pub invariant-loop-first_a : goal.invariant-loop-first_a
invariant-loop-first_a l = (l.left ≡ l.right) ↔ (l.a ≡ l.b)

abbrev pub decreases-loop-first_a : goal.decreases-loop-first_a
decreases-loop-first_a l = length l.a
