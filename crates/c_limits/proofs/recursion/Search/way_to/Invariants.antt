use Rattle.std.proofs.Common.{◌≡◌, ◌<◌, ◌++◌, length, reverse, Some}
use Rattle.std.specs.Prelude.{IfSome}
use Rattle.c_limits.specs.Trails.{trail_of}
use Rattle.c_limits.proofs.LinkLemmas.{before, rank}
use Rattle.c_limits.proofs.recursion.Search.way_to.Given as goal

abbrev pub invariant-loop-next : goal.invariant-loop-next
invariant-loop-next l = record {
  within : IfSome l.next (λ p. p < length l.self.steps.items);
  rest : before (trail_of l.self.steps.items) l.first l.next ++ reverse l.way.items ≡ before (trail_of l.self.steps.items) l.first (Some l.fn.place);
}

abbrev pub decreases-loop-next : goal.decreases-loop-next
decreases-loop-next l = rank l.next
