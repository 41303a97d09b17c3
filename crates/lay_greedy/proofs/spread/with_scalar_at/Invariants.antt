-- The lists so far.
use Rattle.std.proofs.Common.{◌≡◌, take}
use Rattle.lay_greedy.specs.Spread.{with_scalar_at}
use Rattle.lay_greedy.proofs.spread.with_scalar_at.Given as goal

abbrev pub invariant-loop-place : goal.invariant-loop-place
invariant-loop-place l = l.more.items ≡ take l.place (with_scalar_at l.scalar l.lists l.register)
