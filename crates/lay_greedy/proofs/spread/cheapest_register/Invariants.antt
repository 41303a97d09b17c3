-- The best register so far.
use Rattle.std.proofs.Common.{◌≡◌}
use Rattle.lay_greedy.specs.Spread.{with_scalar_at}
use Rattle.lay_greedy.proofs.Spreads.{IsBest, cost_placed}
use Rattle.lay_greedy.proofs.spread.cheapest_register.Given as goal

abbrev pub invariant-loop-register : goal.invariant-loop-register
invariant-loop-register l = record {
  best : IsBest l.seq l.lists l.scalar l.register l.best;
  least : l.least ≡ cost_placed l.seq (with_scalar_at l.scalar l.lists l.best);
}
