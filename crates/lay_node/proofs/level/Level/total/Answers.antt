-- One more scalar with those below it.
use Rattle.std.proofs.Common.{arith, ◌∙◌, ap₂, sym, ◌+◌}
use Rattle.lay_cost.specs.Weights.{weight_at}
use Rattle.lay_node.proofs.Ranges.{pairs_more, pairs_fit}
use Rattle.lay_node.proofs.level.Level.total.Goals as goal

pub total_below-total-requires-clause-fits : goal.total_below-total-requires-clause-fits
total_below-total-requires-clause-fits c = omega (arith, pairs_fit (weight_at c.args.self.now.weights) c.loop-high.high c.args.scalars c.loop-high-test.true, c.requires.fits)

pub overflow_add-total : goal.overflow_add-total
overflow_add-total c = omega (arith, pairs_fit (weight_at c.args.self.now.weights) c.loop-high.high c.args.scalars c.loop-high-test.true, c.total_below-total.ensures, c.loop-high.invariant, c.requires.fits)

pub loop-high-preserved : goal.loop-high-preserved
loop-high-preserved c = ap₂ (λ a b. a + b) c.loop-high.invariant c.total_below-total.ensures ∙ sym (pairs_more (weight_at c.args.self.now.weights) c.loop-high.high)
