-- One more weight.
use Rattle.std.proofs.Common.{arith, ◌∙◌, ap₂, sym, ◌+◌}
use Rattle.lay_cost.specs.Weights.{weight_at}
use Rattle.lay_node.proofs.Ranges.{sum_range_more, sum_range_fits}
use Rattle.lay_node.proofs.level.Level.total_below.Goals as goal

pub overflow_add-total : goal.overflow_add-total
overflow_add-total c = omega (arith, sum_range_fits (λ low. weight_at c.args.self.now.weights low c.args.high) c.loop-low.low c.args.high c.loop-low-test.true, c.at-total.ensures, c.loop-low.invariant, c.requires.fits)

pub loop-low-preserved : goal.loop-low-preserved
loop-low-preserved c = ap₂ (λ a b. a + b) c.loop-low.invariant c.at-total.ensures ∙ sym (sum_range_more (λ low. weight_at c.args.self.now.weights low c.args.high) c.loop-low.low)
