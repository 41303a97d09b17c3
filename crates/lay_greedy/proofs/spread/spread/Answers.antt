-- The next scalar is above those that are placed.
use Rattle.std.proofs.Common.{◌∙◌}
use Rattle.lay_greedy.proofs.Spreads.{next_scalar, spread_more}
use Rattle.lay_greedy.proofs.spread.spread.Goals as goal

pub with_scalar_placed-requires-clause-some : goal.with_scalar_placed-requires-clause-some
with_scalar_placed-requires-clause-some c =
    (next_scalar c.args.registers c.args.seq.now c.loop-scalar.scalar c.deref.result.now c.requires (c.deref.ensures.value ∙ c.loop-scalar.invariant)).0

pub with_scalar_placed-requires-clause-next : goal.with_scalar_placed-requires-clause-next
with_scalar_placed-requires-clause-next c =
    (next_scalar c.args.registers c.args.seq.now c.loop-scalar.scalar c.deref.result.now c.requires (c.deref.ensures.value ∙ c.loop-scalar.invariant)).1

pub loop-scalar-preserved : goal.loop-scalar-preserved
loop-scalar-preserved c =
    spread_more c.args.registers c.args.seq.now c.loop-scalar.scalar c.deref.result.now c.in_ok-lists-2.lists.items (c.deref.ensures.value ∙ c.loop-scalar.invariant) c.in_ok-lists-2.ensures
