-- What is kept along the block.
use Rattle.std.proofs.Common.{ap, sym, subst, arith}
use Rattle.lay_cost.specs.declared.tally.Tally as memory
use Rattle.lay_cost.specs.Memory.{placement_in, is_placed, IsSpareKept, tally_of}
use Rattle.lay_cost.proofs.Tallies.{first_tally, spare_first, walked_more, walked_all}
use Rattle.lay_cost.proofs.counting.cost_at_step.Goals as goal

pub loop-scalar-init : goal.loop-scalar-init
loop-scalar-init c = record {
  walked = first_tally c.none-last.result.offsets c.no_access-tally.result c.none-last.ensures c.no_access-tally.ensures;
  spare = subst IsSpareKept (sym c.none-last.ensures) spare_first;
  within = omega (arith, ap (λ (t : memory.Tally). t.by_step) c.no_access-tally.ensures);
  few = omega (arith, ap (λ (t : memory.Tally). t.far) c.no_access-tally.ensures);
}

pub loop-scalar-preserved : goal.loop-scalar-preserved
loop-scalar-preserved c = record {
  walked = walked_more c.args.step c.args.places.now.places c.args.accesses.now c.loop-scalar.scalar-index 0 (tally_of c.loop-scalar.last.offsets c.loop-scalar.tally) _ c.get.result c.loop-scalar-test.true c.loop-scalar.invariant.walked c.get.ensures c.add_at_step.ensures.tally;
  spare = c.add_at_step.ensures.spare;
  within = c.add_at_step.ensures.within;
  few = omega (arith, c.loop-scalar.invariant.few, c.add_at_step.ensures.few);
}

pub returns : goal.returns
returns c =
    let table = c.args.places.now.places in
    walked_all c.args.step (placement_in table) (is_placed table) c.args.accesses.now c.loop-scalar.scalar-index c.cost.result (tally_of c.loop-scalar.last.offsets c.loop-scalar.tally) c.loop-scalar-test.false (c.cost.ensures c.loop-scalar.last.offsets) c.loop-scalar.invariant.walked
