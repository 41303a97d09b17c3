-- What was added up so far is small.
use Rattle.std.proofs.Common.{take, arith, ◌^◌}
use Rattle.std.proofs.lemmas.List.Sums.{sum_by-take-le}
use Rattle.lay_model.specs.Sequences.{counted}
use Rattle.lay_cost.specs.Restricted.{in_bits}
use Rattle.lay_cost.proofs.Pairs.{small_table, corner_so_far}
use Rattle.lay_cost.proofs.neighbours.add_blocks.Goals as goal

pub add_block-requires-clause-room : goal.add_block-requires-clause-room
add_block-requires-clause-room c =
    let seq = c.args.seq.now in
    small_table (in_bits c.args.set) (take c.loop-index.index seq.blocks) c.loop-index.weights (2 ^ 62) c.loop-index.invariant (omega (arith, sum_by-take-le counted seq.blocks c.loop-index.index, c.scalars-few.ensures.sequence.countable))

pub returns-clause-corner : goal.returns-clause-corner
returns-clause-corner c = corner_so_far c.args.seq.now (in_bits c.args.set) c.loop-index.index c.loop-index.weights c.scalars-few.ensures.sequence c.loop-index.invariant
