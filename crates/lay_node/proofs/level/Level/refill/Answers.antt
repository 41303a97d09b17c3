-- All weights together are small.
use Rattle.std.proofs.Common.{◌≡◌, arith}
use Rattle.lay_cost.specs.Restricted.{in_bits}
use Rattle.lay_cost.specs.Weights.{weight_at}
use Rattle.lay_node.specs.Levels.{is_free}
use Rattle.lay_node.proofs.Sizes.{table_small, greatest_small}
use Rattle.lay_node.proofs.level.Level.refill.Goals as goal

pub find_greatest-requires-clause-fits : goal.find_greatest-requires-clause-fits
find_greatest-requires-clause-fits c =
    let seq = c.args.seq.now in
    let table = c.refill.new.self in
    let small = table_small seq (in_bits c.args.outside) table c.scalars.ensures.sequence c.refill.ensures in
    let few = greatest_small (weight_at table) (is_free c.args.placed.now) seq.scalars in
    let scalars : c.scalars.result ≡ seq.scalars = c.scalars.ensures.scalars in
    rw scalars (omega (arith, small, few))
