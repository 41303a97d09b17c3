-- The blocks so far are all of them.
use Rattle.std.proofs.Common.{◌≡◌, ◌*◌, filter, sum_by, arith}
use Rattle.std.proofs.lemmas.Grind.{common_steps}
use Rattle.lay_cost.specs.Cost.{block_cost}
use Rattle.lay_cost.specs.Memory.{placement_in, is_placed}
use Rattle.lay_cost.proofs.Bounds.{cost_of_restricted}
use Rattle.lay_cost.proofs.counting.cost_over.Goals as goal

pub returns-clause-cost : goal.returns-clause-cost
returns-clause-cost c =
    let table = c.args.places.now.places in
    let is : c.loop-index.cost ≡ sum_by (λ b. b.weight * block_cost c.args.seq.now.step (placement_in table) (filter (is_placed table) b.accesses)) c.args.seq.now.blocks = grind (arith, common_steps) in
    rw (cost_of_restricted c.args.seq.now (is_placed table) (placement_in table)) is
