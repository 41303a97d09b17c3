-- One for each access at most.
use Rattle.std.proofs.Common.{arith}
use Rattle.lay_cost.specs.Memory.{placement_in, is_placed}
use Rattle.lay_cost.proofs.Bounds.{kept_cost_le}
use Rattle.lay_cost.proofs.counting.block_cost.Goals as goal

pub returns-then-step-gt1-clause-few : goal.returns-then-step-gt1-clause-few
returns-then-step-gt1-clause-few c =
    let table = c.args.places.now.places in
    omega (arith, c.cost_at_step.ensures, kept_cost_le c.args.step (placement_in table) (is_placed table) c.args.accesses.now)

pub returns-else-step-gt1-clause-few : goal.returns-else-step-gt1-clause-few
returns-else-step-gt1-clause-few c =
    let table = c.args.places.now.places in
    omega (arith, c.cost_at_one.ensures, kept_cost_le 1 (placement_in table) (is_placed table) c.args.accesses.now)
