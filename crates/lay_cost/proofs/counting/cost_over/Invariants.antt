-- The cost of the blocks so far, of which each is at most its accesses that count.
use Rattle.std.proofs.Common.{◌≡◌, ◌≤◌, ◌*◌, take, filter, sum_by}
use Rattle.lay_model.specs.Sequences.{counted}
use Rattle.lay_cost.specs.Cost.{block_cost}
use Rattle.lay_cost.specs.Memory.{placement_in, is_placed}
use Rattle.lay_cost.proofs.counting.cost_over.Given as goal

abbrev pub invariant-loop-index : goal.invariant-loop-index
invariant-loop-index l = record {
  so_far : l.cost ≡ sum_by (λ b. b.weight * block_cost l.step (placement_in l.places.places) (filter (is_placed l.places.places) b.accesses)) (take l.index l.seq.blocks);
  few : l.cost ≤ sum_by counted (take l.index l.seq.blocks);
}
