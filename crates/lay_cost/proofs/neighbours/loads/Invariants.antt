-- The loads of the blocks so far, each of which is at most its accesses that count.
use Rattle.std.proofs.Common.{◌≡◌, ◌≤◌, take, sum_by, if◌then◌else◌}
use Rattle.std.specs.List.{list_any}
use Rattle.lay_model.specs.Sequences.{counted}
use Rattle.lay_cost.specs.Restricted.{in_bits}
use Rattle.lay_cost.proofs.neighbours.loads.Given as goal

abbrev pub invariant-loop-index : goal.invariant-loop-index
invariant-loop-index l = record {
  so_far : l.loads ≡ sum_by (λ b. if list_any (in_bits l.set) b.accesses then b.weight else 0) (take l.index l.seq.blocks);
  few : l.loads ≤ sum_by counted (take l.index l.seq.blocks);
}
