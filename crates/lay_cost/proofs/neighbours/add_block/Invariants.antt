-- The pairs of the accesses so far, and the last one of them.
use Rattle.std.proofs.Common.{◌≡◌, ◌<◌, None, filter, take}
use Rattle.std.specs.Prelude.{IfSome}
use Rattle.std.specs.List.{last_or}
use Rattle.lay_cost.specs.Restricted.{in_bits}
use Rattle.lay_cost.specs.Memory.{HasBlock}
use Rattle.lay_cost.proofs.neighbours.add_block.Given as goal

abbrev pub invariant-loop-scalar : goal.invariant-loop-scalar
invariant-loop-scalar l = record {
  last : l.last ≡ last_or None (filter (in_bits l.set) (take l.scalar-index l.accesses));
  small : IfSome l.last (λ s. s < 64);
  so_far : HasBlock l.fn.weights l.weights (filter (in_bits l.set) (take l.scalar-index l.accesses)) l.weight;
}
