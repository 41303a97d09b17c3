-- The scalars so far stand in the open list.
use Rattle.std.proofs.Common.{◌≡◌, ◌+◌, take, fold}
use Rattle.lay_cost.specs.Memory.{with_scalar}
use Rattle.lay_cost.proofs.places.Places.push_list.Given as goal

abbrev pub invariant-loop-scalar : goal.invariant-loop-scalar
invariant-loop-scalar l = record {
  so_far : l.self ≡ fold with_scalar l.initial.self (take l.scalar-index l.scalars);
  register : l.self.register ≡ l.initial.self.register;
  length : l.self.length ≡ l.initial.self.length + l.scalar-index;
}
