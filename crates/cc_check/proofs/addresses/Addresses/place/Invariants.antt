-- The scalars so far have their addresses.
use Rattle.std.proofs.Common.{◌≡◌, ◌+◌, length, drop}
use Rattle.cc_check.specs.Memory.{with_list}
use Rattle.cc_check.proofs.addresses.Addresses.place.Given as goal

abbrev pub invariant-loop-scalar : goal.invariant-loop-scalar
invariant-loop-scalar l = record {
  so_far : with_list l.self.table l.address (drop l.scalar-index l.scalars) ≡ with_list l.initial.self.table l.fn.base l.scalars;
  address : l.address ≡ l.fn.base + l.scalar-index;
  size : length l.self.table ≡ 64;
}
