-- The lists so far have their addresses.
use Rattle.std.proofs.Common.{◌≡◌, length, drop, replicate}
use Rattle.cc_check.specs.Memory.{with_lists}
use Rattle.cc_check.proofs.addresses.Addresses.of.Given as goal

abbrev pub invariant-loop-index : goal.invariant-loop-index
invariant-loop-index l = record {
  so_far : with_lists l.addresses.table (drop l.index l.bases) (drop l.index l.lists) ≡ with_lists (replicate 64 0) l.bases l.lists;
  size : length l.addresses.table ≡ 64;
}
