-- What is left of both decides.
use Rattle.std.proofs.Common.{◌≡◌, drop, map, slice_index}
use Rattle.std.specs.Str.{bytes_eq}
use Rattle.cc_check.proofs.blocks.are_accessed.Given as goal

abbrev pub invariant-loop-index : goal.invariant-loop-index
invariant-loop-index l =
    let all = map (slice_index l.addresses.table) l.accesses in
    bytes_eq (drop l.index all) (drop l.index l.walked) ≡ bytes_eq all l.walked
