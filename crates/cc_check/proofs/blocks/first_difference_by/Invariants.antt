-- The blocks so far agree.
use Rattle.std.proofs.Common.{◌≡◌, map, slice_index}
use Rattle.cc_check.specs.Findings.{first_difference}
use Rattle.cc_check.proofs.BlockLemmas.{difference_from}
use Rattle.cc_check.proofs.blocks.first_difference_by.Given as goal

abbrev pub invariant-loop-index : goal.invariant-loop-index
invariant-loop-index l =
    let all = map (λ b. map (slice_index l.addresses.table) b.accesses) l.blocks in
    difference_from l.index all l.walked ≡ first_difference all l.walked
