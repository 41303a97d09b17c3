use Rattle.std.proofs.Common.{◌∙◌, sym, arith}
use Rattle.cc_check.proofs.BlockLemmas.{access_same, access_differs}
use Rattle.cc_check.proofs.blocks.are_accessed.Goals as goal

pub returns-then-address-from : goal.returns-then-address-from
returns-then-address-from c =
    let table = c.args.addresses.now.table in
    sym (access_differs table c.args.accesses.now c.args.walked.now c.loop-index.index c.address.result c.from.result (omega arith) (omega arith) c.address.ensures c.from.ensures (λ e. absurd (omega (arith, e)))) ∙ c.loop-index.invariant

pub loop-index-preserved : goal.loop-index-preserved
loop-index-preserved c =
    let table = c.args.addresses.now.table in
    access_same table c.args.accesses.now c.args.walked.now c.loop-index.index c.address.result c.from.result (omega arith) (omega arith) c.address.ensures c.from.ensures (omega arith) ∙ c.loop-index.invariant
