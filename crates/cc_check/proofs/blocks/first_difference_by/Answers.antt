use Rattle.std.proofs.Common.{◌≡◌, ◌<◌, ◌∙◌, ap, min, true, false, length, map, slice_index, sym, arith, rules}
use Rattle.std.proofs.lemmas.Grind.{common_steps}
use Rattle.std.proofs.lemmas.List.{length-map}
use Rattle.cc_check.proofs.BlockLemmas.{block_test, block_more, block_differs, one_over}
use Rattle.cc_check.proofs.blocks.first_difference_by.Goals as goal

pub returns-then-not-are_accessed : goal.returns-then-not-are_accessed
returns-then-not-are_accessed c =
    let table = c.args.addresses.now.table in
    let bs = c.args.blocks.now in
    let ws = c.args.walked.now in
    let i = c.loop-index.index in
    let w = c.index-walked-index.result in
    let all = map (λ b. map (slice_index table) b.accesses) bs in
    let l : i < length bs = grind (arith, common_steps) in
    let m : i < length ws = grind (arith, common_steps) in
    let no : c.are_accessed.result ≡ false = search rules in
    block_differs all ws i w (omega (arith, length-map bs (λ b. map (slice_index table) b.accesses))) m (block_test table bs ws i w c.accesses.result.now c.addresses.result.now c.are_accessed.result l c.accesses.ensures c.index-walked-index.is c.addresses.ensures.addresses c.are_accessed.ensures ∙ no) ∙ c.loop-index.invariant

pub loop-index-preserved : goal.loop-index-preserved
loop-index-preserved c =
    let table = c.args.addresses.now.table in
    let bs = c.args.blocks.now in
    let ws = c.args.walked.now in
    let i = c.loop-index.index in
    let w = c.index-walked-index.result in
    let all = map (λ b. map (slice_index table) b.accesses) bs in
    let l : i < length bs = grind (arith, common_steps) in
    let m : i < length ws = grind (arith, common_steps) in
    let yes : c.are_accessed.result ≡ true = search rules in
    block_more all ws i w (omega (arith, length-map bs (λ b. map (slice_index table) b.accesses))) m (block_test table bs ws i w c.accesses.result.now c.addresses.result.now c.are_accessed.result l c.accesses.ensures c.index-walked-index.is c.addresses.ensures.addresses c.are_accessed.ensures ∙ yes) ∙ c.loop-index.invariant

pub returns-else-len-walked : goal.returns-else-len-walked
returns-else-len-walked c =
    let table = c.args.addresses.now.table in
    let bs = c.args.blocks.now in
    let ws = c.args.walked.now in
    let all = map (λ b. map (slice_index table) b.accesses) bs in
    let size : length all ≡ length bs = length-map bs (λ b. map (slice_index table) b.accesses) in
    one_over all ws c.loop-index.index c.min-common.result (c.min-common.ensures ∙ ap (λ n. min n (length ws)) (c.len.ensures ∙ sym size)) c.loop-index-test.false (omega arith) (λ e. c.if-len-walked.false (c.len-2.ensures ∙ sym size ∙ e)) ∙ c.loop-index.invariant
