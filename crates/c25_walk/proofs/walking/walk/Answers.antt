use Rattle.std.proofs.Common.{arith}
use Rattle.std.proofs.lemmas.Result.{err_from_is_err_and}
use Rattle.c25_walk.specs.Walks.{walk_of}
use Rattle.c25_walk.proofs.Ends.{walked_blocks, bad_word, unknown_address, counted, placed_at, one_a_block}
use Rattle.c25_walk.proofs.walking.walk.Goals as goal

pub returns-in_err-report-clause-fault : goal.returns-in_err-report-clause-fault
returns-in_err-report-clause-fault c =
    let p = err_from_is_err_and c.from_residual-in_err-report.result c.from_residual-in_err-report.ensures.1 in
    rw (p.1, p.2) (unknown_address (walk_of c.args.image.now c.args.function) _ c.in_ok-code.code.placed.items c.in_ok-code.code.fault _ c.function_words-first.ensures.walk c.in_ok-code.ensures.code (rw c.deref-2.ensures.value at c.in_err-report.ensures.fault))

pub returns-in-Some-clause-fault : goal.returns-in-Some-clause-fault
returns-in-Some-clause-fault c =
    bad_word (walk_of c.args.image.now c.args.function) _ c.in_ok-code.code.placed.items c.in_ok-code.code.fault c.in-Some.at c.function_words-first.ensures.walk c.in_ok-code.ensures.code c.in-Some.is (rw c.deref-2.ensures.value at c.in_ok-report.ensures.known)

pub returns-clause-blocks : goal.returns-clause-blocks
returns-clause-blocks c =
    walked_blocks (walk_of c.args.image.now c.args.function) _ c.in_ok-code.code.placed.items c.in_ok-code.code.fault _ c.function_words-first.ensures.walk c.in_ok-code.ensures.code c.in-None.is (rw c.deref-2.ensures.value at c.in_ok-report.ensures.known) (rw c.deref-2.ensures.value at c.in_ok-report.ensures.listed)

pub returns-clause-places : goal.returns-clause-places
returns-clause-places c = placed_at _ _ c.in_ok-code.code.placed.items c.in_ok-code.code.fault _ c.function_words-first.ensures.places c.in_ok-code.ensures.code (rw c.deref-2.ensures.value at c.in_ok-report.ensures.places)

pub returns-clause-one_each : goal.returns-clause-one_each
returns-clause-one_each c =
    let same = one_a_block c.in_ok-code.code.placed.items _ _ (rw c.deref-2.ensures.value at c.in_ok-report.ensures.places) (rw c.deref-2.ensures.value at c.in_ok-report.ensures.listed) in
    omega (arith, same)

pub returns-clause-count : goal.returns-clause-count
returns-clause-count c = counted _ _ c.in_ok-code.code.placed.items c.in_ok-code.code.fault _ c.function_words-first.ensures.count c.in_ok-code.ensures.code (rw c.deref-2.ensures.value at c.in_ok-report.ensures.count)
