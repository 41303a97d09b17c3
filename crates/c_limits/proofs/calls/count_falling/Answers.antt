use Rattle.std.proofs.Common.{◌<◌, ℕ, map, vec_items, arith, slice_index}
use Rattle.c_limits.proofs.CallsLemmas.{callees_at, callees_there, calls_further}
use Rattle.c_limits.proofs.calls.count_falling.Goals as goal

pub highest-requires : goal.highest-requires
highest-requires c =
    callees_there c.args.levels.now c.args.callees.now c.loop-n.n c.deref.result.now c.requires.size c.requires.bodies
    (callees_at c.args.callees.now c.loop-n.n c.index-callees-n.result c.deref.result.now c.loop-n-test.true c.index-callees-n.is c.deref.ensures.value)

pub loop-n-preserved : goal.loop-n-preserved
loop-n-preserved c =
    let levels = c.args.levels.now in
    let holds : ℕ → ℕ → Type 0 = λ k m. slice_index levels m < slice_index levels k in
    calls_further holds (map vec_items c.args.callees.now) c.loop-n.n c.deref.result.now c.loop-n.invariant
    (callees_at c.args.callees.now c.loop-n.n c.index-callees-n.result c.deref.result.now c.loop-n-test.true c.index-callees-n.is c.deref.ensures.value)
    (λ m found. let high = c.highest.ensures m found in omega (arith, high, c.if-highest-levels.false))
