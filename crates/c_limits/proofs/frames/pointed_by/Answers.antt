use Rattle.std.proofs.Common.{ap, length, arith}
use Rattle.std.proofs.lemmas.List.{take_at}
use Rattle.c_limits.proofs.FramesLemmas.{marks_further}
use Rattle.c_limits.proofs.frames.pointed_by.Goals as goal

pub loop-found-preserved : goal.loop-found-preserved
loop-found-preserved c =
    marks_further c.args.uses.now c.loop-found.found-index c.args.count _ c.loop-found-test.true c.deref_mut.ensures.value c.mark.auto.marks
    (take_at _ _ _ (omega (arith, c.mark.auto.marks, c.loop-found.marks.ok, ap length c.deref_mut.ensures.value))) c.loop-found.invariant c.mark.ensures
