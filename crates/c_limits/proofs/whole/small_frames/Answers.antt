use Rattle.std.proofs.Common.{◌∙◌}
use Rattle.c_limits.proofs.WholeLemmas.{uses_at, counted_at}
use Rattle.c_limits.proofs.whole.small_frames.Goals as goal

pub small_frame-requires-clause-counted : goal.small_frame-requires-clause-counted
small_frame-requires-clause-counted c = counted_at c.args.functions.now c.loop-n.n c.index-functions-n.result c.requires.counted c.index-functions-n.is c.loop-n-test.true

pub small_frame-requires-clause-uses : goal.small_frame-requires-clause-uses
small_frame-requires-clause-uses c =
    c.deref.ensures.value
    ∙ uses_at c.args.functions.now c.args.uses.now c.loop-n.n c.index-functions-n.result c.index-uses-n.result c.requires.uses c.loop-n-test.true c.index-functions-n.is c.index-uses-n.is
