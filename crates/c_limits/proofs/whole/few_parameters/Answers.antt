use Rattle.c_limits.proofs.WholeLemmas.{counted_at}
use Rattle.c_limits.proofs.whole.few_parameters.Goals as goal

pub counted-requires : goal.counted-requires
counted-requires c = (counted_at c.args.functions.now c.loop-f.f-index c.f-item.result c.requires c.f-item.is c.loop-f-test.true).parameters
