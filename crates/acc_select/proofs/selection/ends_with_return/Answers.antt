use Rattle.acc_select.proofs.EndLemmas.{last_so_far}
use Rattle.acc_select.proofs.selection.ends_with_return.Goals as goal

pub loop-item-preserved : goal.loop-item-preserved
loop-item-preserved c = last_so_far c.args.list.now c.loop-item.item-index c.item-item.result c.item-item.is c.loop-item-test.true c.is_return-ends.ensures
