use Rattle.acc_select.proofs.StatementLemmas.{label_further}
use Rattle.acc_select.proofs.statements.labels.Goals as goal

pub loop-c-preserved : goal.loop-c-preserved
loop-c-preserved c =
    label_further c.args.list.now c.loop-c.c-index c.c-item.result c.loop-c.all.items c.append_label.new.all.items c.c-item.is c.loop-c-test.true c.loop-c.invariant c.in_ok-append_label.ensures
