use Rattle.acc_select.proofs.EndLemmas.{function_further}
use Rattle.acc_select.proofs.selection.functions.Goals as goal

pub loop-f-preserved : goal.loop-f-preserved
loop-f-preserved c =
    function_further c.args.list.now c.loop-f.f-index c.f-item.result c.loop-f.all.items c.push.new.self.items c.in_ok-function.field-0 c.f-item.is c.loop-f-test.true
    c.loop-f.invariant c.in_ok-push.ensures.items c.in_ok-function.ensures
