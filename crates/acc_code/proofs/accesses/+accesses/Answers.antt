use Rattle.acc_code.specs.AccSequence.{accesses, cut}
use Rattle.acc_code.specs.AccView.{item_list}
use Rattle.acc_code.proofs.Gathering.{then_gathered, gathered_further, if_items, if_gathered, loop_items, loop_gathered, switch_items, switch_gathered}
use Rattle.acc_code.proofs.accesses.+accesses.Goals as goal

pub list-loop-x-preserved : goal.list-loop-x-preserved
list-loop-x-preserved t c =
    gathered_further _ _ _ _ _ _ c.args.items.now c.loop-x.x-index c.x-item.result c.x-item.is c.loop-x-test.true c.loop-x.invariant c.in_ok-item.ensures

pub part-returns : goal.part-returns
part-returns t c = then_gathered _ _ _ _ _ _ (accesses (item_list c.args.items.now)) cut c.cut.result c.in_ok-list.ensures c.cut.ensures

pub item-returns-in_ok-part-in-If : goal.item-returns-in_ok-part-in-If
item-returns-in_ok-part-in-If t c =
    if_gathered c.part-in-If.result _ _ _ _ _ _ _ _ c.args.x.now c.in-If.test (item_list c.deref.result.now) (item_list c.deref-in-If.result.now)
    (if_items c.args.x.now c.in-If.test c.in-If.yes c.in-If.no c.deref.result.now c.deref-in-If.result.now c.in-If.is c.deref.ensures.value c.deref-in-If.ensures.value)
    c.in_ok-cut-in-If.ensures c.in_ok-part-in-If.ensures c.part-in-If.ensures

pub item-returns-in_ok-part-in-Loop-2 : goal.item-returns-in_ok-part-in-Loop-2
item-returns-in_ok-part-in-Loop-2 t c =
    loop_gathered c.part-in-Loop-3.result _ _ _ _ _ _ _ _ _ _ c.args.x.now c.in-Loop.test_last (item_list c.deref-in-Loop.result.now) (item_list c.deref-in-Loop-2.result.now) (item_list c.deref-in-Loop-3.result.now)
    (loop_items c.args.x.now c.in-Loop.before c.in-Loop.body c.in-Loop.after c.in-Loop.test_last c.deref-in-Loop.result.now c.deref-in-Loop-2.result.now c.deref-in-Loop-3.result.now c.in-Loop.is c.deref-in-Loop.ensures.value c.deref-in-Loop-2.ensures.value c.deref-in-Loop-3.ensures.value)
    c.in_ok-cut-in-Loop.ensures c.in_ok-part-in-Loop.ensures c.in_ok-part-in-Loop-2.ensures c.part-in-Loop-3.ensures

pub item-returns-in_ok-cut-in-Switch : goal.item-returns-in_ok-cut-in-Switch
item-returns-in_ok-cut-in-Switch t c =
    switch_gathered c.part-in-Switch.result _ _ _ _ _ _ c.args.x.now c.in-Switch.cases.items (item_list c.deref-in-Switch.result.now)
    (switch_items c.args.x.now c.in-Switch.cases c.in-Switch.body c.deref-in-Switch.result.now c.in-Switch.is c.deref-in-Switch.ensures.value)
    c.in_ok-cut-in-Switch.ensures c.part-in-Switch.ensures
