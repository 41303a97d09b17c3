use Rattle.std.proofs.Common.{◌≡◌, ◌+◌, ◌∙◌, ap, sym, subst, true, false, OnOk, IfOk, Some, None, ◌∷◌, length, rules}
use Rattle.std.proofs.lemmas.Result.{on_ok_weaker}
use Rattle.acc_code.specs.AccView.{item_list, item_of}
use Rattle.acc_code.specs.AccTree.{If, Loop, Switch}
use Rattle.acc_code.specs.Emittable.{Throughout, Within}
use Rattle.emit_control.specs.Emits.{Emits, IsRightItem, item_code, ends_with}
use Rattle.emit_control.specs.Flow.{emit, labels, item_labels, target, is_end}
use Rattle.emit_control.specs.Settings.{setting_of}
use Rattle.emit_control.proofs.Forms.{if_items, loop_items, switch_items, if_falls, loop_falls, switch_falls, nothing_left}
use Rattle.emit_control.proofs.Listing.{SoFar, run_is_right, begins, further, leaves, leaves_labels, ended, passes, ends_as}
use Rattle.emit_control.proofs.Structures.{two_targets, second_runs, first_runs, both_run, loop_runs, ends_without, ends_with_third, switch_runs}
use Rattle.emit_control.proofs.flow.+items.Goals as goal

pub both_parts-returns-clause-emits : goal.both_parts-returns-clause-emits
both_parts-returns-clause-emits t c =
    on_ok_weaker c.list-2.result
    (both_run (setting_of c.args.setting.now) c.args.code.now c.branch-code.new.self c.list.new.code c.place.new.self c.list-2.new.code c.args.test c.opposite.result
    (item_list c.args.yes.now) (item_list c.args.no.now) c.args.spot.ways c.args.spot.base c.args.spot.next c.in_ok-other.other c.in_ok-first.first c.in_ok-base.base
    c.opposite.ensures c.in_ok-other.ensures c.in_ok-first.ensures c.in_ok-base.ensures.behind (c.in_ok-branch.ensures (setting_of c.args.setting.now)) c.in_ok-base.ensures.emits
    (c.in_ok-place.ensures (setting_of c.args.setting.now)))
    c.list-2.ensures.emits

pub item-if_item-requires : goal.item-if_item-requires
item-if_item-requires t c =
    let is : item_of c.args.x.now ≡ If c.in-If.test (item_list c.deref.result.now) (item_list c.deref-in-If.result.now) = (if_items c.args.x.now c.in-If.test c.in-If.yes c.in-If.no c.deref.result.now c.deref-in-If.result.now c.in-If.is c.deref.ensures.value c.deref-in-If.ensures.value) in
    let right : Within IsRightItem (If c.in-If.test (item_list c.deref.result.now) (item_list c.deref-in-If.result.now)) = subst (Within IsRightItem) is c.requires.right in (
      if_falls (item_of c.args.x.now) c.in-If.test (item_list c.deref.result.now) (item_list c.deref-in-If.result.now) t c.decreases is,
      (right.0, (right.1, c.requires.registers)),
    )

pub item-loop_item-requires : goal.item-loop_item-requires
item-loop_item-requires t c =
    let is : item_of c.args.x.now ≡ Loop (item_list c.deref-in-Loop.result.now) (item_list c.deref-in-Loop-2.result.now) (item_list c.deref-in-Loop-3.result.now) c.in-Loop.test_last = (loop_items c.args.x.now c.in-Loop.before c.in-Loop.body c.in-Loop.after c.in-Loop.test_last c.deref-in-Loop.result.now c.deref-in-Loop-2.result.now c.deref-in-Loop-3.result.now c.in-Loop.is c.deref-in-Loop.ensures.value c.deref-in-Loop-2.ensures.value c.deref-in-Loop-3.ensures.value) in
    let right : Within IsRightItem (Loop (item_list c.deref-in-Loop.result.now) (item_list c.deref-in-Loop-2.result.now) (item_list c.deref-in-Loop-3.result.now) c.in-Loop.test_last) = subst (Within IsRightItem) is c.requires.right in (
      loop_falls (item_of c.args.x.now) (item_list c.deref-in-Loop.result.now) (item_list c.deref-in-Loop-2.result.now) (item_list c.deref-in-Loop-3.result.now) c.in-Loop.test_last t c.decreases is,
      (right.0, (right.1, (right.2, c.requires.registers))),
    )

pub item-switch_item-requires : goal.item-switch_item-requires
item-switch_item-requires t c =
    let is : item_of c.args.x.now ≡ Switch c.deref-in-Switch.result.now (item_list c.deref-in-Switch-2.result.now) = (switch_items c.args.x.now c.in-Switch.cases c.in-Switch.body c.deref-in-Switch.result.now c.deref-in-Switch-2.result.now c.in-Switch.is c.deref-in-Switch.ensures.value c.deref-in-Switch-2.ensures.value) in
    let right : Within IsRightItem (Switch c.deref-in-Switch.result.now (item_list c.deref-in-Switch-2.result.now)) = subst (Within IsRightItem) is c.requires.right in (
      switch_falls (item_of c.args.x.now) c.deref-in-Switch.result.now (item_list c.deref-in-Switch-2.result.now) t c.decreases is,
      (right, c.requires.registers),
    )

pub item-returns-in-If-clause-emits : goal.item-returns-in-If-clause-emits
item-returns-in-If-clause-emits t c =
    subst (λ i. OnOk c.if_item.result (Emits (setting_of c.args.setting.now) c.args.code.now (item_code i c.args.spot.ways c.args.spot.base c.args.spot.next) c.if_item.new.code)) (sym (if_items c.args.x.now c.in-If.test c.in-If.yes c.in-If.no c.deref.result.now c.deref-in-If.result.now c.in-If.is c.deref.ensures.value c.deref-in-If.ensures.value)) c.if_item.ensures.emits

pub item-returns-in-If-clause-behind : goal.item-returns-in-If-clause-behind
item-returns-in-If-clause-behind t c =
    subst (λ i. IfOk c.if_item.result (λ l. l ≡ c.args.spot.base + item_labels i)) (sym (if_items c.args.x.now c.in-If.test c.in-If.yes c.in-If.no c.deref.result.now c.deref-in-If.result.now c.in-If.is c.deref.ensures.value c.deref-in-If.ensures.value)) c.if_item.ensures.behind

pub item-returns-in-Loop-clause-emits : goal.item-returns-in-Loop-clause-emits
item-returns-in-Loop-clause-emits t c =
    subst (λ i. OnOk c.loop_item.result (Emits (setting_of c.args.setting.now) c.args.code.now (item_code i c.args.spot.ways c.args.spot.base c.args.spot.next) c.loop_item.new.code)) (sym (loop_items c.args.x.now c.in-Loop.before c.in-Loop.body c.in-Loop.after c.in-Loop.test_last c.deref-in-Loop.result.now c.deref-in-Loop-2.result.now c.deref-in-Loop-3.result.now c.in-Loop.is c.deref-in-Loop.ensures.value c.deref-in-Loop-2.ensures.value c.deref-in-Loop-3.ensures.value)) c.loop_item.ensures.emits

pub item-returns-in-Loop-clause-behind : goal.item-returns-in-Loop-clause-behind
item-returns-in-Loop-clause-behind t c =
    subst (λ i. IfOk c.loop_item.result (λ l. l ≡ c.args.spot.base + item_labels i)) (sym (loop_items c.args.x.now c.in-Loop.before c.in-Loop.body c.in-Loop.after c.in-Loop.test_last c.deref-in-Loop.result.now c.deref-in-Loop-2.result.now c.deref-in-Loop-3.result.now c.in-Loop.is c.deref-in-Loop.ensures.value c.deref-in-Loop-2.ensures.value c.deref-in-Loop-3.ensures.value)) c.loop_item.ensures.behind

pub item-returns-in-Switch-clause-emits : goal.item-returns-in-Switch-clause-emits
item-returns-in-Switch-clause-emits t c =
    subst (λ i. OnOk c.switch_item.result (Emits (setting_of c.args.setting.now) c.args.code.now (item_code i c.args.spot.ways c.args.spot.base c.args.spot.next) c.switch_item.new.code)) (sym (switch_items c.args.x.now c.in-Switch.cases c.in-Switch.body c.deref-in-Switch.result.now c.deref-in-Switch-2.result.now c.in-Switch.is c.deref-in-Switch.ensures.value c.deref-in-Switch-2.ensures.value)) c.switch_item.ensures.emits

pub item-returns-in-Switch-clause-behind : goal.item-returns-in-Switch-clause-behind
item-returns-in-Switch-clause-behind t c =
    subst (λ i. IfOk c.switch_item.result (λ l. l ≡ c.args.spot.base + item_labels i)) (sym (switch_items c.args.x.now c.in-Switch.cases c.in-Switch.body c.deref-in-Switch.result.now c.deref-in-Switch-2.result.now c.in-Switch.is c.deref-in-Switch.ensures.value c.deref-in-Switch-2.ensures.value)) c.switch_item.ensures.behind

pub list-run-requires : goal.list-run-requires
list-run-requires t c =
    record { operations = run_is_right (item_list c.args.items.now) c.requires.right; registers = c.requires.registers }

pub list-loop-first-init : goal.list-loop-first-init
list-loop-first-init t c =
    begins (setting_of c.args.setting.now) c.args.code.now c.run.new.self (item_list c.args.items.now) (item_list c.in_ok-rest.rest.now) c.args.spot c.in_ok-rest.ensures.emits c.in_ok-rest.ensures.behind c.requires.right

pub list-returns-then-ends-clause-emits : goal.list-returns-then-ends-clause-emits
list-returns-then-ends-clause-emits t c =
    let split : c.loop-first.rest.now ≡ c.in-Some.first.now ∷ c.in-Some.behind.now = search rules in
    let ends : ends_with c.of-ending.result c.is_end-last.result ≡ true = sym c.if-ends.ensures in
    leaves (setting_of c.args.setting.now) c.args.code.now c.loop-first.code c.place_behind.new.self (item_list c.args.items.now) c.args.spot c.loop-first.base c.in_ok-next.next (item_of c.in-Some.first.now) (item_list c.in-Some.behind.now)
    (subst (λ l. SoFar (setting_of c.args.setting.now) c.args.code.now (item_list c.args.items.now) c.args.spot c.loop-first.code c.loop-first.base (item_list l)) split c.loop-first.invariant)
    (passes (setting_of c.args.setting.now) c.loop-first.code c.item.new.code c.place_behind.new.self (item_of c.in-Some.first.now) (item_list c.in-Some.behind.now) c.args.spot c.of_item.result c.loop-first.base c.in_ok-next.next
    c.is_end-last.result c.of-ending.result c.is_end-last.ensures c.of_item.ensures c.of-ending.ensures c.in_ok-next.ensures.emits c.in_ok-next.ensures.behind (c.in_ok-place_behind.ensures (setting_of c.args.setting.now)))
    (ends_as (item_of c.in-Some.first.now) (item_list c.in-Some.behind.now) c.is_end-last.result c.of-ending.result true c.is_end-last.ensures c.of-ending.ensures ends)

pub list-returns-then-ends-clause-behind : goal.list-returns-then-ends-clause-behind
list-returns-then-ends-clause-behind t c =
    let split : c.loop-first.rest.now ≡ c.in-Some.first.now ∷ c.in-Some.behind.now = search rules in
    let ends : ends_with c.of-ending.result c.is_end-last.result ≡ true = sym c.if-ends.ensures in
    leaves_labels (setting_of c.args.setting.now) c.args.code.now c.loop-first.code c.place_behind.new.self (item_list c.args.items.now) c.args.spot c.loop-first.base c.in_ok-next.next (item_of c.in-Some.first.now) (item_list c.in-Some.behind.now)
    (subst (λ l. SoFar (setting_of c.args.setting.now) c.args.code.now (item_list c.args.items.now) c.args.spot c.loop-first.code c.loop-first.base (item_list l)) split c.loop-first.invariant)
    (passes (setting_of c.args.setting.now) c.loop-first.code c.item.new.code c.place_behind.new.self (item_of c.in-Some.first.now) (item_list c.in-Some.behind.now) c.args.spot c.of_item.result c.loop-first.base c.in_ok-next.next
    c.is_end-last.result c.of-ending.result c.is_end-last.ensures c.of_item.ensures c.of-ending.ensures c.in_ok-next.ensures.emits c.in_ok-next.ensures.behind (c.in_ok-place_behind.ensures (setting_of c.args.setting.now)))
    (ends_as (item_of c.in-Some.first.now) (item_list c.in-Some.behind.now) c.is_end-last.result c.of-ending.result true c.is_end-last.ensures c.of-ending.ensures ends)

pub list-run-requires-in-Some : goal.list-run-requires-in-Some
list-run-requires-in-Some t c =
    let split : c.loop-first.rest.now ≡ c.in-Some.first.now ∷ c.in-Some.behind.now = search rules in
    let right : Throughout IsRightItem (item_list (c.in-Some.first.now ∷ c.in-Some.behind.now)) = subst (λ l. Throughout IsRightItem (item_list l)) split c.loop-first.invariant.right in
    record { operations = run_is_right (item_list c.in-Some.behind.now) right.2; registers = c.requires.registers }

pub list-loop-first-preserved : goal.list-loop-first-preserved
list-loop-first-preserved t c =
    let split : c.loop-first.rest.now ≡ c.in-Some.first.now ∷ c.in-Some.behind.now = search rules in
    let ends : ends_with c.of-ending.result c.is_end-last.result ≡ false = sym c.if-ends.ensures in
    further (setting_of c.args.setting.now) c.args.code.now c.loop-first.code c.place_behind.new.self c.run-in-Some.new.self (item_list c.args.items.now) c.args.spot c.loop-first.base c.in_ok-next.next (item_of c.in-Some.first.now) (item_list c.in-Some.behind.now)
    (item_list c.in_ok-rest-2.rest.now)
    (subst (λ l. SoFar (setting_of c.args.setting.now) c.args.code.now (item_list c.args.items.now) c.args.spot c.loop-first.code c.loop-first.base (item_list l)) split c.loop-first.invariant)
    (passes (setting_of c.args.setting.now) c.loop-first.code c.item.new.code c.place_behind.new.self (item_of c.in-Some.first.now) (item_list c.in-Some.behind.now) c.args.spot c.of_item.result c.loop-first.base c.in_ok-next.next
    c.is_end-last.result c.of-ending.result c.is_end-last.ensures c.of_item.ensures c.of-ending.ensures c.in_ok-next.ensures.emits c.in_ok-next.ensures.behind (c.in_ok-place_behind.ensures (setting_of c.args.setting.now)))
    (ends_as (item_of c.in-Some.first.now) (item_list c.in-Some.behind.now) c.is_end-last.result c.of-ending.result false c.is_end-last.ensures c.of-ending.ensures ends) c.in_ok-rest-2.ensures.emits c.in_ok-rest-2.ensures.behind

pub list-returns-clause-emits : goal.list-returns-clause-emits
list-returns-clause-emits t c =
    let none : length c.loop-first.rest.now ≡ 0 = search rules in
    ended (setting_of c.args.setting.now) c.args.code.now c.loop-first.code c.goto_unless_next.new.self (item_list c.args.items.now) (item_list c.loop-first.rest.now) c.args.spot c.loop-first.base c.loop-first.invariant (nothing_left c.loop-first.rest.now none)
    (c.in_ok-goto_unless_next.ensures (setting_of c.args.setting.now))

pub loop_end-returns-then-is_end-clause-emits : goal.loop_end-returns-then-is_end-clause-emits
loop_end-returns-then-is_end-clause-emits t c =
    let none : is_end (item_list c.args.third.now) ≡ true = sym c.if-is_end.ensures in
    ends_without (setting_of c.args.setting.now) c.args.code.now c.close.new.self (item_list c.args.third.now) c.args.base c.in_ok-head.head c.args.spot none c.in_ok-head.ensures (c.in_ok-close.ensures (setting_of c.args.setting.now))

pub loop_end-returns-clause-emits : goal.loop_end-returns-clause-emits
loop_end-returns-clause-emits t c =
    let some : is_end (item_list c.args.third.now) ≡ false = sym c.if-is_end.ensures in
    ends_with_third (setting_of c.args.setting.now) c.args.code.now c.place.new.self c.list.new.code c.close-2.new.self (item_list c.args.third.now) c.args.base c.in_ok-head.head c.in_ok-label.field-0 c.args.spot c.in_ok-third_part.field-0
    some c.in_ok-head.ensures c.in_ok-label.ensures c.in_ok-third_part.ensures (c.in_ok-place.ensures (setting_of c.args.setting.now)) c.in_ok-end.ensures.emits (c.in_ok-close-2.ensures (setting_of c.args.setting.now))

pub loop_item-returns-clause-emits : goal.loop_item-returns-clause-emits
loop_item-returns-clause-emits t c =
    on_ok_weaker c.loop_end.result
    (loop_runs (setting_of c.args.setting.now) c.args.code.now c.head.new.self c.list.new.code c.place.new.self c.list-2.new.code c.loop_end.new.code (item_list c.args.before.now) (item_list c.args.body.now) (item_list c.args.third.now)
    c.args.spot c.in_ok-first.first c.in_ok-turn.turn c.in_ok-label.field-0 c.in_ok-base.base c.in_ok-base-2.base c.in_ok-label.ensures c.in_ok-first.ensures c.in_ok-base.ensures.behind c.in_ok-turn.ensures c.in_ok-base-2.ensures.behind
    (c.in_ok-head.ensures (setting_of c.args.setting.now)) c.in_ok-base.ensures.emits (c.in_ok-place.ensures (setting_of c.args.setting.now)) c.in_ok-base-2.ensures.emits)
    c.loop_end.ensures.emits

pub switch_item-returns-clause-emits : goal.switch_item-returns-clause-emits
switch_item-returns-clause-emits t c =
    on_ok_weaker c.list.result
    (switch_runs (setting_of c.args.setting.now) c.args.code.now c.dispatch.new.code c.list.new.code c.args.cases.now (item_list c.args.body.now) c.in_ok-first.first c.in_ok-base.base c.args.spot c.in_ok-switch_part.field-0
    c.in_ok-first.ensures c.in_ok-base.ensures c.in_ok-switch_part.ensures (c.in_ok-dispatch.ensures (setting_of c.args.setting.now)))
    c.list.ensures.emits

pub if_item-returns-in_ok-choose-in-Some-target-clause-emits : goal.if_item-returns-in_ok-choose-in-Some-target-clause-emits
if_item-returns-in_ok-choose-in-Some-target-clause-emits t c =
    two_targets (setting_of c.args.setting.now) c.args.code.now c.choose.new.self c.args.test c.in-Some.one c.in-Some-target.other (item_list c.args.yes.now) (item_list c.args.no.now) c.args.spot.ways c.args.spot.base c.args.spot.next
    (sym c.in-Some.ensures.target) (sym c.in-Some-target.ensures.target) (c.in_ok-choose-in-Some-target.ensures (setting_of c.args.setting.now))

pub if_item-returns-in_ok-branch-in-None-target-clause-emits : goal.if_item-returns-in_ok-branch-in-None-target-clause-emits
if_item-returns-in_ok-branch-in-None-target-clause-emits t c =
    on_ok_weaker c.list.result
    (second_runs (setting_of c.args.setting.now) c.args.code.now c.branch-code.new.self c.list.new.code c.args.test c.in-Some.one (item_list c.args.yes.now) (item_list c.args.no.now) c.args.spot.ways c.args.spot.base c.args.spot.next c.in_ok-first.first
    (sym c.in-Some.ensures.target) (sym c.in-None-target.ensures.target) c.in-Some.ensures.labels c.in_ok-first.ensures (c.in_ok-branch-in-None-target.ensures (setting_of c.args.setting.now)))
    c.list.ensures.emits

pub if_item-returns-in_ok-branch-in-Some-target-2-clause-emits : goal.if_item-returns-in_ok-branch-in-Some-target-2-clause-emits
if_item-returns-in_ok-branch-in-Some-target-2-clause-emits t c =
    on_ok_weaker c.list-in-Some-target-2.result
    (first_runs (setting_of c.args.setting.now) c.args.code.now c.branch-code-in-Some-target-2.new.self c.list-in-Some-target-2.new.code c.args.test c.opposite.result c.in-Some-target-2.other (item_list c.args.yes.now) (item_list c.args.no.now) c.args.spot.ways c.args.spot.base c.args.spot.next c.in_ok-first.first
    (sym c.in-None.ensures.target) (sym c.in-Some-target-2.ensures.target) c.opposite.ensures c.in_ok-first.ensures (c.in_ok-branch-in-Some-target-2.ensures (setting_of c.args.setting.now)))
    c.list-in-Some-target-2.ensures.emits
