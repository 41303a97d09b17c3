use Rattle.std.proofs.Common.{◌+◌, ◌∙◌, length, drop, ap, sym, subst, arith}
use Rattle.std.proofs.lemmas.List.{drop_all}
use Rattle.mem_plan.specs.Gathered.{owns_in}
use Rattle.mem_plan.specs.Search.{Follows, calls_at}
use Rattle.mem_plan.proofs.SearchLemmas.{graph_of, next_there, next_of, next_end, next_calls, caller_calls, at_call, may_pass, call_passed, end_kept}
use Rattle.mem_plan.proofs.begins.Search.follow.Goals as goal

pub index-function-requires : goal.index-function-requires
index-function-requires c =
    let needs = c.args.needs.now in
    let s = c.args.self.now in
    let there = next_there (length needs) (calls_at needs) (owns_in needs) c.args.place c.requires.followed.0 s.begins.items s.waiting.items s.order.items (graph_of needs c.requires.needs)
    c.requires.followed.1 c.requires.place
    in omega (arith, there, s.order.ok)

pub offset_bounds-needs-function : goal.offset_bounds-needs-function
offset_bounds-needs-function c =
    let next = next_of c.args.needs.now c.args.place c.index-function.result.now c.args.self.now c.requires.needs c.requires.followed c.requires.place c.index-function.ensures
    in omega (arith, next.low, c.requires.needs.few)

pub bounds-needs-function : goal.bounds-needs-function
bounds-needs-function c =
    (next_of c.args.needs.now c.args.place c.index-function.result.now c.args.self.now c.requires.needs c.requires.followed c.requires.place c.index-function.ensures).low

pub index-requires : goal.index-requires
index-requires c =
    let next = next_of c.args.needs.now c.args.place c.index-function.result.now c.args.self.now c.requires.needs c.requires.followed c.requires.place c.index-function.ensures
    in omega (arith, next.begins, c.args.self.now.begins.ok)

pub overflow_add-end : goal.overflow_add-end
overflow_add-end c =
    let ends = next_end c.args.needs.now c.args.place c.index-function.result.now c.index.result.now c.index-needs-function.result c.args.self.now c.requires.needs c.requires.followed
    c.requires.place c.index-function.ensures c.index.ensures c.index-needs-function.is
    in omega (arith, ends.2)

pub loop-called-init : goal.loop-called-init
loop-called-init c =
    let ends = next_end c.args.needs.now c.args.place c.index-function.result.now c.index.result.now c.index-needs-function.result c.args.self.now c.requires.needs c.requires.followed
    c.requires.place c.index-function.ensures c.index.ensures c.index-needs-function.is
    in record {
      follows = next_calls c.args.needs.now c.args.place c.index-function.result.now c.args.self.now c.requires.needs c.requires.followed c.requires.place c.index-function.ensures;
      end = ends.0;
      room = ends.1;
    }

pub pass-requires-clause-begins : goal.pass-requires-clause-begins
pass-requires-clause-begins c =
    let needs = c.args.needs.now in
    let function = c.index-function.result.now in
    let next = next_of needs c.args.place function c.args.self.now c.requires.needs c.requires.followed c.requires.place c.index-function.ensures in
    let listed = c.as_slice-called-items.ensures ∙ sym (caller_calls needs function c.index-needs-function.result next.low c.index-needs-function.is) in
    let rest = drop (c.loop-called.called-index + 1) (calls_at needs function) in
    let before = at_call needs (c.args.place + 1) function c.loop-called.called-index c.from.result c.as_slice-called-items.result.now c.loop-called.self listed c.loop-called-test.true
    c.from.ensures c.loop-called.invariant.follows
    in (may_pass needs (c.args.place + 1) function c.from.result rest c.loop-called.self c.requires.needs before).begins

pub pass-requires-clause-waiting : goal.pass-requires-clause-waiting
pass-requires-clause-waiting c =
    let needs = c.args.needs.now in
    let function = c.index-function.result.now in
    let next = next_of needs c.args.place function c.args.self.now c.requires.needs c.requires.followed c.requires.place c.index-function.ensures in
    let listed = c.as_slice-called-items.ensures ∙ sym (caller_calls needs function c.index-needs-function.result next.low c.index-needs-function.is) in
    let rest = drop (c.loop-called.called-index + 1) (calls_at needs function) in
    let before = at_call needs (c.args.place + 1) function c.loop-called.called-index c.from.result c.as_slice-called-items.result.now c.loop-called.self listed c.loop-called-test.true
    c.from.ensures c.loop-called.invariant.follows
    in (may_pass needs (c.args.place + 1) function c.from.result rest c.loop-called.self c.requires.needs before).waiting

pub pass-requires-clause-some : goal.pass-requires-clause-some
pass-requires-clause-some c =
    let needs = c.args.needs.now in
    let function = c.index-function.result.now in
    let next = next_of needs c.args.place function c.args.self.now c.requires.needs c.requires.followed c.requires.place c.index-function.ensures in
    let listed = c.as_slice-called-items.ensures ∙ sym (caller_calls needs function c.index-needs-function.result next.low c.index-needs-function.is) in
    let rest = drop (c.loop-called.called-index + 1) (calls_at needs function) in
    let before = at_call needs (c.args.place + 1) function c.loop-called.called-index c.from.result c.as_slice-called-items.result.now c.loop-called.self listed c.loop-called-test.true
    c.from.ensures c.loop-called.invariant.follows
    in (may_pass needs (c.args.place + 1) function c.from.result rest c.loop-called.self c.requires.needs before).some

pub loop-called-preserved : goal.loop-called-preserved
loop-called-preserved c =
    let needs = c.args.needs.now in
    let function = c.index-function.result.now in
    let next = next_of needs c.args.place function c.args.self.now c.requires.needs c.requires.followed c.requires.place c.index-function.ensures in
    let listed = c.as_slice-called-items.ensures ∙ sym (caller_calls needs function c.index-needs-function.result next.low c.index-needs-function.is) in
    let rest = drop (c.loop-called.called-index + 1) (calls_at needs function) in
    let before = at_call needs (c.args.place + 1) function c.loop-called.called-index c.from.result c.as_slice-called-items.result.now c.loop-called.self listed c.loop-called-test.true
    c.from.ensures c.loop-called.invariant.follows in
    let old = c.loop-called.self in
    let new = c.pass.new.self
    in record {
      follows = call_passed (length needs) (calls_at needs) (owns_in needs) (c.args.place + 1) function (c.index.result.now + c.index-needs-function.result.own) c.from.result rest old.begins.items old.waiting.items old.order.items
          new.begins.items new.waiting.items new.order.items (graph_of needs c.requires.needs) before c.loop-called.invariant.end c.loop-called.invariant.room
          c.in_ok-pass.ensures.begins c.in_ok-pass.ensures.waiting c.in_ok-pass.ensures.order;
      end = end_kept (length needs) (calls_at needs) (owns_in needs) (c.args.place + 1) function (c.index.result.now + c.index-needs-function.result.own) c.from.result rest old.begins.items old.waiting.items old.order.items
          new.begins.items new.waiting.items new.order.items (graph_of needs c.requires.needs) before c.loop-called.invariant.end c.loop-called.invariant.room
          c.in_ok-pass.ensures.begins c.in_ok-pass.ensures.waiting c.in_ok-pass.ensures.order;
      room = c.loop-called.invariant.room;
    }

pub returns : goal.returns
returns c =
    let needs = c.args.needs.now in
    let function = c.index-function.result.now in
    let next = next_of needs c.args.place function c.args.self.now c.requires.needs c.requires.followed c.requires.place c.index-function.ensures in
    let listed = c.as_slice-called-items.ensures ∙ sym (caller_calls needs function c.index-needs-function.result next.low c.index-needs-function.is) in
    let none = drop_all c.loop-called.called-index (calls_at needs function) (omega (arith, ap length listed, c.loop-called-test.false))
    in (function, subst (λ rest. Follows needs (c.args.place + 1) function rest c.loop-called.self) none c.loop-called.invariant.follows)
