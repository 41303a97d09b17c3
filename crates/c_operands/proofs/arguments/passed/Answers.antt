use Rattle.std.proofs.Common.{◌≢◌, length, rules, arith}
use Rattle.std.proofs.lemmas.List.{nil_from_length}
use Rattle.std.specs.Vec.Iter.{into_iter_items}
use Rattle.c_operands.proofs.OperandLists.{turn_of, too_few, too_many, all_given, void_behind}
use Rattle.c_operands.proofs.arguments.passed.Goals as goal

pub loop-kind-preserved : goal.loop-kind-preserved
loop-kind-preserved c = record {
  all = turn_of c.args.kinds.now c.loop-kind.kind-index c.args.at _ c.loop-kind.values.items c.in-Some.x (into_iter_items c.next.new.self) c.in_ok-given.field-0 _ c.push.new.self.items (into_iter_items c.loop-kind.operands) c.loop-kind-test.true c.in_ok-given.ensures c.loop-kind.invariant.all c.in-Some.ensures.items c.in_ok-push.ensures.items;
  void = void_behind _ c.args.at c.in-Some.x c.in_ok-given.field-0 (into_iter_items c.next.new.self) (into_iter_items c.loop-kind.operands) c.any_void-void.result c.in_ok-given.ensures c.in-Some.ensures.items c.loop-kind.invariant.void;
}

pub returns : goal.returns
returns c =
    let none = nil_from_length (into_iter_items c.loop-kind.operands) (omega (arith, c.len.ensures, c.in_ok-none_left.ensures.none, c.loop-kind.operands.rest.ok)) in
    all_given c.args.kinds.now c.loop-kind.kind-index c.args.at c.loop-kind.values.items _ (into_iter_items c.loop-kind.operands) c.loop-kind-test.false c.loop-kind.invariant.all none

pub returns-in_default : goal.returns-in_default
returns-in_default c =
    let none = nil_from_length (into_iter_items c.loop-kind.operands) (omega (arith, c.in_default.ensures.cases.0)) in
    let e = too_few c.args.kinds.now c.loop-kind.kind-index c.args.at c.loop-kind.values.items _ (into_iter_items c.loop-kind.operands) c.loop-kind-test.true c.loop-kind.invariant.all none in
    rw c.wrong_count.ensures e

pub returns-in_err-none_left : goal.returns-in_err-none_left
returns-in_err-none_left c =
    let ys = into_iter_items c.loop-kind.operands in
    let some : length ys ≢ 0 = λ none. c.in_err-none_left.ensures.some (omega (arith, none, c.len.ensures, c.loop-kind.operands.rest.ok)) in
    let refused = too_many c.args.kinds.now c.loop-kind.kind-index c.args.at c.loop-kind.values.items _ ys c.any_void-void.result c.in_err-none_left.field-0.0 c.loop-kind-test.false
    c.loop-kind.invariant.all some c.loop-kind.invariant.void c.in_err-none_left.ensures.void c.in_err-none_left.ensures.count in
    search (rules, refused)
