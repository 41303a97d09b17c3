use Rattle.std.proofs.Common.{◌-◌, ap, arith}
use Rattle.acc_select.specs.PartView.{part_of}
use Rattle.acc_select.proofs.AppendLemmas.{appended_as, result_as}
use Rattle.acc_select.proofs.ArgumentLemmas.{argument_further, arguments_end, arguments_count}
use Rattle.acc_select.proofs.CodeLemmas as code
use Rattle.acc_select.proofs.expressions.+expressions.Goals as goal
use Rattle.acc_select.proofs.expressions.+expressions.Goals.{arguments-then-left-gt0+in_ok-waits, arguments-else-left-gt0}

pub condition-returns-in_default : goal.condition-returns-in_default
condition-returns-in_default t c =
    appended_as c.tested.result c.args.code.now.items c.tested.new.code.items
    (ap (λ b. b c.args.sense (part_of c.args.yes) (part_of c.args.no)) (code.branch_plain c.args.e.now.form c.args.e.now.at c.args.t c.in_default.not-And c.in_default.not-Or c.in_default.not-Not c.in_default.not-Comma)) c.tested.ensures

pub into-returns-in_default : goal.into-returns-in_default
into-returns-in_default t c =
    appended_as c.loaded_into.result c.args.code.now.items c.loaded_into.new.code.items
    (code.into_plain c.args.e.now.form c.args.e.now.at c.args.t c.args.m c.in_default.not-In c.in_default.not-Comma) c.loaded_into.ensures

pub point-returns-in_default : goal.point-returns-in_default
point-returns-in_default t c =
    appended_as c.loaded_point.result c.args.code.now.items c.loaded_point.new.code.items
    (code.point_plain c.args.e.now.form c.args.e.now.at c.args.t c.in_default.not-StepAfter c.in_default.not-Comma) c.loaded_point.ensures

pub effect-returns-in_default : goal.effect-returns-in_default
effect-returns-in_default t c =
    appended_as c.loaded_effect.result c.args.code.now.items c.loaded_effect.new.code.items
    (code.effect_plain c.args.e.now.form c.args.e.now.at c.args.t c.in_default.not-Binary c.in_default.not-And c.in_default.not-Or c.in_default.not-Not c.in_default.not-Pick c.in_default.not-Assign c.in_default.not-StepAfter c.in_default.not-In c.in_default.not-Comma) c.loaded_effect.ensures

pub effect-returns-in-Binary : goal.effect-returns-in-Binary
effect-returns-in-Binary t c =
    appended_as c.binary_effect.result c.args.code.now.items c.binary_effect.new.code.items
    (code.binary_done c.args.e.now.form c.args.e.now.at c.args.t c.in-Binary.op c.in-Binary.left c.in-Binary.right c.in-Binary.is c.operation_of.ensures c.deref.ensures c.deref-in-Binary.ensures) c.binary_effect.ensures

pub question-returns-in-Binary-clause-items : goal.question-returns-in-Binary-clause-items
question-returns-in-Binary-clause-items t c =
    appended_as c.binary_question.result c.args.code.now.items c.binary_question.new.code.items
    (ap (λ q. q.items) (code.binary_asked c.args.e.now.form c.args.e.now.at c.args.t c.in-Binary.op c.in-Binary.left c.in-Binary.right c.in-Binary.is c.operation_of.ensures c.deref.ensures c.deref-in-Binary.ensures)) c.binary_question.ensures.items

pub question-returns-in-Binary-clause-test : goal.question-returns-in-Binary-clause-test
question-returns-in-Binary-clause-test t c =
    result_as c.binary_question.result
    (ap (λ q. q.test) (code.binary_asked c.args.e.now.form c.args.e.now.at c.args.t c.in-Binary.op c.in-Binary.left c.in-Binary.right c.in-Binary.is c.operation_of.ensures c.deref.ensures c.deref-in-Binary.ensures)) c.binary_question.ensures.test

pub question-returns-in_default-clause-items : goal.question-returns-in_default-clause-items
question-returns-in_default-clause-items t c =
    appended_as c.is_not_zero.result c.args.code.now.items c.is_not_zero.new.code.items
    (ap (λ q. q.items) (code.question_plain c.args.e.now.form c.args.e.now.at c.args.t c.in_default.not-Binary)) c.is_not_zero.ensures.items

pub question-returns-in_default-clause-test : goal.question-returns-in_default-clause-test
question-returns-in_default-clause-test t c =
    result_as c.is_not_zero.result
    (ap (λ q. q.test) (code.question_plain c.args.e.now.form c.args.e.now.at c.args.t c.in_default.not-Binary)) c.is_not_zero.ensures.test

pub find-returns-in-Binary-clause-items : goal.find-returns-in-Binary-clause-items
find-returns-in-Binary-clause-items t c =
    appended_as c.binary.result c.args.code.now.items c.binary.new.code.items
    (ap (λ w. w.items) (code.binary_found c.args.e.now.form c.args.e.now.at c.args.t c.in-Binary.op c.in-Binary.left c.in-Binary.right c.in-Binary.is c.operation_of.ensures c.deref-in-Binary.ensures c.deref-in-Binary-2.ensures)) c.binary.ensures.items

pub find-returns-in-Binary-clause-found : goal.find-returns-in-Binary-clause-found
find-returns-in-Binary-clause-found t c =
    result_as c.binary.result
    (ap (λ w. w.found) (code.binary_found c.args.e.now.form c.args.e.now.at c.args.t c.in-Binary.op c.in-Binary.left c.in-Binary.right c.in-Binary.is c.operation_of.ensures c.deref-in-Binary.ensures c.deref-in-Binary-2.ensures)) c.binary.ensures.found

pub find-returns-in-AssignOp-clause-items : goal.find-returns-in-AssignOp-clause-items
find-returns-in-AssignOp-clause-items t c =
    appended_as c.update.result c.args.code.now.items c.update.new.code.items
    (ap (λ w. w.items) (code.update_found c.args.e.now.form c.args.e.now.at c.args.t c.in-AssignOp.op c.in-AssignOp.to c.in-AssignOp.value c.in-AssignOp.is c.operation_of-in-AssignOp.ensures c.deref-in-AssignOp.ensures)) c.update.ensures.items

pub find-returns-in-AssignOp-clause-found : goal.find-returns-in-AssignOp-clause-found
find-returns-in-AssignOp-clause-found t c =
    result_as c.update.result
    (ap (λ w. w.found) (code.update_found c.args.e.now.form c.args.e.now.at c.args.t c.in-AssignOp.op c.in-AssignOp.to c.in-AssignOp.value c.in-AssignOp.is c.operation_of-in-AssignOp.ensures c.deref-in-AssignOp.ensures)) c.update.ensures.found

pub find-returns-in-Call-clause-items : goal.find-returns-in-Call-clause-items
find-returns-in-Call-clause-items t c =
    appended_as c.call.result c.args.code.now.items c.call.new.code.items
    (ap (λ w. w.items) (code.call_found c.args.e.now.form c.args.e.now.at c.args.t c.in-Call.function c.in-Call.args c.in-Call.is c.deref-in-Call.ensures.value)) c.call.ensures.items

pub arguments-loop-e-preserved : goal.arguments-loop-e-preserved
arguments-loop-e-preserved t c = record {
  waits = elim c.if-left-gt0.branch [ arguments-then-left-gt0+in_ok-waits w ↦ omega (arith, w.waits-is, w.if-left-gt0, w.in_ok-waits.ensures, c.loop-e.invariant.waits, c.loop-e.invariant.left, c.loop-e-test.true) | arguments-else-left-gt0 w ↦ omega (arith, w.waits-is, w.if-left-gt0, c.loop-e.invariant.waits, c.loop-e.invariant.left, c.loop-e-test.true) ];
  left = omega (arith, c.loop-e.invariant.left, c.loop-e-test.true);
  code = argument_further c.args.function c.loop-e.e-index c.args.t c.loop-e.waits (c.loop-e.left - 1) (c.loop-e.waits - c.args.t) c.args.args.now c.e-item.result c.argument_place-place.result
      c.loop-e.code.items c.into.new.code.items c.e-item.is c.loop-e-test.true (omega (arith, c.loop-e.invariant.waits, c.loop-e.invariant.left, c.loop-e-test.true))
      (omega (arith, c.loop-e.invariant.waits, c.loop-e.invariant.left, c.loop-e-test.true)) (omega (arith, c.loop-e.invariant.left, c.loop-e-test.true)) c.argument_place-place.ensures c.loop-e.invariant.code c.in_ok-into.ensures;
}

pub arguments-returns-clause-items : goal.arguments-returns-clause-items
arguments-returns-clause-items t c =
    arguments_end c.args.function c.loop-e.e-index c.args.t c.args.args.now c.loop-e.code.items (omega (arith, c.loop-e-test.false, c.loop-e.invariant.left)) c.loop-e.invariant.code

pub arguments-returns-clause-count : goal.arguments-returns-clause-count
arguments-returns-clause-count t c = omega (arith, arguments_count c.args.args.now, c.loop-e-test.false, c.loop-e.invariant.left, c.loop-e.invariant.waits)
