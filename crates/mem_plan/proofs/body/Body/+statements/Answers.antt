use Rattle.std.proofs.Common.{rules, append_assoc}
use Rattle.std.proofs.lemmas.Result.{IfOk-equal}
use Rattle.mem_plan.proofs.BodyLemmas.{called_append, or_further, statement_calls, statement_routine, choice_calls, choice_routine, block_calls, block_routine, switch_calls, switch_routine}
use Rattle.mem_plan.proofs.body.Body.+statements.Goals as goal

pub statements-loop-s-preserved : goal.statements-loop-s-preserved
statements-loop-s-preserved t c = record {
  calls = statement_calls c.loop-s.self.calls.items c.statement.new.self.calls.items _ c.args.list.now c.loop-s.s-index c.s-item.result c.s-item.is c.loop-s-test.true
      c.loop-s.invariant.calls c.in_ok-statement.ensures.calls;
  routine = statement_routine c.loop-s.self.routine c.statement.new.self.routine _ c.args.list.now c.loop-s.s-index c.s-item.result c.s-item.is c.loop-s-test.true
      c.loop-s.invariant.routine c.in_ok-statement.ensures.routine;
}

pub choices-loop-choice-preserved : goal.choices-loop-choice-preserved
choices-loop-choice-preserved t c = record {
  calls = choice_calls c.loop-choice.self.calls.items c.choice.new.self.calls.items _ c.args.list.now c.loop-choice.choice-index c.choice-item.result c.choice-item.is c.loop-choice-test.true
      c.loop-choice.invariant.calls c.in_ok-choice.ensures.calls;
  routine = choice_routine c.loop-choice.self.routine c.choice.new.self.routine _ c.args.list.now c.loop-choice.choice-index c.choice-item.result c.choice-item.is c.loop-choice-test.true
      c.loop-choice.invariant.routine c.in_ok-choice.ensures.routine;
}

pub statement-returns-in-Block-clause-calls : goal.statement-returns-in-Block-clause-calls
statement-returns-in-Block-clause-calls t c =
    IfOk-equal c.statements.result _ _ _ c.statements.ensures.calls
    (block_calls c.args.self.now.calls.items c.args.s.now c.in-Block.declared c.in-Block.body c.in-Block.is c.deref.ensures.value)

pub statement-returns-in-Block-clause-routine : goal.statement-returns-in-Block-clause-routine
statement-returns-in-Block-clause-routine t c =
    IfOk-equal c.statements.result _ _ _ c.statements.ensures.routine
    (block_routine c.args.self.now.routine c.args.s.now c.in-Block.declared c.in-Block.body c.in-Block.is c.deref.ensures.value)

pub statement-returns-in_ok-expression-in-Switch-clause-calls : goal.statement-returns-in_ok-expression-in-Switch-clause-calls
statement-returns-in_ok-expression-in-Switch-clause-calls t c =
    IfOk-equal c.choices.result _ _ _ c.choices.ensures.calls
    (switch_calls c.args.self.now.calls.items c.args.s.now c.in-Switch.value c.in-Switch.choices c.in-Switch.is c.deref-in-Switch.ensures.value
    c.in_ok-expression-in-Switch.ensures.calls)

pub statement-returns-in_ok-expression-in-Switch-clause-routine : goal.statement-returns-in_ok-expression-in-Switch-clause-routine
statement-returns-in_ok-expression-in-Switch-clause-routine t c =
    IfOk-equal c.choices.result _ _ _ c.choices.ensures.routine
    (switch_routine c.args.self.now.routine c.args.s.now c.in-Switch.value c.in-Switch.choices c.in-Switch.is c.deref-in-Switch.ensures.value
    c.in_ok-expression-in-Switch.ensures.routine)

pub statement-returns-in_ok-statement-in-If-clause-calls : goal.statement-returns-in_ok-statement-in-If-clause-calls
statement-returns-in_ok-statement-in-If-clause-calls t c = search (rules, called_append, append_assoc)

pub statement-returns-in_ok-expression-in-While-clause-calls : goal.statement-returns-in_ok-expression-in-While-clause-calls
statement-returns-in_ok-expression-in-While-clause-calls t c = search (rules, called_append, append_assoc)

pub statement-returns-in_ok-statement-in-Do-clause-calls : goal.statement-returns-in_ok-statement-in-Do-clause-calls
statement-returns-in_ok-statement-in-Do-clause-calls t c = search (rules, called_append, append_assoc)

pub statement-returns-in_ok-optional-in-For-3-clause-calls : goal.statement-returns-in_ok-optional-in-For-3-clause-calls
statement-returns-in_ok-optional-in-For-3-clause-calls t c = search (rules, called_append, append_assoc)

pub statement-returns-in_ok-optional-in-For-3-clause-routine : goal.statement-returns-in_ok-optional-in-For-3-clause-routine
statement-returns-in_ok-optional-in-For-3-clause-routine t c = search (rules, or_further)
