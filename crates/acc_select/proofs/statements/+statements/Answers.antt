use Rattle.std.proofs.Common.{◌≡◌, ◌<◌, ◌∷◌, length, map, arith, rules}
use Rattle.c_tree.specs.View.{object_of}
use Rattle.acc_select.proofs.StatementLemmas.{statement_further, choice_further, all_statements, all_choices, only_statement, more_statements, block_as_part, block_as_statement, switch_as_statement}
use Rattle.acc_select.proofs.AppendLemmas.{appended_as}
use Rattle.acc_select.proofs.statements.+statements.Goals as goal

pub statements-loop-s-preserved : goal.statements-loop-s-preserved
statements-loop-s-preserved t c =
    statement_further (map object_of c.args.locals.now) c.args.t c.args.list.now c.loop-s.s-index c.s-item.result c.loop-s.code.items c.statement.new.code.items
    c.s-item.is c.loop-s-test.true c.loop-s.invariant c.in_ok-statement.ensures

pub choices-loop-c-preserved : goal.choices-loop-c-preserved
choices-loop-c-preserved t c =
    choice_further (map object_of c.args.locals.now) c.args.t c.loop-c.label c.in_ok-label.label c.args.list.now c.loop-c.c-index c.c-item.result c.loop-c.body.items c.choice.new.code.items
    c.c-item.is c.loop-c-test.true c.loop-c.invariant c.in_ok-label.ensures.items c.in_ok-label.ensures.label

pub statements-returns : goal.statements-returns
statements-returns t c = all_statements (map object_of c.args.locals.now) c.args.t c.args.list.now c.loop-s.s-index c.loop-s.code.items c.loop-s-test.false c.loop-s.invariant

pub choices-returns : goal.choices-returns
choices-returns t c = all_choices (map object_of c.args.locals.now) c.args.t c.loop-c.label c.args.list.now c.loop-c.c-index c.loop-c.body.items c.loop-c-test.false c.loop-c.invariant

pub block_part-returns-then-is_empty : goal.block_part-returns-then-is_empty
block_part-returns-then-is_empty t c =
    only_statement c.part.result (map object_of c.args.locals.now) c.args.t c.args.list.now c.in-Some.first.now c.in-Some.rest.now
    (let split : c.args.list.now ≡ c.in-Some.first.now ∷ c.in-Some.rest.now = search rules in split) (let none : length c.in-Some.rest.now ≡ 0 = grind (arith, c.if-is_empty.true, c.is_empty.ensures) in none) c.part.ensures

pub block_part-returns-else-is_empty : goal.block_part-returns-else-is_empty
block_part-returns-else-is_empty t c =
    more_statements c.list_part.result (map object_of c.args.locals.now) c.args.t c.args.list.now c.in-Some.first.now c.in-Some.rest.now
    (let split : c.args.list.now ≡ c.in-Some.first.now ∷ c.in-Some.rest.now = search rules in split) (let some : 0 < length c.in-Some.rest.now = grind (arith, c.if-is_empty.false, c.is_empty.ensures) in some) c.list_part.ensures

pub part-returns-in-Block : goal.part-returns-in-Block
part-returns-in-Block t c =
    block_as_part c.block_part.result (map object_of c.args.locals.now) c.args.t c.args.s.now c.in-Block.declared c.in-Block.body c.in-Block.is c.deref.ensures.value c.block_part.ensures

pub statement-returns-in-Block : goal.statement-returns-in-Block
statement-returns-in-Block t c =
    appended_as c.statements.result c.args.code.now.items c.statements.new.code.items
    (block_as_statement (map object_of c.args.locals.now) c.args.t c.args.s.now c.in-Block.declared c.in-Block.body c.in-Block.is c.deref.ensures.value) c.statements.ensures

pub statement-returns-in-Switch : goal.statement-returns-in-Switch
statement-returns-in-Switch t c =
    appended_as c.switch.result c.args.code.now.items c.switch.new.code.items
    (switch_as_statement (map object_of c.args.locals.now) c.args.t c.args.s.now c.in-Switch.value c.in-Switch.choices c.in-Switch.is c.deref-in-Switch.ensures.value) c.switch.ensures
