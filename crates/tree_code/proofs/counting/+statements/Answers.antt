use Rattle.std.proofs.Common.{take}
use Rattle.tree_code.specs.WordTree.{no_more}
use Rattle.tree_code.specs.WordView.{word_expr_of, word_stmt_of, word_statement_list, word_choice_list, word_choice_before}
use Rattle.tree_code.specs.WordTemporaries.{word_temporaries, word_statement_temporaries, word_statements_temporaries, word_choices_temporaries}
use Rattle.tree_code.proofs.CountingLemmas.{statement_further, choice_further, of_block, of_switch}
use Rattle.tree_code.proofs.counting.+statements.Goals as goal

pub statements-loop-s-preserved : goal.statements-loop-s-preserved
statements-loop-s-preserved t c =
    statement_further c.args.list.now c.loop-s.s-index c.s-item.result c.s-item.is c.loop-s-test.true
    (c.larger-most.ensures (word_statements_temporaries (word_statement_list (take c.loop-s.s-index c.args.list.now))) (word_statement_temporaries (word_stmt_of c.s-item.result)) c.loop-s.invariant c.statement.ensures)

pub choices-loop-part-preserved : goal.choices-loop-part-preserved
choices-loop-part-preserved t c =
    choice_further c.args.list.now c.loop-part.part-index c.part-item.result c.part-item.is c.loop-part-test.true
    (c.larger-most.ensures (word_choices_temporaries (word_choice_list (take c.loop-part.part-index c.args.list.now))) (word_choices_temporaries (word_choice_before c.part-item.result no_more)) c.loop-part.invariant c.choice.ensures)

pub statement-returns-in-Block : goal.statement-returns-in-Block
statement-returns-in-Block t c = of_block c.args.s.now c.in-Block.declared c.in-Block.body c.in-Block.is c.deref.ensures.value c.statements.ensures

pub statement-returns-in-Switch : goal.statement-returns-in-Switch
statement-returns-in-Switch t c =
    of_switch c.args.s.now c.in-Switch.value c.in-Switch.all c.in-Switch.is c.deref-in-Switch.ensures.value
    (c.larger-in-Switch.ensures (word_temporaries (word_expr_of c.in-Switch.value)) (word_choices_temporaries (word_choice_list c.deref-in-Switch.result.now)) c.expression-in-Switch.ensures c.choices.ensures)
