use Rattle.std.proofs.Common.{max, refl, sym, arith}
use Rattle.c_tree.specs.View.{expr_of, option_expr_of, stmt_of, choice_list}
use Rattle.c_tree.specs.Temporaries.{temporaries, optional_temporaries, statement_temporaries, statements_temporaries, choices_temporaries}
use Rattle.c_limits.proofs.TemporariesLemmas.{of_statement, of_block, of_switch}
use Rattle.c_tree.proofs.Joins.{maxima}
use Rattle.c_tree.proofs.Statements.{statements_further}
use Rattle.c_tree.proofs.Choices.{choices_further}
use Rattle.c_limits.proofs.temporaries.+statements.Goals as goal

pub choices-loop-part-preserved : goal.choices-loop-part-preserved
choices-loop-part-preserved t c =
    let further = choices_further maxima choices_temporaries refl (λ w rest. omega arith) (λ rest. omega arith) (λ s rest. omega arith)
    c.args.list.now c.loop-part.part-index c.part-item.result c.part-item.is c.loop-part-test.true refl refl
    in omega (arith, c.max-most.ensures, c.choice.ensures, c.loop-part.invariant, further)

pub statement-returns-in-Block : goal.statement-returns-in-Block
statement-returns-in-Block t c = of_block c.statements.result c.args.s.now c.in-Block.declared c.in-Block.body c.in-Block.is c.deref.ensures.value c.statements.ensures

pub statements-loop-s-preserved : goal.statements-loop-s-preserved
statements-loop-s-preserved t c =
    let further = statements_further maxima statement_temporaries statements_temporaries refl (λ s rest. refl)
    c.args.list.now c.loop-s.s-index c.s-item.result c.s-item.is c.loop-s-test.true refl refl
    in omega (arith, c.max-most.ensures, c.statement.ensures, c.loop-s.invariant, further)

pub statement-returns-in-While : goal.statement-returns-in-While
statement-returns-in-While t c =
    of_statement c.larger-in-While.result c.in-While.is
    (c.larger-in-While.ensures (temporaries (expr_of c.in-While.test)) (statement_temporaries (stmt_of c.in-While.body.value)) c.expression-in-While.ensures (of_statement c.statement-in-While.result (sym c.deref-in-While.ensures) c.statement-in-While.ensures))

pub statement-returns-in-Do : goal.statement-returns-in-Do
statement-returns-in-Do t c =
    of_statement c.larger-in-Do.result c.in-Do.is
    (c.larger-in-Do.ensures (statement_temporaries (stmt_of c.in-Do.body.value)) (temporaries (expr_of c.in-Do.test)) (of_statement c.statement-in-Do.result (sym c.deref-in-Do.ensures) c.statement-in-Do.ensures) c.expression-in-Do.ensures)

pub statement-returns-in-For : goal.statement-returns-in-For
statement-returns-in-For t c =
    of_statement c.larger-in-For-2.result c.in-For.is
    (c.larger-in-For-2.ensures (optional_temporaries (option_expr_of c.in-For.first)) (max (optional_temporaries (option_expr_of c.in-For.test)) (max (optional_temporaries (option_expr_of c.in-For.third)) (statement_temporaries (stmt_of c.in-For.body.value)))) c.optional-in-For-2.ensures
    (c.larger-in-For.ensures (optional_temporaries (option_expr_of c.in-For.test)) (max (optional_temporaries (option_expr_of c.in-For.third)) (statement_temporaries (stmt_of c.in-For.body.value))) c.optional-in-For-3.ensures
    (c.larger-behind.ensures (optional_temporaries (option_expr_of c.in-For.third)) (statement_temporaries (stmt_of c.in-For.body.value)) c.optional-in-For.ensures (of_statement c.statement-in-For.result (sym c.deref-in-For.ensures) c.statement-in-For.ensures))))

pub statement-returns-in-Switch : goal.statement-returns-in-Switch
statement-returns-in-Switch t c =
    of_switch c.larger-in-Switch.result c.args.s.now c.in-Switch.value c.in-Switch.all c.in-Switch.is c.deref-in-Switch.ensures.value
    (c.larger-in-Switch.ensures (temporaries (expr_of c.in-Switch.value)) (choices_temporaries (choice_list c.deref-in-Switch.result.now)) c.expression-in-Switch.ensures c.choices.ensures)

pub statement-returns-in-If : goal.statement-returns-in-If
statement-returns-in-If t c =
    of_statement c.larger-in-If.result c.in-If.is
    (c.larger-in-If.ensures (temporaries (expr_of c.in-If.test)) (max (statement_temporaries (stmt_of c.in-If.yes.value)) (statement_temporaries (stmt_of c.in-If.no.value))) c.expression-in-If.ensures
    (c.larger.ensures (statement_temporaries (stmt_of c.in-If.yes.value)) (statement_temporaries (stmt_of c.in-If.no.value)) (of_statement c.statement.result (sym c.deref-in-If.ensures) c.statement.ensures)
    (of_statement c.statement-in-If.result (sym c.deref-in-If-2.ensures) c.statement-in-If.ensures)))
