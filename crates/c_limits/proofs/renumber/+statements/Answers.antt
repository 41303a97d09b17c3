use Rattle.std.proofs.Common.{◌∙◌, ap, refl, map, Option, arith}
use Rattle.c_tree.specs.View.{expr_of, option_expr_of, statement_list, choice_list}
use Rattle.c_tree.specs.TypedTree as tree
use Rattle.c_tree.specs.TypedTree.{Expr, Stmt}
use Rattle.c_rules.specs.Renumbering as by
use Rattle.c_limits.proofs.RenumberLemmas.{alike, of_statement_parts, body_part, block_renumbered, switch_renumbered}
use Rattle.c_tree.proofs.Statements.{statements_replaced}
use Rattle.c_tree.proofs.Choices.{choices_replaced}
use Rattle.c_limits.proofs.renumber.+statements.Goals as goal

pub statements-returns : goal.statements-returns
statements-returns t c =
    statements_replaced (by.statement c.args.frame.now) (by.statements c.args.frame.now) refl (λ s rest. refl) c.args.list.now.len c.loop-s.s-index c.loop-s.s-items
    c.args.list.now.items c.deref_mut-s-items.result.now c.deref_mut-s-items.ensures.value (omega (arith, c.args.list.now.ok))
    (omega (arith, c.loop-s-test.false)) c.loop-s.invariant

pub choices-returns : goal.choices-returns
choices-returns t c =
    choices_replaced (by.statement c.args.frame.now) (by.choices c.args.frame.now) refl (λ w rest. refl) (λ rest. refl) (λ s rest. refl) c.args.list.now.len
    c.loop-part.part-index c.loop-part.part-items c.args.list.now.items c.deref_mut-part-items.result.now c.deref_mut-part-items.ensures.value
    (omega (arith, c.args.list.now.ok)) (omega (arith, c.loop-part-test.false)) c.loop-part.invariant

pub statement-returns-in-Block : goal.statement-returns-in-Block
statement-returns-in-Block t c =
    block_renumbered c.args.frame.now c.args.s.now c.in-Block.declared c.references.new.list c.in-Block.body c.statements.new.list c.in-Block.is
    (c.references.ensures ∙ ap (λ l. map (by.renumbered c.args.frame.now) l.items) c.in-Block.declared-is)
    (c.statements.ensures ∙ ap (λ l. by.statements c.args.frame.now (statement_list l.items)) c.in-Block.body-is)

pub statement-returns-in-Switch : goal.statement-returns-in-Switch
statement-returns-in-Switch t c =
    switch_renumbered c.args.frame.now c.args.s.now c.in-Switch.value c.expression-in-Switch.new.e c.in-Switch.all c.choices.new.list c.in-Switch.is
    (c.expression-in-Switch.ensures ∙ ap (λ e. by.expression c.args.frame.now (expr_of e)) c.in-Switch.value-is)
    (c.choices.ensures ∙ ap (λ l. by.choices c.args.frame.now (choice_list l.items)) c.in-Switch.all-is)

pub statement-returns-in-While : goal.statement-returns-in-While
statement-returns-in-While t c =
    of_statement_parts c.args.frame.now c.in-While.is
    (alike tree.While (c.expression-in-While.ensures ∙ ap (λ e. by.expression c.args.frame.now (expr_of e)) c.in-While.test-is)
    (body_part c.args.frame.now c.statement-in-While.new.s c.statement-in-While.ensures c.deref_mut-in-While.ensures.value c.in-While.body-is))

pub statement-returns-in-Do : goal.statement-returns-in-Do
statement-returns-in-Do t c =
    of_statement_parts c.args.frame.now c.in-Do.is
    (alike tree.Do_while (body_part c.args.frame.now c.statement-in-Do.new.s c.statement-in-Do.ensures c.deref_mut-in-Do.ensures.value c.in-Do.body-is)
    (c.expression-in-Do.ensures ∙ ap (λ e. by.expression c.args.frame.now (expr_of e)) c.in-Do.test-is))

pub statement-returns-in-For : goal.statement-returns-in-For
statement-returns-in-For t c =
    of_statement_parts c.args.frame.now c.in-For.is
    (alike {C = Stmt} (λ made body. made body) (alike {C = Stmt → Stmt} (λ made third. made third) (alike {C = Option Expr → Stmt → Stmt} (λ x y z a. tree.For x y z a)
    (c.optional-in-For.ensures ∙ ap (λ e. by.optional c.args.frame.now (option_expr_of e)) c.in-For.first-is)
    (c.optional-in-For-2.ensures ∙ ap (λ e. by.optional c.args.frame.now (option_expr_of e)) c.in-For.test-is))
    (c.optional-in-For-3.ensures ∙ ap (λ e. by.optional c.args.frame.now (option_expr_of e)) c.in-For.third-is))
    (body_part c.args.frame.now c.statement-in-For.new.s c.statement-in-For.ensures c.deref_mut-in-For.ensures.value c.in-For.body-is))
