use Rattle.std.proofs.Common.{◌++◌, refl, ap, sym, ◌∙◌, append-nil}
use Rattle.c_tree.specs.View.{choice_list}
use Rattle.c_tree.specs.Uses.{case_count, statement_uses, statements_uses, choices_uses}
use Rattle.std.proofs.lemmas.Result.{IfOk-equal}
use Rattle.c_limits.proofs.UsesLemmas.{with_block, with_switch}
use Rattle.c_tree.proofs.Joins.{lists}
use Rattle.c_tree.proofs.Statements.{statements_behind}
use Rattle.c_tree.proofs.Choices.{choices_behind}
use Rattle.c_limits.proofs.uses.Uses.+statements.Goals as goal

pub choices-loop-choice-preserved : goal.choices-loop-choice-preserved
choices-loop-choice-preserved t c =
    choices_behind lists choices_uses refl (λ w rest. refl) (λ rest. refl) (λ s rest. ap (λ l. l ++ choices_uses rest) (sym (append-nil (statement_uses s))))
    c.args.self.now.list.items c.args.list.now c.loop-choice.choice-index c.choice-item.result c.choice-item.is c.loop-choice-test.true c.loop-choice.invariant c.in_ok-choice.ensures

pub statement-returns-in-Block : goal.statement-returns-in-Block
statement-returns-in-Block t c =
    IfOk-equal c.statements.result _ _ _ c.statements.ensures
    (with_block c.args.self.now.list.items c.args.s.now c.in-Block.declared c.in-Block.body c.in-Block.is c.deref.ensures.value)

pub statement-returns-in_ok-add-in-Switch : goal.statement-returns-in_ok-add-in-Switch
statement-returns-in_ok-add-in-Switch t c =
    IfOk-equal c.choices.result _ _ _ c.choices.ensures
    (with_switch c.args.self.now.list.items c.case_count.result c.args.s.now c.in-Switch.value c.in-Switch.choices c.in-Switch.is c.deref-in-Switch-2.ensures.value
    (c.case_count.ensures ∙ ap (λ xs. case_count (choice_list xs)) (c.deref-in-Switch.ensures.value ∙ sym c.deref-in-Switch-2.ensures.value))
    c.in_ok-expression-in-Switch.ensures c.in_ok-add-in-Switch.ensures)

pub statements-loop-s-preserved : goal.statements-loop-s-preserved
statements-loop-s-preserved t c =
    statements_behind lists statement_uses statements_uses refl (λ s rest. refl) c.args.self.now.list.items c.args.list.now c.loop-s.s-index c.s-item.result c.s-item.is c.loop-s-test.true c.loop-s.invariant c.in_ok-statement.ensures
