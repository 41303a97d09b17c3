use Rattle.std.proofs.Common.{◌++◌, refl, ap, ◌∙◌}
use Rattle.c_tree.specs.View.{argument_list}
use Rattle.c_tree.specs.Uses.{uses, list_uses}
use Rattle.std.proofs.lemmas.Result.{IfOk-equal}
use Rattle.c_limits.proofs.UsesLemmas.{with_call}
use Rattle.c_tree.proofs.Joins.{lists}
use Rattle.c_tree.proofs.Arguments.{arguments_behind}
use Rattle.c_limits.proofs.uses.Uses.+expressions.Goals as goal

pub expression-returns-in_ok-expressions-in-Call : goal.expression-returns-in_ok-expressions-in-Call
expression-returns-in_ok-expressions-in-Call t c =
    IfOk-equal c.add-in-Call.result _ _ _ c.add-in-Call.ensures
    (with_call c.args.self.now.list.items c.in-Call.function c.args.e.now.at c.args.e.now.form c.in-Call.args c.in-Call.is
    (c.in_ok-expressions-in-Call.ensures ∙ ap (λ l. c.args.self.now.list.items ++ list_uses (argument_list l)) c.deref-in-Call.ensures.value))

pub expressions-loop-e-preserved : goal.expressions-loop-e-preserved
expressions-loop-e-preserved t c =
    arguments_behind lists uses list_uses refl (λ e rest. refl) c.args.self.now.list.items c.args.list.now c.loop-e.e-index c.e-item.result c.e-item.is c.loop-e-test.true c.loop-e.invariant c.in_ok-expression.ensures
