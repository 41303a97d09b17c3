use Rattle.std.proofs.Common.{rules, ◌≡◌, refl, arith}
use Rattle.c_tree.specs.View.{argument_list, form_of}
use Rattle.c_tree.specs.declared.typed_expression.ExprForm as form
use Rattle.c_tree.specs.TypedTree as tree
use Rattle.c_tree.specs.TypedTree.{Expr, Form}
use Rattle.c_rules.specs.Renumbering as by
use Rattle.c_limits.proofs.RenumberLemmas.{alike, call_renumbered, part, goal_part, of_parts}
use Rattle.c_tree.proofs.Arguments.{arguments_replaced}
use Rattle.c_limits.proofs.renumber.+expressions.Goals as goal

pub arguments-returns : goal.arguments-returns
arguments-returns t c =
    arguments_replaced (by.expression c.args.frame.now) (by.arguments c.args.frame.now) refl (λ e rest. refl) c.args.list.now.len c.loop-e.e-index c.loop-e.e-items
    c.args.list.now.items c.deref_mut-e-items.result.now c.deref_mut-e-items.ensures.value (omega (arith, c.args.list.now.ok))
    (omega (arith, c.loop-e-test.false)) c.loop-e.invariant

pub operation-returns-in-Call : goal.operation-returns-in-Call
operation-returns-in-Call t c =
    let made : argument_list c.arguments.new.list.items ≡ by.arguments c.args.frame.now (argument_list c.in-Call.args.items) =
    search (rules, c.arguments.ensures, c.in-Call.args-is)
    in let whole : form_of (form.Call c.in-Call._function c.arguments.new.list) ≡ by.of_form c.args.frame.now (form_of c.args.form.now) =
    call_renumbered c.args.frame.now c.args.form.now c.in-Call._function c.in-Call.args c.arguments.new.list c.in-Call.is made
    in search (rules, whole)

pub operation-returns-in-And : goal.operation-returns-in-And
operation-returns-in-And t c =
    of_parts c.args.frame.now c.in-And.is
    (alike tree.And (part c.args.frame.now c.expression-in-And.new.e c.expression-in-And.ensures c.deref_mut-in-And.ensures.value c.in-And.left-is)
    (part c.args.frame.now c.expression-in-And-2.new.e c.expression-in-And-2.ensures c.deref_mut-in-And-2.ensures.value c.in-And.right-is))

pub operation-returns-in-Or : goal.operation-returns-in-Or
operation-returns-in-Or t c =
    of_parts c.args.frame.now c.in-Or.is
    (alike tree.Or (part c.args.frame.now c.expression-in-Or.new.e c.expression-in-Or.ensures c.deref_mut-in-Or.ensures.value c.in-Or.left-is)
    (part c.args.frame.now c.expression-in-Or-2.new.e c.expression-in-Or-2.ensures c.deref_mut-in-Or-2.ensures.value c.in-Or.right-is))

pub operation-returns-in-Comma : goal.operation-returns-in-Comma
operation-returns-in-Comma t c =
    of_parts c.args.frame.now c.in-Comma.is
    (alike tree.Comma (part c.args.frame.now c.expression-in-Comma.new.e c.expression-in-Comma.ensures c.deref_mut-in-Comma.ensures.value c.in-Comma.left-is)
    (part c.args.frame.now c.expression-in-Comma-2.new.e c.expression-in-Comma-2.ensures c.deref_mut-in-Comma-2.ensures.value c.in-Comma.right-is))

pub operation-returns-in-Assign : goal.operation-returns-in-Assign
operation-returns-in-Assign t c =
    of_parts c.args.frame.now c.in-Assign.is
    (alike tree.Assign (goal_part c.args.frame.now c.target.ensures c.in-Assign.to-is)
    (part c.args.frame.now c.expression-in-Assign.new.e c.expression-in-Assign.ensures c.deref_mut-in-Assign.ensures.value c.in-Assign.value-is))

pub operation-returns-in-Pick : goal.operation-returns-in-Pick
operation-returns-in-Pick t c =
    of_parts c.args.frame.now c.in-Pick.is
    (alike (λ (made : Expr → Form) (e : Expr). made e) (alike {C = Expr → Form} (λ x y z. tree.Pick x y z) (part c.args.frame.now c.expression-in-Pick.new.e c.expression-in-Pick.ensures c.deref_mut-in-Pick.ensures.value c.in-Pick.test-is)
    (part c.args.frame.now c.expression-in-Pick-2.new.e c.expression-in-Pick-2.ensures c.deref_mut-in-Pick-2.ensures.value c.in-Pick.yes-is))
    (part c.args.frame.now c.expression-in-Pick-3.new.e c.expression-in-Pick-3.ensures c.deref_mut-in-Pick-3.ensures.value c.in-Pick.no-is))
