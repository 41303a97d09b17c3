use Rattle.std.proofs.Common.{◌+◌, ◌||◌, ◌∙◌, false, ap, sym, refl, drop, rules}
use Rattle.c_syntax.specs.SyntaxView.{body_of, declaration_of, expression_of, optional_of, statement_of}
use Rattle.c_tree.specs.View.{expr_of, stmt_of}
use Rattle.std.specs.Prelude.{map}
use Rattle.c_tree.specs.declared.enclosing.Enclosing.TheVariants as around
use Rattle.c_rules.specs.Answers.{Refuses}
use Rattle.c_scopes.specs.Tables.{scope_of, around_of}
use Rattle.c_scopes.proofs.ScopesKept.{closed_again}
use Rattle.c_types.specs.Bodies.{behind, behind_choices, choices_in, labelled_of, parts_of, statements_in}
use Rattle.c_types.proofs.StatementsSoFar.{turn, ended, refused_here, block_typed, block_follows, do_rest, else_rest, if_rest, arms_rest, while_rest, for_rest, form_follows, same_follows}
use Rattle.c_types.proofs.ChoicesSoFar.{none_behind, turn as choice_turn, ended as choices_ended}
use Rattle.c_types.proofs.SwitchLemmas.{label_typed, switch_follows, refused_here as choice_refused, switch_rest, with_locals_follow}
use Rattle.c_types.proofs.blocks.Body.+statements.Goals as goal

pub block_here-returns-clause-follows : goal.block_here-returns-clause-follows
block_here-returns-clause-follows t c =
    block_typed c.args.self.now c.declarations.new.self c.statements.new.self (record { declared = c.new.result; statements = c.new-2.result }) c.declarations.new.opening c.statements.new.into c.args.enclosing (map declaration_of c.args.declarations.now) (body_of c.args.statements.now)
    c.new.ensures.items c.new-2.ensures.items (ap (λ k. k.result) c.in_ok-declarations.ensures.kept) c.in_ok-declarations.ensures.follows c.in_ok-statements.ensures.typed

pub block-returns-clause-kept : goal.block-returns-clause-kept
block-returns-clause-kept t c = λ i. record {
  scopes = (c.close.ensures
      ∙ closed_again (scope_of c.block_here.new.self.scopes) (scope_of c.args.self.now.scopes) (around_of c.args.self.now.scopes) (around_of c.block_here.new.self.scopes)
      (ap (λ k. k.scopes) c.in_ok-block.ensures.kept ∙ c.in_ok-open.ensures.around)) i;
  result = (c.in_ok-block.ensures.kept i).result;
}

pub statement-returns-in-Block-clause-follows : goal.statement-returns-in-Block-clause-follows
statement-returns-in-Block-clause-follows t c =
    block_follows c.args.self.now c.block.new.self c.args.enclosing c.block.result c.args.s.now c.in-Block.declarations c.in-Block.statements c.deref.result.now c.deref-in-Block.result.now (search rules) (search rules) (search rules) c.block.ensures.follows

pub statement-returns-in-If-clause-follows : goal.statement-returns-in-If-clause-follows
statement-returns-in-If-clause-follows t c =
    form_follows c.args.self.now c.choice.new.self c.args.enclosing c.choice.result c.args.s.now _ (ap (λ k. statement_of k c.args.s.now.at) c.in-If.is) (rw c.deref-in-If.ensures at c.choice.ensures.follows)

pub statement-returns-in-IfElse-clause-follows : goal.statement-returns-in-IfElse-clause-follows
statement-returns-in-IfElse-clause-follows t c =
    form_follows c.args.self.now c.either.new.self c.args.enclosing c.either.result c.args.s.now _ (ap (λ k. statement_of k c.args.s.now.at) c.in-IfElse.is) (rw (c.deref-in-IfElse.ensures, c.deref-in-IfElse-2.ensures) at c.either.ensures.follows)

pub statement-returns-in-While-clause-follows : goal.statement-returns-in-While-clause-follows
statement-returns-in-While-clause-follows t c =
    form_follows c.args.self.now c.while_loop.new.self c.args.enclosing c.while_loop.result c.args.s.now _ (ap (λ k. statement_of k c.args.s.now.at) c.in-While.is) (rw c.deref-in-While.ensures at c.while_loop.ensures.follows)

pub statement-returns-in-Do-clause-follows : goal.statement-returns-in-Do-clause-follows
statement-returns-in-Do-clause-follows t c =
    form_follows c.args.self.now c.do_loop.new.self c.args.enclosing c.do_loop.result c.args.s.now _ (ap (λ k. statement_of k c.args.s.now.at) c.in-Do.is) (rw c.deref-in-Do.ensures at c.do_loop.ensures.follows)

pub statement-returns-in-For-clause-follows : goal.statement-returns-in-For-clause-follows
statement-returns-in-For-clause-follows t c =
    form_follows c.args.self.now c.for_loop.new.self c.args.enclosing c.for_loop.result c.args.s.now _ (ap (λ k. statement_of k c.args.s.now.at) c.in-For.is) (rw c.deref-in-For.ensures at c.for_loop.ensures.follows)

pub statements-loop-s-preserved : goal.statements-loop-s-preserved
statements-loop-s-preserved t c = record {
  typed = c.loop-s.invariant.typed
      ∙ turn c.loop-s.self c.statement.new.self c.in_ok-statement.ensures.kept
      c.args.enclosing c.args.list.now c.loop-s.s-index c.s-item.result c.loop-s.into.items c.in_ok-statement.field-0 c.s-item.is c.loop-s-test.true c.in_ok-statement.ensures.follows
      ∙ ap (λ l. behind l (statements_in c.statement.new.self c.args.enclosing (body_of (drop (c.loop-s.s-index + 1) c.args.list.now)))) (sym c.in_ok-add.ensures.items);
  kept = c.in_ok-statement.ensures.kept ∙ c.loop-s.invariant.kept;
}

pub statements-returns-clause-typed : goal.statements-returns-clause-typed
statements-returns-clause-typed t c =
    c.loop-s.invariant.typed ∙ ended c.loop-s.self c.args.enclosing c.args.list.now c.loop-s.s-index c.loop-s.into.items c.loop-s-test.false

pub statements-returns-in_err-statement-clause-refused : goal.statements-returns-in_err-statement-clause-refused
statements-returns-in_err-statement-clause-refused t c =
    let h : Refuses (statements_in c.args.self.now c.args.enclosing (body_of c.args.list.now)) c.in_err-statement.field-0.0 =
    refused_here (statements_in c.args.self.now c.args.enclosing (body_of c.args.list.now)) c.loop-s.self c.args.enclosing c.args.list.now c.loop-s.s-index c.s-item.result c.args.into.now.items c.loop-s.into.items c.in_err-statement.field-0.0 c.s-item.is c.loop-s-test.true c.loop-s.invariant.typed c.in_err-statement.ensures.follows in
    search (rules, h)

pub do_loop-returns-clause-follows : goal.do_loop-returns-clause-follows
do_loop-returns-clause-follows t c =
    same_follows _ _ c.inner.new.self c.do_test.result
    (do_rest c.args.self.now c.inner.new.self c.in_ok-body.ensures.kept around.Loop (statement_of c.args.body.now.kind c.args.body.now.at) (expression_of c.args.test.now) c.args.at (stmt_of c.in_ok-body.body.value) c.in_ok-body.ensures.follows)
    c.do_test.ensures

pub either-returns-clause-follows : goal.either-returns-clause-follows
either-returns-clause-follows t c =
    same_follows _ _ c.otherwise.new.self c.otherwise.result
    (else_rest c.args.self.now c.inner.new.self c.in_ok-yes.ensures.kept c.args.enclosing (expression_of c.args.test.now) (statement_of c.args.yes.now.kind c.args.yes.now.at) (statement_of c.args.no.now.kind c.args.no.now.at) c.args.at (expr_of c.in_ok-test.test.value) (stmt_of c.in_ok-yes.yes.value) c.in_ok-test.ensures c.in_ok-yes.ensures.follows)
    c.otherwise.ensures.follows

pub choice-returns-clause-follows : goal.choice-returns-clause-follows
choice-returns-clause-follows t c =
    same_follows _ _ c.inner.new.self c.one_armed.result
    (if_rest c.args.self.now c.inner.new.self c.args.enclosing (expression_of c.args.test.now) (statement_of c.args.yes.now.kind c.args.yes.now.at) c.args.at (expr_of c.in_ok-test.test.value) (stmt_of c.in_ok-yes.yes.value) c.in_ok-test.ensures c.in_ok-yes.ensures.follows)
    c.one_armed.ensures

pub otherwise-returns-clause-follows : goal.otherwise-returns-clause-follows
otherwise-returns-clause-follows t c =
    same_follows _ _ c.inner.new.self c.two_armed.result
    (arms_rest c.args.self.now c.inner.new.self c.args.enclosing (statement_of c.args.no.now.kind c.args.no.now.at) c.args.at (expr_of c.args.test.value) (stmt_of c.args.yes.value) (stmt_of c.in_ok-no.no.value) c.in_ok-no.ensures.follows)
    c.two_armed.ensures

pub while_loop-returns-clause-follows : goal.while_loop-returns-clause-follows
while_loop-returns-clause-follows t c =
    same_follows _ _ c.inner.new.self c.while_over.result
    (while_rest c.args.self.now c.inner.new.self around.Loop (expression_of c.args.test.now) (statement_of c.args.body.now.kind c.args.body.now.at) c.args.at (expr_of c.in_ok-test.test.value) (stmt_of c.in_ok-body.body.value) c.in_ok-test.ensures c.in_ok-body.ensures.follows)
    c.while_over.ensures

pub for_loop-returns-clause-follows : goal.for_loop-returns-clause-follows
for_loop-returns-clause-follows t c =
    same_follows _ _ c.inner.new.self c.for_over.result
    (for_rest c.args.self.now c.inner.new.self around.Loop (optional_of c.args.first.now) (optional_of c.args.test.now) (optional_of c.args.third.now) (statement_of c.args.body.now.kind c.args.body.now.at) c.args.at (record { first = c.in_ok-first.first; test = c.in_ok-test.test; third = c.in_ok-third.third }) (stmt_of c.in_ok-body.body.value) c.in_ok-first.ensures c.in_ok-test.ensures c.in_ok-third.ensures c.in_ok-body.ensures.follows)
    c.for_over.ensures

pub statement-returns-in-Switch-clause-follows : goal.statement-returns-in-Switch-clause-follows
statement-returns-in-Switch-clause-follows t c =
    switch_follows c.args.self.now c.switch.new.self c.args.enclosing c.switch.result c.args.s.now c.in-Switch.value c.in-Switch.parts c.in-Switch.parts_at c.deref-in-Switch.result.now (search rules) (search rules) c.switch.ensures.follows

pub choices-loop-part-init : goal.choices-loop-part-init
choices-loop-part-init t c = record {
  typed = none_behind (choices_in c.args.self.now c.args.enclosing (parts_of c.args.parts.now))
      ∙ ap (λ l. behind_choices l false (choices_in c.args.self.now c.args.enclosing (parts_of c.args.parts.now))) (sym c.new.ensures.items);
  kept = refl;
}

pub choices-loop-part-preserved : goal.choices-loop-part-preserved
choices-loop-part-preserved t c = record {
  typed = c.loop-part.invariant.typed
      ∙ choice_turn c.loop-part.self c.label_or_body.new.self c.args.enclosing c.args.parts.now c.loop-part.part-index c.part-item.result c.loop-part.labelled.choices.items c.loop-part.labelled.pointer
      c.in_ok-found.found.choice c.in_ok-found.found.pointer c.part-item.is c.loop-part-test.true c.in_ok-found.ensures.typed
      ∙ ap (λ l. behind_choices l (c.loop-part.labelled.pointer || c.in_ok-found.found.pointer) (choices_in c.label_or_body.new.self c.args.enclosing (parts_of (drop (c.loop-part.part-index + 1) c.args.parts.now)))) (sym c.in_ok-add.ensures.items);
  kept = c.in_ok-found.ensures.kept ∙ c.loop-part.invariant.kept;
}

pub choices-returns-clause-follows : goal.choices-returns-clause-follows
choices-returns-clause-follows t c =
    c.loop-part.invariant.typed ∙ choices_ended c.loop-part.self c.args.enclosing c.args.parts.now c.loop-part.part-index c.loop-part.labelled.choices.items c.loop-part.labelled.pointer c.loop-part-test.false

pub choices-returns-in_err-found-clause-follows : goal.choices-returns-in_err-found-clause-follows
choices-returns-in_err-found-clause-follows t c =
    let h : Refuses (choices_in c.args.self.now c.args.enclosing (parts_of c.args.parts.now)) c.in_err-found.field-0.0 =
    choice_refused (choices_in c.args.self.now c.args.enclosing (parts_of c.args.parts.now)) c.loop-part.self c.args.enclosing c.args.parts.now c.loop-part.part-index c.part-item.result c.loop-part.labelled.choices.items c.loop-part.labelled.pointer c.in_err-found.field-0.0 c.part-item.is c.loop-part-test.true c.loop-part.invariant.typed c.in_err-found.ensures.refused in
    search (rules, h)

pub switch-returns-clause-follows : goal.switch-returns-clause-follows
switch-returns-clause-follows t c =
    with_locals_follow _ c.choices.new.self _ c.switched.result
    (switch_rest c.args.self.now c.choices.new.self c.args.enclosing (expression_of c.args.value.now) (parts_of c.args.parts.now) c.args.place c.args.at (expr_of c.in_ok-value.value.value) (labelled_of c.in_ok-labelled.labelled) c.in_ok-value.ensures (rw c.in_switch.ensures at c.in_ok-labelled.ensures.follows))
    c.switched.ensures

pub label_or_body-returns-in_ok-word-in-Case-clause-typed : goal.label_or_body-returns-in_ok-word-in-Case-clause-typed
label_or_body-returns-in_ok-word-in-Case-clause-typed t c =
    label_typed c.args.self.now c.args.enclosing c.args.part.now c.in-Case.label (expr_of c.in_ok-value-in-Case.value.value) c.in_ok-word-in-Case.word c.points.result
    c.in-Case.is c.in_ok-value-in-Case.ensures (rw c.deref.ensures at c.in_ok-word-in-Case.ensures) (rw c.deref-in-Case.ensures at c.points.ensures)
