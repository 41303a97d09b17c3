use Rattle.std.proofs.Common.{rules, ap, subst, sym}
use Rattle.c_syntax.specs.SyntaxTree as tree
use Rattle.c_syntax.specs.SyntaxView.{expression_of, form_of}
use Rattle.c_tree.specs.TypedTree.{Expr}
use Rattle.c_tree.specs.View.{expr_of}
use Rattle.c_rules.specs.Answers.{Refuses}
use Rattle.c_rules.specs.Operands.{assigned, assigned_by, binary, both_true, either_true, indexed, picked, typed_comma}
use Rattle.c_rules.specs.Outcome.{Outcome, ◌>>=◌, Is}
use Rattle.c_rules.specs.Typing.{is_address, of_object, operand, typing, typing_form}
use Rattle.c_names.specs.Tables.{scope_of}
use Rattle.c_scopes.proofs.CallForms.{form_follows, call_follows, constant_call_follows, side_refused}
use Rattle.c_scopes.proofs.expressions.+expressions.Goals as goal

pub expression-returns-in-Call : goal.expression-returns-in-Call
expression-returns-in-Call t c =
    call_follows (scope_of c.args.scopes.now) c.call.result c.args.e.now c.in-Call.name c.as_str-in-Call.result.now c.in-Call.arguments c.deref-in-Call.result.now (search rules) (search rules) (search rules) c.call.ensures

pub expression-returns-in-Index : goal.expression-returns-in-Index
expression-returns-in-Index t c =
    form_follows (scope_of c.args.scopes.now) c.subscript.result c.args.e.now _ (ap form_of c.in-Index.is) (rw (c.deref.ensures, c.deref-in-Index.ensures) at c.subscript.ensures)

pub expression-returns-in-SizeofType : goal.expression-returns-in-SizeofType
expression-returns-in-SizeofType t c =
    form_follows (scope_of c.args.scopes.now) c.size_of_type.result c.args.e.now _ (ap form_of c.in-SizeofType.is) (c.size_of_type.ensures (scope_of c.args.scopes.now))

pub expression-returns-in-Cast : goal.expression-returns-in-Cast
expression-returns-in-Cast t c =
    form_follows (scope_of c.args.scopes.now) c.cast.result c.args.e.now _ (ap form_of c.in-Cast.is) (rw c.deref-in-Cast.ensures at c.cast.ensures)

pub expression-returns-in-Binary : goal.expression-returns-in-Binary
expression-returns-in-Binary t c =
    form_follows (scope_of c.args.scopes.now) c.binary.result c.args.e.now _ (ap form_of c.in-Binary.is) (rw (c.deref-in-Binary.ensures, c.deref-in-Binary-2.ensures) at c.binary.ensures)

pub expression-returns-in-And : goal.expression-returns-in-And
expression-returns-in-And t c =
    form_follows (scope_of c.args.scopes.now) c.both.result c.args.e.now _ (ap form_of c.in-And.is) (rw (c.deref-in-And.ensures, c.deref-in-And-2.ensures) at c.both.ensures)

pub expression-returns-in-Or : goal.expression-returns-in-Or
expression-returns-in-Or t c =
    form_follows (scope_of c.args.scopes.now) c.either.result c.args.e.now _ (ap form_of c.in-Or.is) (rw (c.deref-in-Or.ensures, c.deref-in-Or-2.ensures) at c.either.ensures)

pub expression-returns-in-Conditional : goal.expression-returns-in-Conditional
expression-returns-in-Conditional t c =
    form_follows (scope_of c.args.scopes.now) c.conditional.result c.args.e.now _ (ap form_of c.in-Conditional.is) (rw (c.deref-in-Conditional.ensures, c.deref-in-Conditional-2.ensures, c.deref-in-Conditional-3.ensures) at c.conditional.ensures)

pub expression-returns-in-Assign : goal.expression-returns-in-Assign
expression-returns-in-Assign t c =
    form_follows (scope_of c.args.scopes.now) c.assignment.result c.args.e.now _ (ap form_of c.in-Assign.is) (rw (c.deref-in-Assign.ensures, c.deref-in-Assign-2.ensures) at c.assignment.ensures)

pub expression-returns-in-AssignOp : goal.expression-returns-in-AssignOp
expression-returns-in-AssignOp t c =
    form_follows (scope_of c.args.scopes.now) c.assignment_by.result c.args.e.now _ (ap form_of c.in-AssignOp.is) (rw (c.deref-in-AssignOp.ensures, c.deref-in-AssignOp-2.ensures) at c.assignment_by.ensures)

pub expression-returns-in-Comma : goal.expression-returns-in-Comma
expression-returns-in-Comma t c =
    form_follows (scope_of c.args.scopes.now) c.comma.result c.args.e.now _ (ap form_of c.in-Comma.is) (rw (c.deref-in-Comma.ensures, c.deref-in-Comma-2.ensures) at c.comma.ensures)

pub constant_tree-returns-in-Call : goal.constant_tree-returns-in-Call
constant_tree-returns-in-Call t c =
    constant_call_follows (scope_of c.args.scopes.now) c.constant_call.result c.args.e.now c.in-Call.name c.as_str.result.now c.in-Call.arguments c.deref.result.now (search rules) (search rules) (search rules) c.constant_call.ensures

pub subscript-returns-in_err-left : goal.subscript-returns-in_err-left
subscript-returns-in_err-left t c =
    let s = scope_of c.args.scopes.now in
    let h : Refuses (typing_form s (tree.Index (expression_of c.args.operand.now) (expression_of c.args.index.now)) c.args.at) c.in_err-left.field-0.0 =
    side_refused s (expression_of c.args.operand.now) (expression_of c.args.index.now) (λ x y. indexed c.args.at x y) c.in_err-left.field-0.0 c.in_err-left.ensures.refused in
    search (rules, h)

pub binary-returns-in_err-typed : goal.binary-returns-in_err-typed
binary-returns-in_err-typed t c =
    let s = scope_of c.args.scopes.now in
    let h : Refuses (typing_form s (tree.Binary c.args.op (expression_of c.args.left.now) (expression_of c.args.right.now)) c.args.at) c.in_err-typed.field-0.0 =
    side_refused s (expression_of c.args.left.now) (expression_of c.args.right.now) (λ x y. binary c.args.op c.args.at (operand (expression_of c.args.left.now) x) (operand (expression_of c.args.right.now) y)) c.in_err-typed.field-0.0 c.in_err-typed.ensures.refused in
    search (rules, h)

pub both-returns-in_err-left : goal.both-returns-in_err-left
both-returns-in_err-left t c =
    let s = scope_of c.args.scopes.now in
    let h : Refuses (typing_form s (tree.And (expression_of c.args.left.now) (expression_of c.args.right.now)) c.args.at) c.in_err-left.field-0.0 =
    side_refused s (expression_of c.args.left.now) (expression_of c.args.right.now) (λ x y. both_true c.args.at x y) c.in_err-left.field-0.0 c.in_err-left.ensures.refused in
    search (rules, h)

pub either-returns-in_err-left : goal.either-returns-in_err-left
either-returns-in_err-left t c =
    let s = scope_of c.args.scopes.now in
    let h : Refuses (typing_form s (tree.Or (expression_of c.args.left.now) (expression_of c.args.right.now)) c.args.at) c.in_err-left.field-0.0 =
    side_refused s (expression_of c.args.left.now) (expression_of c.args.right.now) (λ x y. either_true c.args.at x y) c.in_err-left.field-0.0 c.in_err-left.ensures.refused in
    search (rules, h)

pub assignment-returns-in_err-typed : goal.assignment-returns-in_err-typed
assignment-returns-in_err-typed t c =
    let s = scope_of c.args.scopes.now in
    let h : Refuses (typing_form s (tree.Assign (expression_of c.args.left.now) (expression_of c.args.right.now)) c.args.at) c.in_err-typed.field-0.0 =
    side_refused s (expression_of c.args.left.now) (expression_of c.args.right.now) (λ x y. assigned c.args.at x (operand (expression_of c.args.right.now) y) >>= λ z. of_object (is_address (expression_of c.args.left.now)) c.args.at z) c.in_err-typed.field-0.0 c.in_err-typed.ensures.refused in
    search (rules, h)

pub assignment_by-returns-in_err-typed : goal.assignment_by-returns-in_err-typed
assignment_by-returns-in_err-typed t c =
    let s = scope_of c.args.scopes.now in
    let h : Refuses (typing_form s (tree.AssignOp c.args.op (expression_of c.args.left.now) (expression_of c.args.right.now)) c.args.at) c.in_err-typed.field-0.0 =
    side_refused s (expression_of c.args.left.now) (expression_of c.args.right.now) (λ x y. assigned_by c.args.op c.args.at x y >>= λ z. of_object (is_address (expression_of c.args.left.now)) c.args.at z) c.in_err-typed.field-0.0 c.in_err-typed.ensures.refused in
    search (rules, h)

pub comma-returns-in_err-left : goal.comma-returns-in_err-left
comma-returns-in_err-left t c =
    let s = scope_of c.args.scopes.now in
    let h : Refuses (typing_form s (tree.Comma (expression_of c.args.left.now) (expression_of c.args.right.now)) c.args.at) c.in_err-left.field-0.0 =
    side_refused s (expression_of c.args.left.now) (expression_of c.args.right.now) (λ x y. Is (typed_comma c.args.at x y)) c.in_err-left.field-0.0 c.in_err-left.ensures.refused in
    search (rules, h)

pub conditional-returns-in_err-arms : goal.conditional-returns-in_err-arms
conditional-returns-in_err-arms t c =
    let s = scope_of c.args.scopes.now in
    let yes = expression_of c.args.yes.now in
    let no = expression_of c.args.no.now in
    let P : Outcome Expr → Type 0 = λ o. Refuses (o >>= λ t. typing s yes >>= λ x. typing s no >>= λ y. picked c.args.at t (operand yes x) (operand no y)) c.in_err-arms.field-0.0 in
    let h : P (typing s (expression_of c.args.test.now)) =
    subst P (sym c.in_ok-test.ensures) (side_refused s yes no (λ x y. picked c.args.at (expr_of c.in_ok-test.test.value) (operand yes x) (operand no y)) c.in_err-arms.field-0.0 c.in_err-arms.ensures.refused) in
    search (rules, h)
