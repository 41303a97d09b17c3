use Rattle.std.proofs.Common.{◌∙◌, map, rules}
use Rattle.c_syntax.specs.SyntaxView.{expression_of}
use Rattle.c_tree.specs.View.{expr_of}
use Rattle.c_rules.specs.Answers.{Refuses}
use Rattle.c_rules.specs.Statements.{all_typed}
use Rattle.c_names.specs.Tables.{scope_of}
use Rattle.c_scopes.proofs.SoFar.{typed_further, typed_refused, typed_ended}
use Rattle.c_scopes.proofs.initialisers.all_typed.Goals as goal

pub loop-e-preserved : goal.loop-e-preserved
loop-e-preserved c =
    c.loop-e.invariant
    ∙ typed_further (scope_of c.args.scopes.now) c.args.list.now c.loop-e.e-index c.e-item.result (expr_of c.in_ok-expression.field-0) c.e-item.is c.loop-e-test.true c.in_ok-expression.ensures

pub returns : goal.returns
returns c = c.loop-e.invariant ∙ typed_ended (scope_of c.args.scopes.now) c.args.list.now c.loop-e.e-index c.loop-e-test.false

pub returns-in_err-expression : goal.returns-in_err-expression
returns-in_err-expression c =
    let whole = all_typed (scope_of c.args.scopes.now) (map expression_of c.args.list.now) in
    let h : Refuses whole c.in_err-expression.field-0.0 =
    typed_refused (scope_of c.args.scopes.now) c.args.list.now c.loop-e.e-index c.e-item.result whole c.in_err-expression.field-0.0 c.e-item.is c.loop-e-test.true c.loop-e.invariant c.in_err-expression.ensures in
    search (rules, h)
