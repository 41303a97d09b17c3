use Rattle.std.proofs.Common.{map, rules}
use Rattle.c_syntax.specs.SyntaxView.{expression_of}
use Rattle.c_rules.specs.Answers.{Refuses}
use Rattle.c_rules.specs.Declarations as spec
use Rattle.c_names.specs.Tables.{scope_of}
use Rattle.c_scopes.proofs.SoFar.{entries_further, entries_refused, entries_ended}
use Rattle.c_scopes.proofs.initialisers.entries.Goals as goal

pub loop-e-preserved : goal.loop-e-preserved
loop-e-preserved c =
    entries_further (scope_of c.args.scopes.now) c.args.list.now c.loop-e.e-index c.e-item.result c.in_ok-entry.field-0 c.loop-e.entries.items _
    c.e-item.is c.loop-e-test.true c.loop-e.invariant c.in_ok-entry.ensures c.in_ok-add.ensures.items

pub returns : goal.returns
returns c = entries_ended (scope_of c.args.scopes.now) c.args.list.now c.loop-e.e-index c.loop-e.entries.items c.loop-e-test.false c.loop-e.invariant

pub returns-in_err-entry : goal.returns-in_err-entry
returns-in_err-entry c =
    let h : Refuses (spec.entries (scope_of c.args.scopes.now) (map expression_of c.args.list.now)) c.in_err-entry.field-0.0 =
    entries_refused (scope_of c.args.scopes.now) c.args.list.now c.loop-e.e-index c.e-item.result c.loop-e.entries.items c.in_err-entry.field-0.0 c.e-item.is c.loop-e-test.true c.loop-e.invariant c.in_err-entry.ensures in
    search (rules, h)
