use Rattle.std.proofs.Common.{◌∙◌, ap, rules}
use Rattle.std.proofs.Math.ListN.{drop_of_length-le}
use Rattle.c_syntax.specs.SyntaxView.{unit_of}
use Rattle.c_rules.specs.Answers.{Refuses}
use Rattle.c_rules.specs.Units.{externals, typed_unit}
use Rattle.c_types.specs.View.{file_of}
use Rattle.c_types.proofs.UnitLemmas.{external_typed, external_refused}
use Rattle.c_types.proofs.units.File.of.Goals as goal

pub loop-external-preserved : goal.loop-external-preserved
loop-external-preserved c =
    external_typed (file_of c.loop-external.file) (file_of c.external.new.self) (typed_unit (unit_of c.args.externals.now)) c.args.externals.now c.loop-external.external-index c.external-item.result
    c.external-item.is c.loop-external-test.true c.loop-external.invariant c.in_ok-external.ensures

pub returns : goal.returns
returns c =
    c.loop-external.invariant ∙ ap (λ l. externals (file_of c.loop-external.file) (unit_of l)) (drop_of_length-le c.args.externals.now c.loop-external-test.false)

pub returns-in_err-external : goal.returns-in_err-external
returns-in_err-external c =
    let whole = typed_unit (unit_of c.args.externals.now) in
    let h : Refuses whole c.in_err-external.field-0.0 =
    external_refused (file_of c.loop-external.file) whole c.args.externals.now c.loop-external.external-index c.external-item.result c.in_err-external.field-0.0
    c.external-item.is c.loop-external-test.true c.loop-external.invariant c.in_err-external.ensures in
    search (rules, h)
