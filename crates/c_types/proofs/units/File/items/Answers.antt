use Rattle.std.proofs.Common.{◌∙◌, ap, map, rules}
use Rattle.std.proofs.Math.ListN.{drop_of_length-le}
use Rattle.c_syntax.specs.SyntaxView.{item_of}
use Rattle.c_rules.specs.Answers.{Refuses}
use Rattle.c_rules.specs.Units.{file_items}
use Rattle.c_types.specs.View.{file_of}
use Rattle.c_types.proofs.UnitLemmas.{item_typed, item_refused}
use Rattle.c_types.proofs.units.File.items.Goals as goal

pub loop-item-preserved : goal.loop-item-preserved
loop-item-preserved c =
    item_typed (file_of c.loop-item.self) (file_of c.item.new.self) c.args.base (file_items (file_of c.args.self.now) c.args.base (map item_of c.args.items.now)) c.args.items.now c.loop-item.item-index c.item-item.result
    c.item-item.is c.loop-item-test.true c.loop-item.invariant c.in_ok-item.ensures

pub returns : goal.returns
returns c =
    c.loop-item.invariant ∙ ap (λ l. file_items (file_of c.loop-item.self) c.args.base (map item_of l)) (drop_of_length-le c.args.items.now c.loop-item-test.false)

pub returns-in_err-item : goal.returns-in_err-item
returns-in_err-item c =
    let whole = file_items (file_of c.args.self.now) c.args.base (map item_of c.args.items.now) in
    let h : Refuses whole c.in_err-item.field-0.0 =
    item_refused (file_of c.loop-item.self) c.args.base whole c.args.items.now c.loop-item.item-index c.item-item.result c.in_err-item.field-0.0
    c.item-item.is c.loop-item-test.true c.loop-item.invariant c.in_err-item.ensures in
    search (rules, h)
