use Rattle.std.proofs.Common.{◌∙◌, map, rules}
use Rattle.c_syntax.specs.SyntaxView.{item_of}
use Rattle.c_rules.specs.Answers.{Refuses}
use Rattle.c_rules.specs.Statements.{block_items}
use Rattle.c_types.specs.BodyView.{opened_of}
use Rattle.c_types.proofs.BlockLemmas.{item_typed, item_refused, items_ended}
use Rattle.c_types.proofs.blocks.Body.items.Goals as goal

pub loop-item-preserved : goal.loop-item-preserved
loop-item-preserved c = record {
  typed = item_typed (opened_of c.loop-item.self c.loop-item.opening) c.args.base (block_items (opened_of c.args.self.now c.args.opening.now) c.args.base (map item_of c.args.list.now))
      c.args.list.now c.loop-item.item-index c.item-item.result c.item-item.is c.loop-item-test.true c.loop-item.invariant.typed (opened_of c.item.new.self c.item.new.opening) c.in_ok-item.ensures.follows;
  kept = c.in_ok-item.ensures.kept ∙ c.loop-item.invariant.kept;
}

pub returns-clause-follows : goal.returns-clause-follows
returns-clause-follows c =
    c.loop-item.invariant.typed ∙ items_ended (opened_of c.loop-item.self c.loop-item.opening) c.args.base c.args.list.now c.loop-item.item-index c.loop-item-test.false

pub returns-in_err-item-clause-follows : goal.returns-in_err-item-clause-follows
returns-in_err-item-clause-follows c =
    let whole = block_items (opened_of c.args.self.now c.args.opening.now) c.args.base (map item_of c.args.list.now) in
    let h : Refuses whole c.in_err-item.field-0.0 =
    item_refused (opened_of c.loop-item.self c.loop-item.opening) c.args.base whole c.args.list.now c.loop-item.item-index c.item-item.result c.item-item.is c.loop-item-test.true c.loop-item.invariant.typed c.in_err-item.field-0.0 c.in_err-item.ensures.follows in
    search (rules, h)
