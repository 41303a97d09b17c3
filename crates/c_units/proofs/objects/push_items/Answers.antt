use Rattle.c_tree.specs.c_syntax.SyntaxView.{item_of}
use Rattle.c_units.proofs.ObjectLemmas.{item_turn}
use Rattle.c_units.proofs.objects.push_items.Goals as goal

pub loop-item-preserved : goal.loop-item-preserved
loop-item-preserved c = λ list are.
    item_turn item_of c.args.file.now.number list c.args.is_extern _ _ _ c.args.items.now c.loop-item.item-index c.item-item.result c.item-item.is c.loop-item-test.true (c.loop-item.invariant list are) (c.in_ok-push_item.ensures list are)
