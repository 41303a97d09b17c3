use Rattle.std.proofs.Common.{◌≡◌, drop, map}
use Rattle.c_syntax.specs.SyntaxView.{item_of}
use Rattle.c_rules.specs.Statements.{block_items}
use Rattle.c_types.specs.BodyView.{context_around, opened_of}
use Rattle.c_types.proofs.blocks.Body.items.Given as goal

abbrev pub invariant-loop-item : goal.invariant-loop-item
invariant-loop-item l = record {
  typed : block_items (opened_of l.initial.self l.initial.opening) l.base (map item_of l.list) ≡ block_items (opened_of l.self l.opening) l.base (map item_of (drop l.item-index l.list));
  kept : context_around l.self ≡ context_around l.initial.self;
}
