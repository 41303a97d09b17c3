use Rattle.std.proofs.Common.{◌≡◌, ◌+◌, drop}
use Rattle.c25_isa.specs.Pieces.{items_size}
use Rattle.c25_link.proofs.sizes.with_items.Given as goal

abbrev pub invariant-loop-item : goal.invariant-loop-item
invariant-loop-item l = l.words + items_size (drop l.item-index l.items) ≡ l.before + items_size l.items
