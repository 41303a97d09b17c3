use Rattle.std.proofs.Common.{◌≡◌, ◌++◌, take}
use Rattle.c25_isa.specs.Pieces.{items_code}
use Rattle.c25_link.specs.Addresses.{mark_in, name_in}
use Rattle.c25_link.proofs.code.push_items.Given as goal

abbrev pub invariant-loop-item : goal.invariant-loop-item
invariant-loop-item l = l.code.items ≡ l.initial.code.items ++ items_code (mark_in l.marks) (name_in l.names) (take l.item-index l.items)
