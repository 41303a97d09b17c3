use Rattle.std.proofs.Common.{◌≡◌, ℕ, ◌+◌, drop, unwrap_or}
use Rattle.c25_isa.specs.Pieces.{items_size, mark_address}
use Rattle.c25_isa.specs.Step.{wrap16}
use Rattle.c25_link.specs.Addresses.{marks_in}
use Rattle.c25_link.proofs.marks.Marks.of.Given as goal

-- a mark is in the table, or where it stands in what is left
abbrev pub invariant-loop-item : goal.invariant-loop-item
invariant-loop-item l =
    (l.address + items_size (drop l.item-index l.items) ≡ l.fn.at + items_size l.items)
    × ((mark : ℕ) → unwrap_or (marks_in l.addresses mark) (wrap16 (mark_address l.address (drop l.item-index l.items) mark)) ≡ wrap16 (mark_address l.fn.at l.items mark))
