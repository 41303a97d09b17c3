-- The lists so far.
use Rattle.std.proofs.Common.{◌≡◌, take}
use Rattle.std.specs.List.{join_with_byte}
use Rattle.lay_search.proofs.pieces.string_of.Given as goal

abbrev pub invariant-loop-list : goal.invariant-loop-list
invariant-loop-list l = l.string.items ≡ join_with_byte 255 (take l.list-index l.lists)
