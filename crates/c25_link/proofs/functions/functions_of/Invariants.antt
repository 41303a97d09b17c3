use Rattle.std.proofs.Common.{◌≡◌, ◌+◌, ◌++◌, drop, map}
use Rattle.c25_isa.specs.Pieces.{piece_of, listed_ranges}
use Rattle.c25_link.specs.Linking.{pieces_words}
use Rattle.c25_link.proofs.functions.functions_of.Given as goal

-- with those of the pieces that are left they are all
abbrev pub invariant-loop-piece : goal.invariant-loop-piece
invariant-loop-piece l =
    (l.address + pieces_words (map piece_of (drop l.piece-index l.pieces)) ≡ pieces_words (map piece_of l.pieces))
    × (l.functions.items ++ listed_ranges l.address (map piece_of (drop l.piece-index l.pieces)) ≡ listed_ranges 0 (map piece_of l.pieces))
