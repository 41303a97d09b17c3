use Rattle.std.proofs.Common.{◌≡◌, ◌+◌, ◌++◌, drop, map}
use Rattle.c25_isa.specs.Pieces.{piece_of, pieces_code}
use Rattle.c25_link.specs.Linking.{pieces_words}
use Rattle.c25_link.specs.Addresses.{name_in}
use Rattle.c25_link.proofs.code.code_of.Given as goal

-- with that of the pieces that are left it is all
abbrev pub invariant-loop-piece : goal.invariant-loop-piece
invariant-loop-piece l =
    (l.address + pieces_words (map piece_of (drop l.piece-index l.pieces)) ≡ pieces_words (map piece_of l.pieces))
    × (l.code.items ++ pieces_code (name_in l.names) l.address (map piece_of (drop l.piece-index l.pieces)) ≡ pieces_code (name_in l.names) 0 (map piece_of l.pieces))
