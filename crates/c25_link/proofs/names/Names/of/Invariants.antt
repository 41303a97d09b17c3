use Rattle.std.proofs.Common.{◌≡◌, ℕ, ◌+◌, List, drop, map, unwrap_or}
use Rattle.c25_isa.specs.Pieces.{piece_of, piece_address}
use Rattle.c25_isa.specs.Step.{wrap16}
use Rattle.c25_link.specs.Linking.{pieces_words}
use Rattle.c25_link.specs.Addresses.{names_in}
use Rattle.c25_link.proofs.names.Names.of.Given as goal

-- a name is in the table, or where it stands in what is left
abbrev pub invariant-loop-piece : goal.invariant-loop-piece
invariant-loop-piece l =
    (l.address + pieces_words (map piece_of (drop l.piece-index l.pieces)) ≡ pieces_words (map piece_of l.pieces))
    × ((name : List ℕ) → unwrap_or (names_in l.addresses name) (wrap16 (piece_address l.address (map piece_of (drop l.piece-index l.pieces)) name)) ≡ wrap16 (piece_address 0 (map piece_of l.pieces) name))
