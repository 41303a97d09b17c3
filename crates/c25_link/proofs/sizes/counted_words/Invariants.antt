use Rattle.std.proofs.Common.{◌≡◌, ◌+◌, drop, map}
use Rattle.c25_isa.specs.Pieces.{piece_of}
use Rattle.c25_link.specs.Linking.{pieces_words}
use Rattle.c25_link.proofs.sizes.counted_words.Given as goal

abbrev pub invariant-loop-piece : goal.invariant-loop-piece
invariant-loop-piece l = l.words + pieces_words (map piece_of (drop l.piece-index l.pieces)) ≡ pieces_words (map piece_of l.pieces)
