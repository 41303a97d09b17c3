use Rattle.std.proofs.Common.{◌≡◌, map, take}
use Rattle.std.specs.Prelude.{fold}
use Rattle.c25_isa.specs.Pieces.{piece_of}
use Rattle.c25_helper.specs.Calls.{no_calls, with_piece}
use Rattle.c25_helper.proofs.called.Called.of.Given as goal

abbrev pub invariant-loop-piece : goal.invariant-loop-piece
invariant-loop-piece l = l.called ≡ fold with_piece no_calls (map piece_of (take l.piece-index l.pieces))
