use Rattle.std.proofs.Common.{◌≡◌, ◌++◌, map}
use Rattle.c25_isa.specs.Pieces.{piece_of}
use Rattle.cc_compile.specs.Images.{with_helpers}
use Rattle.cc_compile.proofs.translation.with_helpers.Given as goal

-- with those that are left they are all
abbrev pub invariant-loop-piece : goal.invariant-loop-piece
invariant-loop-piece l = map piece_of l.pieces.items ++ map piece_of l.piece-iterator.rest.items ≡ with_helpers (map piece_of l.fn.pieces.items)
