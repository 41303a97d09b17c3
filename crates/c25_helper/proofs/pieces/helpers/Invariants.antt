use Rattle.std.proofs.Common.{◌≡◌, ◌++◌, drop, map}
use Rattle.c25_isa.specs.Pieces.{piece_of}
use Rattle.c25_helper.specs.Routines.{routine_piece, all_routines}
use Rattle.c25_helper.proofs.pieces.helpers.Given as goal

-- with those that are left they are all
abbrev pub invariant-loop-routine : goal.invariant-loop-routine
invariant-loop-routine l =
    (l.routine-items ≡ all_routines)
    × (map piece_of l.pieces.items ++ map routine_piece (drop l.routine-index l.routine-items) ≡ map routine_piece all_routines)
