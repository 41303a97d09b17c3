use Rattle.std.proofs.Common.{◌≡◌, ◌++◌, drop, map}
use Rattle.std.specs.Prelude.{filter}
use Rattle.c25_isa.specs.Pieces.{piece_of}
use Rattle.c25_helper.specs.Routines.{routine_piece}
use Rattle.c25_helper.specs.Calls.{is_called}
use Rattle.c25_helper.proofs.pieces.pieces_of_called.Given as goal

-- with those that are left they are all that are called
abbrev pub invariant-loop-routine : goal.invariant-loop-routine
invariant-loop-routine l =
    map piece_of l.pieces.items ++ map routine_piece (filter (is_called l.called) (drop l.routine-index l.routines)) ≡ map routine_piece (filter (is_called l.called) l.routines)
