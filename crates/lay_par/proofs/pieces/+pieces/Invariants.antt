-- Each join has one piece fewer left.
use Rattle.std.proofs.Common.{◌+◌, ◌-◌, ◌*◌}
use Rattle.lay_par.proofs.pieces.+pieces.Given as goal

abbrev pub decreases-run_pieces : goal.decreases-run_pieces
decreases-run_pieces g l = 2 * (l.pieces.end - l.pieces.first)

abbrev pub decreases-join+arg3 : goal.decreases-join+arg3
decreases-join+arg3 g l = 2 * (l.upper.end - l.upper.first) + 1
