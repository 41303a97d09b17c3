-- The ends of the pieces so far.
use Rattle.std.proofs.Common.{◌-◌}
use Rattle.lay_search.specs.Rounds.{Ran}
use Rattle.lay_par.proofs.pieces.run_in_turn.Given as goal

abbrev pub invariant-loop-number : goal.invariant-loop-number
invariant-loop-number g l = Ran l.root.position.registers l.seq l.pieces.quota l.best.arrangement l.pieces.first (l.number - l.pieces.first) l.ends.items
