-- The ends of the pieces so far.
use Rattle.std.proofs.Common.{◌-◌}
use Rattle.lay_search.specs.Rounds.{Ran}
use Rattle.lay_search.proofs.rounds.run_round.Given as goal

abbrev pub invariant-loop-number : goal.invariant-loop-number
invariant-loop-number l = Ran l.root.position.registers l.seq l.quota l.best.arrangement l.first (l.number - l.first) l.ends.items
