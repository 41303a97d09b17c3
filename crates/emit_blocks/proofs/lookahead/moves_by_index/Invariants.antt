use Rattle.std.proofs.Common.{◌≡◌, length}
use Rattle.emit_blocks.specs.Moves.{moves_by_index}
use Rattle.emit_blocks.proofs.lookahead.moves_by_index.Given as goal

abbrev pub invariant-loop-step : goal.invariant-loop-step
invariant-loop-step l = moves_by_index l.index l.fn.steps ≡ moves_by_index l.index l.rest

abbrev pub decreases-loop-step : goal.decreases-loop-step
decreases-loop-step l = length l.rest
