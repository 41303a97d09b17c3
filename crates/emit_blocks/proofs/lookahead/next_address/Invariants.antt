use Rattle.std.proofs.Common.{◌≡◌, length}
use Rattle.emit_blocks.specs.Moves.{next_address}
use Rattle.emit_blocks.proofs.lookahead.next_address.Given as goal

abbrev pub invariant-loop-step : goal.invariant-loop-step
invariant-loop-step l = next_address l.register l.fn.steps ≡ next_address l.register l.rest

abbrev pub decreases-loop-step : goal.decreases-loop-step
decreases-loop-step l = length l.rest
