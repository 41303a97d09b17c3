use Rattle.std.proofs.Common.{◌≡◌, length}
use Rattle.emit_blocks.specs.Moves.{next_register}
use Rattle.emit_blocks.proofs.lookahead.next_register.Given as goal

abbrev pub invariant-loop-step : goal.invariant-loop-step
invariant-loop-step l = next_register l.fn.steps ≡ next_register l.rest

abbrev pub decreases-loop-step : goal.decreases-loop-step
decreases-loop-step l = length l.rest
