use Rattle.std.proofs.Common.{◌≡◌, length}
use Rattle.acc_code.specs.AccView.{item_list}
use Rattle.emit_control.specs.Cuts.{has_access}
use Rattle.emit_blocks.specs.Steps.{run_at}
use Rattle.emit_control.proofs.state.has_access.Given as goal

abbrev pub invariant-loop-first : goal.invariant-loop-first
invariant-loop-first l = has_access (run_at (item_list l.fn.items)) ≡ has_access (run_at (item_list l.rest))

abbrev pub decreases-loop-first : goal.decreases-loop-first
decreases-loop-first l = length l.rest
