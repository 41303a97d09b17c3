use Rattle.std.proofs.Common.{◌≡◌, length}
use Rattle.acc_code.specs.AccView.{item_list}
use Rattle.emit_blocks.specs.Steps.{run_at, is_loaded_next}
use Rattle.emit_blocks.proofs.operations.is_loaded_next.Given as goal

abbrev pub invariant-loop-first : goal.invariant-loop-first
invariant-loop-first l = is_loaded_next (run_at (item_list l.fn.items)) ≡ is_loaded_next (run_at (item_list l.rest))

abbrev pub decreases-loop-first : goal.decreases-loop-first
decreases-loop-first l = length l.rest
