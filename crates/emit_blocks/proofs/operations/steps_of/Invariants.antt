use Rattle.std.proofs.Common.{◌≡◌, ◌++◌, length}
use Rattle.acc_code.specs.AccView.{item_list}
use Rattle.emit_blocks.specs.Places.{places_of}
use Rattle.emit_blocks.specs.Right.{HaveWords}
use Rattle.emit_blocks.specs.Steps.{run_at, steps_of}
use Rattle.emit_blocks.proofs.operations.steps_of.Given as goal

abbrev pub invariant-loop-first : goal.invariant-loop-first
invariant-loop-first l = record {
  steps : steps_of (places_of l.site) (run_at (item_list l.fn.items)) ≡ l.steps.items ++ steps_of (places_of l.site) (run_at (item_list l.rest));
  words : HaveWords l.steps.items;
}

abbrev pub decreases-loop-first : goal.decreases-loop-first
decreases-loop-first l = length l.rest
