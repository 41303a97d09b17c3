use Rattle.std.proofs.Common.{◌≡◌, ◌≢◌, ◌<◌, ◌≤◌, [], length}
use Rattle.acc_code.specs.AccView.{item_list}
use Rattle.emit_blocks.specs.Steps.{run_at, behind_run}
use Rattle.emit_blocks.proofs.operations.behind_run.Given as goal

abbrev pub invariant-loop-first : goal.invariant-loop-first
invariant-loop-first l = record {
  items : behind_run (item_list l.fn.items) ≡ behind_run (item_list l.rest);
  most : length l.rest ≤ length l.fn.items;
  shorter : run_at (item_list l.fn.items) ≢ [] → run_at (item_list l.rest) ≡ [] → length l.rest < length l.fn.items;
}

abbrev pub decreases-loop-first : goal.decreases-loop-first
decreases-loop-first l = length l.rest
