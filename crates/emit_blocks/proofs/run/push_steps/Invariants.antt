use Rattle.std.proofs.Common.{◌≡◌, ◌++◌, length}
use Rattle.c25_code.specs.Items.{plain_items}
use Rattle.emit_blocks.specs.Appended.{known_of}
use Rattle.emit_blocks.specs.Right.{AreRightSteps}
use Rattle.emit_blocks.specs.Runs.{steps_code, nothing_known}
use Rattle.emit_blocks.proofs.run.push_steps.Given as goal

abbrev pub invariant-loop-first : goal.invariant-loop-first
invariant-loop-first l = record {
  right : AreRightSteps l.rest;
  code : l.initial.code.items ++ plain_items (steps_code l.index nothing_known l.fn.steps) ≡ l.code.items ++ plain_items (steps_code l.index (known_of l.known) l.rest);
}

abbrev pub decreases-loop-first : goal.decreases-loop-first
decreases-loop-first l = length l.rest
