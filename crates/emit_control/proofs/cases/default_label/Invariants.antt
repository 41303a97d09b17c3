use Rattle.std.proofs.Common.{◌≡◌, length}
use Rattle.emit_control.specs.Cuts as cuts
use Rattle.emit_control.proofs.cases.default_label.Given as goal

abbrev pub invariant-loop-case : goal.invariant-loop-case
invariant-loop-case l = cuts.default_label l.fn.cases l.fn.first l.behind ≡ cuts.default_label l.rest l.own l.behind

abbrev pub decreases-loop-case : goal.decreases-loop-case
decreases-loop-case l = length l.rest
