-- What is made with what is left is all.
use Rattle.std.proofs.Common.{◌≡◌, ◌++◌, map, drop}
use Rattle.std.specs.Vec.Iter.{into_iter_items}
use Rattle.acc_code.specs.AccView.{function_items_of}
use Rattle.frame_layouts.specs.Frames.{lists_with, findings_with}
use Rattle.frame_layouts.proofs.layouts.found.Given as goal

abbrev pub invariant-loop-function : goal.invariant-loop-function
invariant-loop-function l = record {
  lists : l.arrangements.items ++ lists_with (map function_items_of (drop l.function-index l.functions)) (into_iter_items l.jobs) (into_iter_items l.answers) ≡ lists_with (map function_items_of l.functions) l.fn.jobs.items l.fn.answers.items;
  findings : l.findings.items ++ findings_with (map function_items_of (drop l.function-index l.functions)) (into_iter_items l.jobs) (into_iter_items l.answers) ≡ findings_with (map function_items_of l.functions) l.fn.jobs.items l.fn.answers.items;
}
