use Rattle.std.proofs.Common.{◌≡◌, map, take}
use Rattle.std.specs.Prelude.{All}
use Rattle.acc_code.specs.AccView.{function_items_of}
use Rattle.frame_layouts.specs.Frames.{IsJob, job_of}
use Rattle.frame_layouts.proofs.layouts.jobs_of.Given as goal

abbrev pub invariant-loop-function : goal.invariant-loop-function
invariant-loop-function l = record {
  jobs : l.jobs.items ≡ map (job_of l.options) (map function_items_of (take l.function-index l.functions));
  are_jobs : All IsJob l.jobs.items;
}
