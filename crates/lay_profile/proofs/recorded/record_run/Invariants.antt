-- What is made with what is left is all.
use Rattle.std.proofs.Common.{◌≡◌, ◌++◌, map, drop}
use Rattle.std.specs.Prelude.{All}
use Rattle.cc_compile.specs.frame_layouts.Frames.{IsJob, job_with}
use Rattle.lay_profile.specs.Recordings.{entered_from, recording_of, search_options, weighed_from}
use Rattle.lay_profile.proofs.Recordeds.{accesses_of, entry_count, places_in}
use Rattle.lay_profile.proofs.recorded.record_run.Given as goal

abbrev pub invariant-loop-function : goal.invariant-loop-function
invariant-loop-function l = record {
  rest : l.rest ≡ map (entry_count (recording_of l.image l.ports l.options.steps)) (places_in (drop l.function-index l.functions));
  jobs : l.jobs.items ++ map (job_with (search_options l.options))
      (weighed_from (recording_of l.image l.ports l.options.steps) l.function-index (accesses_of (drop l.function-index l.functions)))
      ≡ map (job_with (search_options l.options)) (weighed_from (recording_of l.image l.ports l.options.steps) 0 (accesses_of l.functions));
  are_jobs : All IsJob l.jobs.items;
  entered : l.entered.items
      ++ entered_from (recording_of l.image l.ports l.options.steps) l.function-index (accesses_of (drop l.function-index l.functions))
      ≡ entered_from (recording_of l.image l.ports l.options.steps) 0 (accesses_of l.functions);
}
