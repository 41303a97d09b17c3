use Rattle.std.proofs.Common.{◌≡◌, true, vec_len, []}
use Rattle.c25_isa.specs.MachineRun.{run_from}
use Rattle.c25_sim.specs.Answers.{state_after}
use Rattle.c25_sim.specs.MachineView.{state_of}
use Rattle.lay_profile.specs.Entries.{still_runs}
use Rattle.lay_profile.specs.Counting.{AreTimes}
use Rattle.lay_profile.proofs.recording.count_steps.Given as goal

abbrev pub invariant-loop : goal.invariant-loop
invariant-loop l = record {
  length : vec_len l.counts ≡ 65536;
  stands : state_of l.machine ≡ state_after l.counter (state_of l.initial.machine);
  runs : still_runs (run_from l.counter (state_of l.initial.machine) []) ≡ true;
  times : AreTimes (state_of l.initial.machine) l.counter l.counts.items;
}
