use Rattle.std.proofs.Common.{◌≡◌, ◌-◌, []}
use Rattle.c25_isa.specs.MachineRun.{run_from}
use Rattle.c25_sim.specs.Answers.{state_after}
use Rattle.c25_sim.specs.MachineView.{state_of}
use Rattle.c25_sim.proofs.machine.Machine.run.Given as goal

abbrev pub invariant-loop-i : goal.invariant-loop-i
invariant-loop-i l = record {
  reached : run_from l.steps (state_of l.fn.self) [] ≡ run_from (l.steps - l.i) (state_of l.self) l.outs.items;
  state : state_of l.self ≡ state_after l.i (state_of l.fn.self);
}
