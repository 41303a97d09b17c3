use Rattle.std.proofs.Common.{◌≡◌, ◌+◌}
use Rattle.c25_sim.specs.MachineView.{state_of}
use Rattle.c25_debug.specs.Standing.{breakpoints_of}
use Rattle.c25_debug.proofs.Going.{GoesOn}
use Rattle.c25_debug.proofs.debugger.Debugger.go.Given as goal

abbrev pub invariant-loop-i : goal.invariant-loop-i
invariant-loop-i l = record {
  goes : GoesOn (state_of l.initial.self.machine) (state_of l.self.machine) (breakpoints_of l.initial.self.breakpoints) l.i l.initial.text.items l.text.items;
  steps : l.self.steps ≡ l.initial.self.steps + l.i;
  breakpoints : l.self.breakpoints ≡ l.initial.self.breakpoints;
}
