use Rattle.std.proofs.Common.{◌*◌, ◌≤◌, ◌++◌, ℕ, List, drop}
use Rattle.c25_debug.specs.Session.{Shows}
use Rattle.c25_debug.specs.Standing.{kept_of, IsBehind}
use Rattle.c25_sim.specs.MachineView.{state_of}
use Rattle.c25_debug.proofs.debugger.session.Given as goal

abbrev pub invariant-loop-command : goal.invariant-loop-command
invariant-loop-command l = record {
  steps : l.debugger.steps ≤ 100000 * l.command-index;
  behind : IsBehind (state_of l.initial.debugger.machine) l.debugger;
  follows : (back : List ℕ) → Shows (state_of l.initial.debugger.machine) (drop l.command-index l.script) (kept_of l.debugger) back
      → Shows (state_of l.initial.debugger.machine) l.script (kept_of l.initial.debugger) (l.text.items ++ back);
}
