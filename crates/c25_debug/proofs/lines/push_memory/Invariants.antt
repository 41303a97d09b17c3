use Rattle.std.proofs.Common.{◌≡◌, ◌++◌, ◌-◌}
use Rattle.c25_sim.specs.MachineView.{state_of}
use Rattle.c25_debug.specs.Looks.{memory_text}
use Rattle.c25_debug.proofs.lines.push_memory.Given as goal

abbrev pub invariant-loop-i : goal.invariant-loop-i
invariant-loop-i l = l.text.items ++ memory_text (state_of l.machine).ram l.address (l.count - l.i) ≡ l.initial.text.items ++ memory_text (state_of l.machine).ram l.at l.count
