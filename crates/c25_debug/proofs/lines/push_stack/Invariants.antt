use Rattle.std.proofs.Common.{◌≡◌, ◌++◌, drop, reverse}
use Rattle.c25_sim.specs.MachineView.{state_of}
use Rattle.c25_debug.specs.Looks.{spaced}
use Rattle.c25_debug.proofs.lines.push_stack.Given as goal

abbrev pub invariant-loop-i : goal.invariant-loop-i
invariant-loop-i l = l.text.items ++ spaced (drop l.i (reverse (state_of l.machine).stack)) ≡ l.initial.text.items ++ spaced (reverse (state_of l.machine).stack)
