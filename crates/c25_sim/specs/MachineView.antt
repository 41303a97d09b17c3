-- The state that a machine in memory stands for: the state of docs/MACHINE.md.
use Rattle.std.specs.Prelude.{ℕ, List, [], reverse, slice_index_or}
use Rattle.word_base.specs.Ports.{Input}
use Rattle.c25_isa.specs.State.{State, words_at}
use Rattle.c25_sim.specs.declared.machine.Machine.{Machine}

-- what the ports have left, by their numbers
abbrev pub inputs_of : List (List ℕ) → Input
inputs_of inputs = λ port. slice_index_or inputs port []

abbrev pub state_of : Machine → State
state_of m = record {
  acc = m.acc;
  t = m.t;
  p = m.p;
  ar = words_at m.ar;
  arp = m.arp;
  dp = m.dp;
  pc = m.pc;
  sxm = m.sxm;
  ovm = m.ovm;
  pm = m.pm;
  stack = reverse m.stack.items;
  repeats = m.repeats;
  program = words_at m.program.items;
  ram = words_at m.ram.items;
  input = inputs_of m.inputs.items;
}
