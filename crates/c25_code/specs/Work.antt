-- Work: the part of the machine's state (docs/MACHINE.md, "State") that straight code reads and changes, and the states in which it runs: at any
-- modes where it doesn't mind them, else the calm ones. PC, the modes, a pending repeat (none here) and program memory are no part of work.
use Rattle.std.specs.Prelude.{◌≡◌, ℕ, ◌<◌, ◌≤◌, ◌^◌, Bool, false, List, length, All, Option, Some, None}
use Rattle.word_base.specs.Ports.{Input, IsInput}
use Rattle.c25_isa.specs.State.{State, Memory}

pub record Work : Type 0 where
  pub acc : ℕ
  pub t : ℕ
  pub p : ℕ
  pub ar : ℕ → ℕ
  pub arp : ℕ
  pub dp : ℕ
  pub sxm : Bool
  pub stack : List ℕ
  pub ram : Memory
  pub input : Input

-- whether sums are cut (OVM), and the shift of products (PM)
pub record Modes : Type 0 where
  pub ovm : Bool
  pub pm : ℕ

-- a state at these modes in which no repeat is pending
abbrev pub at_modes : Modes → Memory → ℕ → Work → State
at_modes modes program pc w = record {
  acc = w.acc;
  t = w.t;
  p = w.p;
  ar = w.ar;
  arp = w.arp;
  dp = w.dp;
  pc = pc;
  sxm = w.sxm;
  ovm = modes.ovm;
  pm = modes.pm;
  stack = w.stack;
  repeats = None;
  program = program;
  ram = w.ram;
  input = w.input;
}

-- sums and products are neither cut nor shifted
abbrev pub calm_modes : Modes
calm_modes = record { ovm = false; pm = 0 }

abbrev pub calm : Memory → ℕ → Work → State
calm program pc w = at_modes calm_modes program pc w

abbrev pub modes_of : State → Modes
modes_of s = record { ovm = s.ovm; pm = s.pm }

abbrev pub work_of : State → Work
work_of s = record {
  acc = s.acc;
  t = s.t;
  p = s.p;
  ar = s.ar;
  arp = s.arp;
  dp = s.dp;
  sxm = s.sxm;
  stack = s.stack;
  ram = s.ram;
  input = s.input;
}

-- each part is in its range
pub record InRange (w : Work) : Type 0 where
  pub acc : w.acc < 2 ^ 32
  pub t : w.t < 2 ^ 16
  pub p : w.p < 2 ^ 32
  pub ar : (n : ℕ) → w.ar n < 2 ^ 16
  pub arp : w.arp < 8
  pub dp : w.dp < 512
  pub stack : All (λ word. word < 2 ^ 16) w.stack
  pub room : length w.stack ≤ 8
  pub ram : (a : ℕ) → w.ram a < 2 ^ 16
  pub input : IsInput w.input

-- the accumulator is what is known of it
abbrev pub HoldsAcc : Option ℕ → ℕ → Type 0
HoldsAcc None acc = Unit {0}
HoldsAcc (Some a) acc = acc ≡ a
