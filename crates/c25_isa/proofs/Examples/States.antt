-- States from which the examples start.
use Rattle.std.specs.Prelude.{ℕ, ◌+◌, ◌*◌, ◌==◌, Bool, true, false, if◌then◌else◌, List, [], ◌∷◌, slice_index, None}
use Rattle.c25_isa.specs.State.{State, Start, Memory}

-- AR0 is 0300h, and each register behind it is greater by 0100h
abbrev pub registers : ℕ → ℕ
registers n = 0x300 + n * 0x100

-- each word is its own address
abbrev pub words : Memory
words a = a

-- a state at these two words: the current register is AR1, and the page begins at 0300h
abbrev pub at : ℕ → ℕ → State
at first second = record {
  acc = 0x12345678;
  t = 3;
  p = 0x87654321;
  ar = registers;
  arp = 1;
  dp = 6;
  pc = 16;
  sxm = false;
  ovm = false;
  pm = 0;
  stack = 0xaaaa ∷ 0xbbbb ∷ [];
  repeats = None;
  program = λ a. if a == 16 then first else second;
  ram = words;
  input = λ port. [];
}

-- a board whose registers, modes and memories hold anything but zero, with these words from program word 0 on
abbrev pub board : Bool → List ℕ → Start
board extends program = record {
  acc = 4294967295;
  t = 17;
  p = 18;
  ar = λ n. 19;
  arp = 7;
  dp = 511;
  sxm = extends;
  ovm = true;
  pm = 3;
  program = λ a. slice_index program a;
  ram = λ a. 20;
}
