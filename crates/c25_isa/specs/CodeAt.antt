-- Instructions that stand in program memory (docs/MACHINE.md, "Instructions").
use Rattle.std.specs.Prelude.{◌≡◌, ℕ, ◌+◌, ◌<◌, ◌≤◌, List, [], ◌∷◌, length, get_or, Option, Some, None}
use Rattle.c25_isa.specs.declared.instruction.Instr.{Instr}
use Rattle.c25_isa.specs.State.{Memory}
use Rattle.c25_isa.specs.Table.{IsInstr, first_word, second_word, length_of}

-- the word behind is the instruction's second word, if it has one
abbrev pub Follows : Option ℕ → ℕ → Type 0
Follows None next = Unit {0}
Follows (Some word) next = next ≡ word

-- these words stand from an address on
abbrev pub WordsAt : Memory → ℕ → List ℕ → Type 0
WordsAt program pc words = (a : ℕ) → a < length words → program (pc + a) ≡ get_or words a 0

-- the words of an instruction stand at an address, all of them in program memory
pub record StandsAt (program : Memory) (pc : ℕ) (i : Instr) : Type 0 where
  pub fits : IsInstr i
  pub first : program pc ≡ first_word i
  pub second : Follows (second_word i) (program (pc + 1))
  pub room : pc + length_of (second_word i) ≤ 65536

-- the instructions stand one behind another
abbrev pub CodeAt : Memory → ℕ → List Instr → Type 0
CodeAt program pc [] = Unit {0}
CodeAt program pc (i ∷ is) = StandsAt program pc i × CodeAt program (pc + length_of (second_word i)) is
