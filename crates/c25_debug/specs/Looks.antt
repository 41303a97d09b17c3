-- What commands show of a machine's state (docs/COMMANDS.md, "debug").
use Rattle.std.specs.Prelude.{ℕ, zero, suc, ◌+◌, ◌/◌, ◌%◌, List, [], ◌∷◌, ◌++◌, length, reverse, codes, decimal, flat_map}
use Rattle.std.specs.List.{concat}
use Rattle.text_base.specs.Hex.{hex4}
use Rattle.text_base.specs.Lines.{with_feed}
use Rattle.c25_isa.specs.State.{State, Memory}

-- a number of 32 bits as eight digits
abbrev pub hex8 : ℕ → List ℕ
hex8 n = hex4 (n / 65536) ++ hex4 (n % 65536)

-- words, each behind one space
abbrev pub spaced : List ℕ → List ℕ
spaced words = flat_map (λ w. 32 ∷ hex4 w) words

-- the words of AR0 to AR7
abbrev pub address_registers : State → List ℕ
address_registers s = s.ar 0 ∷ s.ar 1 ∷ s.ar 2 ∷ s.ar 3 ∷ s.ar 4 ∷ s.ar 5 ∷ s.ar 6 ∷ s.ar 7 ∷ []

abbrev pub registers_line : State → List ℕ
registers_line s = concat
    (codes "acc " ∷ hex8 s.acc
    ∷ codes " t " ∷ hex4 s.t
    ∷ codes " p " ∷ hex8 s.p
    ∷ codes " ar" ∷ spaced (address_registers s)
    ∷ codes " arp " ∷ decimal s.arp
    ∷ codes " dp " ∷ decimal s.dp
    ∷ codes " pc " ∷ hex4 s.pc
    ∷ [])

-- the line of a word of data memory
abbrev pub memory_line : Memory → ℕ → List ℕ
memory_line ram at = hex4 at ++ 32 ∷ hex4 (ram at)

-- the lines of so many words from an address on: addresses wrap to 0 behind ffff
abbrev pub memory_text : Memory → ℕ → ℕ → List ℕ
memory_text ram at zero = []
memory_text ram at (suc count) = with_feed (memory_line ram at) ++ memory_text ram ((at + 1) % 65536) count

-- the line of a hardware stack whose top is first: the oldest word is shown first
abbrev pub stack_line : List ℕ → List ℕ
stack_line stack = codes "stack " ++ (decimal (length stack) ++ spaced (reverse stack))

-- the line of a stop at a PC behind so many steps
abbrev pub stopped_line : ℕ → ℕ → List ℕ
stopped_line pc steps = concat (codes "stopped " ∷ hex4 pc ∷ codes " after " ∷ decimal steps ∷ codes " steps" ∷ [])
