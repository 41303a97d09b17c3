-- How many instructions of a range do nothing but move an address register: the count of docs/MACHINE.md, "Walks".
use Rattle.std.specs.Prelude.{ℕ, Bool, true, false, not, ◌==◌, ◌&&◌, ◌||◌, if◌then◌else◌, List, length, flat_map, Option, Some, None}
use Rattle.c25_isa.specs.declared.operand.Indirect.{Indirect}
use Rattle.c25_isa.specs.declared.instruction.Instr.{Instr}
use Rattle.c25_isa.specs.declared.instruction.Instr.TheVariants.{Lar, Adrk, Sbrk, Lark, Lrlk}
use Rattle.c25_isa.specs.Step.{stays}
use Rattle.c25_isa.specs.Walk.{Known, code_of, idle_operand, in_stretches, goes_over_scalars}

-- AR2 to AR5, and AR0, by which they are changed
abbrev pub is_counted_register : ℕ → Bool
is_counted_register register = (register == 0) || goes_over_scalars register

-- whether the current register is one of these, or may be
abbrev pub may_be_counted : Option ℕ → Bool
may_be_counted None = true
may_be_counted (Some register) = is_counted_register register

-- whether an operand changes the current register; one that only makes another one current doesn't
abbrev pub moves : Option Indirect → Bool
moves None = false
moves (Some i) = not (stays i.change)

-- whether an instruction is counted, by what is known before it. The change behind an access isn't.
abbrev pub is_address_instruction : Known → Instr → Bool
is_address_instruction k (Lark register constant) = is_counted_register register
is_address_instruction k (Lrlk register word) = is_counted_register register
is_address_instruction k (Lar register o) = is_counted_register register
is_address_instruction k (Adrk constant) = may_be_counted k.arp
is_address_instruction k (Sbrk constant) = may_be_counted k.arp
is_address_instruction k i = moves (idle_operand i) && may_be_counted k.arp

-- where the counted instructions of a range are
abbrev pub address_instructions : List ℕ → ℕ → ℕ → List ℕ
address_instructions words first last =
    flat_map (λ ats. ats)
    (in_stretches (λ k p. if is_address_instruction k p.instr then Some p.at else None) (code_of words first last))

abbrev pub address_count : List ℕ → ℕ → ℕ → ℕ
address_count words first last = length (address_instructions words first last)
