-- What the machine has no instruction for: a routine that shifts a signed word to the right, and a division (docs/MACHINE.md, "Loads of ACC,
-- sums and differences", "Bits and shifts of ACC", and "Ports, repeats and modes").
use Rattle.std.specs.Prelude.{ℕ, ◌-◌, ◌/◌, ◌^◌, nat_lt, if◌then◌else◌, List, [], ◌∷◌}
use Rattle.c25_isa.specs.declared.operand.Operand.TheVariants.{Direct}
use Rattle.c25_isa.specs.declared.instruction.Instr.{Instr}
use Rattle.c25_isa.specs.declared.instruction.Instr.TheVariants.{Sub, Lac, Lt, Lact, Sacl, Sach, Ldpk, Lack, Ssxm}

-- the word in 0300h by the count in 0301h; 0302h is overwritten
abbrev pub shift_body : List Instr
shift_body =
    Ldpk 6
    ∷ Ssxm
    ∷ Lack 15
    ∷ Sub 0 (Direct 1)
    ∷ Sacl 0 (Direct 2)
    ∷ Lt (Direct 2)
    ∷ Lact (Direct 0)
    ∷ Sach 1 (Direct 2)
    ∷ Lac 0 (Direct 2)
    ∷ []

-- the shift with a copied sign
abbrev pub signed_shift : ℕ → ℕ → ℕ
signed_shift word count = if nat_lt word 32768 then word / 2 ^ count else 65535 - (65535 - word) / 2 ^ count
