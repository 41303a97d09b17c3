-- Instructions in which a walk finds nothing, whatever it knows before them.
use Rattle.std.specs.Prelude.{Bool, true, false, not, ◌&&◌, [], Option, Some, None}
use Rattle.c25_isa.specs.declared.operand.Indirect.{Indirect}
use Rattle.c25_isa.specs.declared.instruction.Instr.{Instr}
use Rattle.c25_isa.specs.Walk.{nothing_known, access_operand}
use Rattle.c25_isa.specs.AddressCount.{is_address_instruction}

abbrev pub is_no_operand : Option Indirect → Bool
is_no_operand None = true
is_no_operand (Some i) = false

-- nothing is accessed through an address register, and none of AR0 and AR2 to AR5 is moved, whichever is current
abbrev pub is_outside : Instr → Bool
is_outside i = is_no_operand (access_operand i) && not (is_address_instruction nothing_known i)
