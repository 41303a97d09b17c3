-- What rows do to data memory.
use Rattle.std.specs.Prelude.{◌≡◌, Bool, true, false}
use Rattle.c25_isa.specs.declared.mnemonic.MemoryUse.{MemoryUse}
use Rattle.c25_isa.specs.declared.mnemonic.MemoryUse.TheVariants.{Neither, Reads, Writes}
use Rattle.c25_isa.specs.State.{State}
use Rattle.c25_isa.specs.Step.{Event, Ran, Put, Over, Trapped}

abbrev pub has_operand : MemoryUse → Bool
has_operand Neither = false
has_operand Reads = true
has_operand Writes = true

abbrev pub writes : MemoryUse → Bool
writes Neither = false
writes Reads = false
writes Writes = true

-- where the machine went on, each word of data memory is as it was
abbrev pub LeavesRam : State → Event → Type 0
LeavesRam s (Ran t) = t.ram ≡ s.ram
LeavesRam s (Put word t) = t.ram ≡ s.ram
LeavesRam s (Over ending) = Unit {0}
LeavesRam s (Trapped kind at) = Unit {0}
