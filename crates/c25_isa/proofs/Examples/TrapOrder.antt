-- Where two traps hold at one word, the first in the table's order is answered, computed.
use Rattle.std.specs.Prelude.{true, [], ◌∷◌, Some}
use Rattle.std.proofs.Common.{◌≡◌, refl}
use Rattle.c25_isa.specs.declared.trap.TrapKind.TheVariants as trap
use Rattle.c25_isa.specs.Step.{Trapped, step}
use Rattle.c25_isa.proofs.Examples.States.{at}

-- a word that is no instruction, before a pending repeat
bad_word_before_repeat : step (record (at 0xce00 0) { repeats = Some 1 }) ≡ Trapped trap.BadWord 16
bad_word_before_repeat = refl

-- a full or an empty stack, before a repeat and before a missing RAM
full_before_repeat : step (record (at 0xfe80 0) { stack = 1 ∷ 2 ∷ 3 ∷ 4 ∷ 5 ∷ 6 ∷ 7 ∷ 8 ∷ []; repeats = Some 1 }) ≡ Trapped trap.StackFull 16
full_before_repeat = refl

full_before_ram : step (record (at 0x5400 0) { dp = 0; stack = 1 ∷ 2 ∷ 3 ∷ 4 ∷ 5 ∷ 6 ∷ 7 ∷ 8 ∷ [] }) ≡ Trapped trap.StackFull 16
full_before_ram = refl

full_before_both : step (record (at 0x5400 0) { dp = 0; stack = 1 ∷ 2 ∷ 3 ∷ 4 ∷ 5 ∷ 6 ∷ 7 ∷ 8 ∷ []; repeats = Some 1 }) ≡ Trapped trap.StackFull 16
full_before_both = refl

empty_before_repeat : step (record (at 0xce26 0) { stack = []; repeats = Some 1 }) ≡ Trapped trap.StackEmpty 16
empty_before_repeat = refl

empty_before_ram : step (record (at 0x7a00 0) { dp = 0; stack = [] }) ≡ Trapped trap.StackEmpty 16
empty_before_ram = refl

empty_before_both : step (record (at 0x7a00 0) { dp = 0; stack = []; repeats = Some 2 }) ≡ Trapped trap.StackEmpty 16
empty_before_both = refl

-- a mode, before a division, a repeat and a missing RAM
mode_before_divide : step (record (at 0x4700 0) { acc = 0x80000000; ovm = true }) ≡ Trapped trap.Mode 16
mode_before_divide = refl

mode_before_repeat : step (record (at 0xce23 0) { ovm = true; repeats = Some 1 }) ≡ Trapped trap.Mode 16
mode_before_repeat = refl

product_mode_before_repeat : step (record (at 0xce14 0) { pm = 1; repeats = Some 1 }) ≡ Trapped trap.Mode 16
product_mode_before_repeat = refl

mode_before_ram : step (record (at 0x0000 0) { dp = 0; ovm = true }) ≡ Trapped trap.Mode 16
mode_before_ram = refl

mode_before_both : step (record (at 0x4700 0) { acc = 0x80000000; dp = 0; ovm = true }) ≡ Trapped trap.Mode 16
mode_before_both = refl

-- a division, before a missing RAM, whose word counts there; it may be repeated
divide_before_ram : step (record (at 0x4700 0) { acc = 0x80000000; dp = 0 }) ≡ Trapped trap.Divide 16
divide_before_ram = refl

great_word_before_ram : step (record (at 0x4700 0) { acc = 0; dp = 0; ram = λ a. 0x8000 }) ≡ Trapped trap.Divide 16
great_word_before_ram = refl

ram_at_a_small_word : step (record (at 0x4700 0) { acc = 0; dp = 0 }) ≡ Trapped trap.NoRam 16
ram_at_a_small_word = refl

divide_in_a_repeat : step (record (at 0x4700 0) { acc = 0x80000000; repeats = Some 3 }) ≡ Trapped trap.Divide 16
divide_in_a_repeat = refl

-- a repeat, before a register and a missing RAM, and before an end
repeat_before_register : step (record (at 0x31a0 0) { repeats = Some 1 }) ≡ Trapped trap.Repeat 16
repeat_before_register = refl

repeat_before_ram : step (record (at 0x2000 0) { dp = 0; repeats = Some 1 }) ≡ Trapped trap.Repeat 16
repeat_before_ram = refl

repeat_before_both : step (record (at 0x71a0 0) { ar = λ n. 0x2ff; repeats = Some 1 }) ≡ Trapped trap.Repeat 16
repeat_before_both = refl

repeat_before_end : step (record (at 0xce1f 0) { repeats = Some 1 }) ≡ Trapped trap.Repeat 16
repeat_before_end = refl

repeat_before_input_ends : step (record (at 0x8000 0) { repeats = Some 1 }) ≡ Trapped trap.Repeat 16
repeat_before_input_ends = refl

-- a register, before a missing RAM
register_before_ram : step (record (at 0x31a0 0) { ar = λ n. 0x2ff }) ≡ Trapped trap.SameRegister 16
register_before_ram = refl

stored_register_before_ram : step (record (at 0x7190 0) { ar = λ n. 0 }) ≡ Trapped trap.SameRegister 16
stored_register_before_ram = refl

-- a missing RAM, before an end of input
ram_before_input_ends : step (record (at 0x8090 0) { ar = λ n. 0x2ff }) ≡ Trapped trap.NoRam 16
ram_before_input_ends = refl
