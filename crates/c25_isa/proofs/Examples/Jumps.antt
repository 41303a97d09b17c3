-- Jumps, calls and returns, and the program counter behind program word FFFFh, computed.
use Rattle.std.specs.Prelude.{ℕ, ◌==◌, if◌then◌else◌, [], ◌∷◌}
use Rattle.std.proofs.Common.{◌≡◌, refl}
use Rattle.c25_isa.specs.State.{State, write}
use Rattle.c25_isa.specs.Step.{Ran, step}
use Rattle.c25_isa.proofs.Examples.States.{at, registers}

-- conditions on the accumulator as a signed number: above 0, at 0, and below
bgz_above : step (record (at 0xf180 0x1234) { acc = 0x7fffffff }) ≡ Ran (record (at 0xf180 0x1234) { acc = 0x7fffffff; ar = write registers 1 0x400; pc = 0x1234 })
bgz_above = refl

bgz_at_zero : step (record (at 0xf180 0x1234) { acc = 0 }) ≡ Ran (record (at 0xf180 0x1234) { acc = 0; ar = write registers 1 0x400; pc = 18 })
bgz_at_zero = refl

bgz_below : step (record (at 0xf180 0x1234) { acc = 0x80000000 }) ≡ Ran (record (at 0xf180 0x1234) { acc = 0x80000000; ar = write registers 1 0x400; pc = 18 })
bgz_below = refl

blez_above : step (record (at 0xf280 0x1234) { acc = 0x7fffffff }) ≡ Ran (record (at 0xf280 0x1234) { acc = 0x7fffffff; ar = write registers 1 0x400; pc = 18 })
blez_above = refl

blez_at_zero : step (record (at 0xf280 0x1234) { acc = 0 }) ≡ Ran (record (at 0xf280 0x1234) { acc = 0; ar = write registers 1 0x400; pc = 0x1234 })
blez_at_zero = refl

blez_below : step (record (at 0xf280 0x1234) { acc = 0x80000000 }) ≡ Ran (record (at 0xf280 0x1234) { acc = 0x80000000; ar = write registers 1 0x400; pc = 0x1234 })
blez_below = refl

blz_above : step (record (at 0xf380 0x1234) { acc = 0x7fffffff }) ≡ Ran (record (at 0xf380 0x1234) { acc = 0x7fffffff; ar = write registers 1 0x400; pc = 18 })
blz_above = refl

blz_at_zero : step (record (at 0xf380 0x1234) { acc = 0 }) ≡ Ran (record (at 0xf380 0x1234) { acc = 0; ar = write registers 1 0x400; pc = 18 })
blz_at_zero = refl

blz_below : step (record (at 0xf380 0x1234) { acc = 0x80000000 }) ≡ Ran (record (at 0xf380 0x1234) { acc = 0x80000000; ar = write registers 1 0x400; pc = 0x1234 })
blz_below = refl

bgez_above : step (record (at 0xf480 0x1234) { acc = 0x7fffffff }) ≡ Ran (record (at 0xf480 0x1234) { acc = 0x7fffffff; ar = write registers 1 0x400; pc = 0x1234 })
bgez_above = refl

bgez_at_zero : step (record (at 0xf480 0x1234) { acc = 0 }) ≡ Ran (record (at 0xf480 0x1234) { acc = 0; ar = write registers 1 0x400; pc = 0x1234 })
bgez_at_zero = refl

bgez_below : step (record (at 0xf480 0x1234) { acc = 0x80000000 }) ≡ Ran (record (at 0xf480 0x1234) { acc = 0x80000000; ar = write registers 1 0x400; pc = 18 })
bgez_below = refl

bnz_above : step (record (at 0xf580 0x1234) { acc = 0x7fffffff }) ≡ Ran (record (at 0xf580 0x1234) { acc = 0x7fffffff; ar = write registers 1 0x400; pc = 0x1234 })
bnz_above = refl

bnz_at_zero : step (record (at 0xf580 0x1234) { acc = 0 }) ≡ Ran (record (at 0xf580 0x1234) { acc = 0; ar = write registers 1 0x400; pc = 18 })
bnz_at_zero = refl

bnz_below : step (record (at 0xf580 0x1234) { acc = 0x80000000 }) ≡ Ran (record (at 0xf580 0x1234) { acc = 0x80000000; ar = write registers 1 0x400; pc = 0x1234 })
bnz_below = refl

bz_above : step (record (at 0xf680 0x1234) { acc = 0x7fffffff }) ≡ Ran (record (at 0xf680 0x1234) { acc = 0x7fffffff; ar = write registers 1 0x400; pc = 18 })
bz_above = refl

bz_at_zero : step (record (at 0xf680 0x1234) { acc = 0 }) ≡ Ran (record (at 0xf680 0x1234) { acc = 0; ar = write registers 1 0x400; pc = 0x1234 })
bz_at_zero = refl

bz_below : step (record (at 0xf680 0x1234) { acc = 0x80000000 }) ≡ Ran (record (at 0xf680 0x1234) { acc = 0x80000000; ar = write registers 1 0x400; pc = 18 })
bz_below = refl

-- the operand changes also where there is no jump
bz_goes_on : step (at 0xf6a0 0x1234) ≡ Ran (record (at 0xf6a0 0x1234) { ar = write registers 1 0x401; pc = 18 })
bz_goes_on = refl

bgz_goes_on_by_index : step (record (at 0xf1ea 0x1234) { acc = 0 }) ≡ Ran (record (at 0xf1ea 0x1234) { acc = 0; ar = write registers 1 0x700; arp = 2; pc = 18 })
bgz_goes_on_by_index = refl

bnz_jumps_down : step (at 0xf590 0xffff) ≡ Ran (record (at 0xf590 0xffff) { ar = write registers 1 0x3ff; pc = 0xffff })
bnz_jumps_down = refl

b_jumps : step (at 0xffdf 0) ≡ Ran (record (at 0xffdf 0) { ar = write registers 1 0x100; arp = 7; pc = 0 })
b_jumps = refl

-- calls and returns
call_pushes : step (at 0xfe80 0x0100) ≡ Ran (record (at 0xfe80 0x0100) { ar = write registers 1 0x400; pc = 0x100; stack = 0x12 ∷ 0xaaaa ∷ 0xbbbb ∷ [] })
call_pushes = refl

call_changes : step (at 0xfeab 0x0100) ≡ Ran (record (at 0xfeab 0x0100) { ar = write registers 1 0x401; arp = 3; pc = 0x100; stack = 0x12 ∷ 0xaaaa ∷ 0xbbbb ∷ [] })
call_changes = refl

call_eighth_word : step (record (at 0xfe80 5) { stack = 1 ∷ 2 ∷ 3 ∷ 4 ∷ 5 ∷ 6 ∷ 7 ∷ [] }) ≡ Ran (record (at 0xfe80 5) { ar = write registers 1 0x400; pc = 5; stack = 0x12 ∷ 1 ∷ 2 ∷ 3 ∷ 4 ∷ 5 ∷ 6 ∷ 7 ∷ [] })
call_eighth_word = refl

ret_pops : step (at 0xce26 0) ≡ Ran (record (at 0xce26 0) { pc = 0xaaaa; stack = 0xbbbb ∷ [] })
ret_pops = refl

-- PC wraps behind program word FFFFh
one_word_wraps : step (record (at 0xc807 0xc807) { pc = 65535 }) ≡ Ran (record (at 0xc807 0xc807) { dp = 7; pc = 0 })
one_word_wraps = refl

-- the second word of an instruction at FFFFh is program word 0
abbrev around : ℕ → State
around first = record (at 0 0) { pc = 65535; program = λ a. if a == 65535 then first else (if a == 0 then 0x1234 else 0xffff) }

constant_at_zero : step (around 0xd001) ≡ Ran (record (around 0xd001) { acc = 0x1234; pc = 1 })
constant_at_zero = refl

target_at_zero : step (around 0xff80) ≡ Ran (record (around 0xff80) { ar = write registers 1 0x400; pc = 0x1234 })
target_at_zero = refl

call_at_the_end : step (around 0xfe80) ≡ Ran (record (around 0xfe80) { ar = write registers 1 0x400; pc = 0x1234; stack = 1 ∷ 0xaaaa ∷ 0xbbbb ∷ [] })
call_at_the_end = refl

call_before_the_end : step (record (at 0xfe80 0xfe80) { pc = 65534 }) ≡ Ran (record (at 0xfe80 0xfe80) { ar = write registers 1 0x400; pc = 0xfe80; stack = 0 ∷ 0xaaaa ∷ 0xbbbb ∷ [] })
call_before_the_end = refl
