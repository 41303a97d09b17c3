-- Traps one by one, computed. A trap answers the address of its word.
use Rattle.std.specs.Prelude.{true, [], ◌∷◌}
use Rattle.std.proofs.Common.{◌≡◌, refl}
use Rattle.c25_isa.specs.declared.trap.TrapKind.TheVariants as trap
use Rattle.c25_isa.specs.State.{write}
use Rattle.c25_isa.specs.Step.{Ran, Trapped, step}
use Rattle.c25_isa.proofs.Examples.States.{at}

-- words that are no instruction
bad_word_0081 : step (at 0x0081 0) ≡ Trapped trap.BadWord 16
bad_word_0081 = refl

bad_word_0087 : step (at 0x0087 0) ≡ Trapped trap.BadWord 16
bad_word_0087 = refl

bad_word_00b0 : step (at 0x00b0 0) ≡ Trapped trap.BadWord 16
bad_word_00b0 = refl

bad_word_00c0 : step (at 0x00c0 0) ≡ Trapped trap.BadWord 16
bad_word_00c0 = refl

bad_word_00f0 : step (at 0x00f0 0) ≡ Trapped trap.BadWord 16
bad_word_00f0 = refl

bad_word_3900 : step (at 0x3900 0) ≡ Trapped trap.BadWord 16
bad_word_3900 = refl

bad_word_4000 : step (at 0x4000 0) ≡ Trapped trap.BadWord 16
bad_word_4000 = refl

bad_word_5000 : step (at 0x5000 0) ≡ Trapped trap.BadWord 16
bad_word_5000 = refl

bad_word_5500 : step (at 0x5500 0) ≡ Trapped trap.BadWord 16
bad_word_5500 = refl

bad_word_557f : step (at 0x557f 0) ≡ Trapped trap.BadWord 16
bad_word_557f = refl

bad_word_7800 : step (at 0x7800 0) ≡ Trapped trap.BadWord 16
bad_word_7800 = refl

bad_word_9000 : step (at 0x9000 0) ≡ Trapped trap.BadWord 16
bad_word_9000 = refl

bad_word_ce00 : step (at 0xce00 0) ≡ Trapped trap.BadWord 16
bad_word_ce00 = refl

bad_word_ce1e : step (at 0xce1e 0) ≡ Trapped trap.BadWord 16
bad_word_ce1e = refl

bad_word_ceff : step (at 0xceff 0) ≡ Trapped trap.BadWord 16
bad_word_ceff = refl

bad_word_cf00 : step (at 0xcf00 0) ≡ Trapped trap.BadWord 16
bad_word_cf00 = refl

bad_word_d800 : step (at 0xd800 0) ≡ Trapped trap.BadWord 16
bad_word_d800 = refl

bad_word_d104 : step (at 0xd104 0) ≡ Trapped trap.BadWord 16
bad_word_d104 = refl

bad_word_d007 : step (at 0xd007 0) ≡ Trapped trap.BadWord 16
bad_word_d007 = refl

bad_word_d0ff : step (at 0xd0ff 0) ≡ Trapped trap.BadWord 16
bad_word_d0ff = refl

bad_word_f080 : step (at 0xf080 0) ≡ Trapped trap.BadWord 16
bad_word_f080 = refl

bad_word_f100 : step (at 0xf100 0) ≡ Trapped trap.BadWord 16
bad_word_f100 = refl

bad_word_fe7f : step (at 0xfe7f 0) ≡ Trapped trap.BadWord 16
bad_word_fe7f = refl

bad_word_f780 : step (at 0xf780 0) ≡ Trapped trap.BadWord 16
bad_word_f780 = refl

bad_word_ff00 : step (at 0xff00 0) ≡ Trapped trap.BadWord 16
bad_word_ff00 = refl

-- the hardware stack
push_on_eight : step (record (at 0x5400 0) { stack = 1 ∷ 2 ∷ 3 ∷ 4 ∷ 5 ∷ 6 ∷ 7 ∷ 8 ∷ [] }) ≡ Trapped trap.StackFull 16
push_on_eight = refl

call_on_eight : step (record (at 0xfe80 0) { stack = 1 ∷ 2 ∷ 3 ∷ 4 ∷ 5 ∷ 6 ∷ 7 ∷ 8 ∷ [] }) ≡ Trapped trap.StackFull 16
call_on_eight = refl

popd_of_none : step (record (at 0x7a00 0) { stack = [] }) ≡ Trapped trap.StackEmpty 16
popd_of_none = refl

ret_of_none : step (record (at 0xce26 0) { stack = [] }) ≡ Trapped trap.StackEmpty 16
ret_of_none = refl

-- the overflow mode at each sum and difference, and a shift of products
mode_at_add : step (record (at 0x0000 0) { ovm = true }) ≡ Trapped trap.Mode 16
mode_at_add = refl

mode_at_adds : step (record (at 0x4900 0) { ovm = true }) ≡ Trapped trap.Mode 16
mode_at_adds = refl

mode_at_sub : step (record (at 0x1000 0) { ovm = true }) ≡ Trapped trap.Mode 16
mode_at_sub = refl

mode_at_subs : step (record (at 0x4500 0) { ovm = true }) ≡ Trapped trap.Mode 16
mode_at_subs = refl

mode_at_subc : step (record (at 0x4700 0) { ovm = true }) ≡ Trapped trap.Mode 16
mode_at_subc = refl

mode_at_addk : step (record (at 0xcc00 0) { ovm = true }) ≡ Trapped trap.Mode 16
mode_at_addk = refl

mode_at_subk : step (record (at 0xcd00 0) { ovm = true }) ≡ Trapped trap.Mode 16
mode_at_subk = refl

mode_at_adlk : step (record (at 0xd002 0) { ovm = true }) ≡ Trapped trap.Mode 16
mode_at_adlk = refl

mode_at_sblk : step (record (at 0xd003 0) { ovm = true }) ≡ Trapped trap.Mode 16
mode_at_sblk = refl

mode_at_apac : step (record (at 0xce15 0) { ovm = true }) ≡ Trapped trap.Mode 16
mode_at_apac = refl

mode_at_spac : step (record (at 0xce16 0) { ovm = true }) ≡ Trapped trap.Mode 16
mode_at_spac = refl

mode_at_neg : step (record (at 0xce23 0) { ovm = true }) ≡ Trapped trap.Mode 16
mode_at_neg = refl

product_mode_at_pac : step (record (at 0xce14 0) { pm = 1 }) ≡ Trapped trap.Mode 16
product_mode_at_pac = refl

product_mode_at_apac : step (record (at 0xce15 0) { pm = 2 }) ≡ Trapped trap.Mode 16
product_mode_at_apac = refl

product_mode_at_spac : step (record (at 0xce16 0) { pm = 3 }) ≡ Trapped trap.Mode 16
product_mode_at_spac = refl

-- other words run in both modes
load_in_overflow_mode : step (record (at 0x2000 0) { ovm = true }) ≡ Ran (record (at 0x2000 0) { acc = 0x300; pc = 17; ovm = true })
load_in_overflow_mode = refl

product_in_overflow_mode : step (record (at 0xce14 0) { ovm = true }) ≡ Ran (record (at 0xce14 0) { acc = 0x87654321; pc = 17; ovm = true })
product_in_overflow_mode = refl

multiply_in_product_mode : step (record (at 0x3800 0) { pm = 1 }) ≡ Ran (record (at 0x3800 0) { p = 0x900; pc = 17; pm = 1 })
multiply_in_product_mode = refl

-- a division
divide_by_a_great_word : step (record (at 0x4780 0) { acc = 0; ar = λ n. 0x8000 }) ≡ Trapped trap.Divide 16
divide_by_a_great_word = refl

divide_a_great_number : step (record (at 0x4700 0) { acc = 0x80000000 }) ≡ Trapped trap.Divide 16
divide_a_great_number = refl

-- an address register through an operand that changes it, also where AR0 is 0
lar_of_the_current_down : step (at 0x3190 0) ≡ Trapped trap.SameRegister 16
lar_of_the_current_down = refl

lar_of_the_current_up : step (at 0x31a0 0) ≡ Trapped trap.SameRegister 16
lar_of_the_current_up = refl

sar_of_the_current_by_index : step (record (at 0x71e0 0) { ar = λ n. 0 }) ≡ Trapped trap.SameRegister 16
sar_of_the_current_by_index = refl

sar_of_the_current_less_index : step (at 0x71d8 0) ≡ Trapped trap.SameRegister 16
sar_of_the_current_less_index = refl

-- data accesses below 0300h; the last one that traps, and the first that doesn't
read_below : step (record (at 0x2000 0) { dp = 5 }) ≡ Trapped trap.NoRam 16
read_below = refl

read_last_below : step (record (at 0x2080 0) { ar = λ n. 0x2ff }) ≡ Trapped trap.NoRam 16
read_last_below = refl

read_first : step (record (at 0x2080 0) { ar = λ n. 0x300 }) ≡ Ran (record (at 0x2080 0) { acc = 0x300; ar = write (λ n. 0x300) 1 0x300; pc = 17 })
read_first = refl

store_below : step (record (at 0x607f 0) { dp = 5 }) ≡ Trapped trap.NoRam 16
store_below = refl

out_below : step (record (at 0xe000 0) { dp = 0 }) ≡ Trapped trap.NoRam 16
out_below = refl

in_below : step (record (at 0x8000 0) { dp = 0 }) ≡ Trapped trap.NoRam 16
in_below = refl

lar_below : step (record (at 0x3000 0) { dp = 0 }) ≡ Trapped trap.NoRam 16
lar_below = refl

sar_below : step (record (at 0x7000 0) { dp = 0 }) ≡ Trapped trap.NoRam 16
sar_below = refl

mar_accesses_nothing : step (record (at 0x5580 0) { ar = λ n. 0 }) ≡ Ran (record (at 0x5580 0) { ar = write (λ n. 0) 1 0; pc = 17 })
mar_accesses_nothing = refl
