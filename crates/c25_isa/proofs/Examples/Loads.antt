-- Steps that load from data memory, computed.
use Rattle.std.specs.Prelude.{true}
use Rattle.std.proofs.Common.{◌≡◌, refl}
use Rattle.c25_isa.specs.State.{write}
use Rattle.c25_isa.specs.Step.{Ran, step}
use Rattle.c25_isa.proofs.Examples.States.{at, registers}

-- sums and differences; in direct operands the page is 6, so that the words are those from 0300h on
add_unshifted : step (at 0x0000 0) ≡ Ran (record (at 0x0000 0) { acc = 0x12345978; pc = 17 })
add_unshifted = refl

add_last_shift : step (at 0x0fa0 0) ≡ Ran (record (at 0x0fa0 0) { acc = 0x14345678; ar = write registers 1 0x401; pc = 17 })
add_last_shift = refl

add_wraps : step (record (at 0x0701 0) { acc = 0xffffffff }) ≡ Ran (record (at 0x0701 0) { acc = 0x1807f; pc = 17 })
add_wraps = refl

add_with_sign : step (record (at 0x02a0 0) { ar = λ n. 0xfffe; sxm = true }) ≡ Ran (record (at 0x02a0 0) { acc = 0x12345670; ar = write (λ n. 0xfffe) 1 0xffff; pc = 17; sxm = true })
add_with_sign = refl

add_without_sign : step (record (at 0x02a0 0) { ar = λ n. 0xfffe }) ≡ Ran (record (at 0x02a0 0) { acc = 0x12385670; ar = write (λ n. 0xfffe) 1 0xffff; pc = 17 })
add_without_sign = refl

sub_middle_shift : step (at 0x179a 0) ≡ Ran (record (at 0x179a 0) { acc = 0x12325678; ar = write registers 1 0x3ff; arp = 2; pc = 17 })
sub_middle_shift = refl

sub_wraps : step (record (at 0x1001 0) { acc = 0 }) ≡ Ran (record (at 0x1001 0) { acc = 0xfffffcff; pc = 17 })
sub_wraps = refl

sub_with_sign : step (record (at 0x1f80 0) { ar = λ n. 0x8000; sxm = true }) ≡ Ran (record (at 0x1f80 0) { acc = 0x52345678; ar = write (λ n. 0x8000) 1 0x8000; pc = 17; sxm = true })
sub_with_sign = refl

subs_has_no_sign : step (record (at 0x4580 0) { ar = λ n. 0x8001; sxm = true }) ≡ Ran (record (at 0x4580 0) { acc = 0x1233d677; ar = write (λ n. 0x8001) 1 0x8001; pc = 17; sxm = true })
subs_has_no_sign = refl

adds_has_no_sign : step (record (at 0x4980 0) { ar = λ n. 0x8001; sxm = true }) ≡ Ran (record (at 0x4980 0) { acc = 0x1234d679; ar = write (λ n. 0x8001) 1 0x8001; pc = 17; sxm = true })
adds_has_no_sign = refl

-- loads of the accumulator
lac_greatest_offset : step (at 0x2f7f 0) ≡ Ran (record (at 0x2f7f 0) { acc = 0x1bf8000; pc = 17 })
lac_greatest_offset = refl

lac_by_index : step (at 0x20ef 0) ≡ Ran (record (at 0x20ef 0) { acc = 0x400; ar = write registers 1 0x700; arp = 7; pc = 17 })
lac_by_index = refl

lac_with_sign : step (record (at 0x2780 0) { ar = λ n. 0x8001; sxm = true }) ≡ Ran (record (at 0x2780 0) { acc = 0xffc00080; ar = write (λ n. 0x8001) 1 0x8001; pc = 17; sxm = true })
lac_with_sign = refl

zals_has_no_sign : step (record (at 0x4180 0) { ar = λ n. 0x8001; sxm = true }) ≡ Ran (record (at 0x4180 0) { acc = 0x8001; ar = write (λ n. 0x8001) 1 0x8001; pc = 17; sxm = true })
zals_has_no_sign = refl

lact_low_four_bits : step (record (at 0x4201 0) { t = 0xfff3 }) ≡ Ran (record (at 0x4201 0) { acc = 0x1808; t = 0xfff3; pc = 17 })
lact_low_four_bits = refl

lact_greatest_shift : step (record (at 0x4280 0) { t = 0x1f; ar = λ n. 0x8001; sxm = true }) ≡ Ran (record (at 0x4280 0) { acc = 0xc0008000; t = 0x1f; ar = write (λ n. 0x8001) 1 0x8001; pc = 17; sxm = true })
lact_greatest_shift = refl

lact_no_shift : step (record (at 0x4290 0) { t = 0x10 }) ≡ Ran (record (at 0x4290 0) { acc = 0x400; t = 0x10; ar = write registers 1 0x3ff; pc = 17 })
lact_no_shift = refl

-- the low half with a word
xor_low_half : step (at 0x4c05 0) ≡ Ran (record (at 0x4c05 0) { acc = 0x1234557d; pc = 17 })
xor_low_half = refl

or_low_half : step (at 0x4d05 0) ≡ Ran (record (at 0x4d05 0) { acc = 0x1234577d; pc = 17 })
or_low_half = refl

and_clears_high_half : step (at 0x4e7f 0) ≡ Ran (record (at 0x4e7f 0) { acc = 0x278; pc = 17 })
and_clears_high_half = refl

xor_all_bits : step (record (at 0x4c80 0) { acc = 0xffffffff; ar = λ n. 0xffff }) ≡ Ran (record (at 0x4c80 0) { acc = 0xffff0000; ar = write (λ n. 0xffff) 1 0xffff; pc = 17 })
xor_all_bits = refl

-- T and products
lt_less_index : step (at 0x3cd0 0) ≡ Ran (record (at 0x3cd0 0) { t = 0x400; ar = write registers 1 0x100; pc = 17 })
lt_less_index = refl

mpy_small : step (at 0x3810 0) ≡ Ran (record (at 0x3810 0) { p = 0x930; pc = 17 })
mpy_small = refl

mpy_of_negatives : step (record (at 0x3880 0) { t = 0x8000; ar = λ n. 0x8000 }) ≡ Ran (record (at 0x3880 0) { t = 0x8000; p = 0x40000000; ar = write (λ n. 0x8000) 1 0x8000; pc = 17 })
mpy_of_negatives = refl

mpy_below_zero : step (record (at 0x3801 0) { t = 0xffff }) ≡ Ran (record (at 0x3801 0) { t = 0xffff; p = 0xfffffcff; pc = 17 })
mpy_below_zero = refl

mpy_by_a_negative : step (record (at 0x38a9 0) { t = 2; ar = λ n. 0xfffd }) ≡ Ran (record (at 0x38a9 0) { t = 2; p = 0xfffffffa; ar = write (λ n. 0xfffd) 1 0xfffe; arp = 1; pc = 17 })
mpy_by_a_negative = refl

-- one step of a division, with a difference from 0 on and below it
subc_fits : step (record (at 0x4700 0) { acc = 0x1800001 }) ≡ Ran (record (at 0x4700 0) { acc = 3; pc = 17 })
subc_fits = refl

subc_exact : step (record (at 0x4700 0) { acc = 0x1800000 }) ≡ Ran (record (at 0x4700 0) { acc = 1; pc = 17 })
subc_exact = refl

subc_too_small : step (record (at 0x4701 0) { acc = 0x1800000 }) ≡ Ran (record (at 0x4701 0) { acc = 0x3000000; pc = 17 })
subc_too_small = refl

subc_greatest : step (record (at 0x4780 0) { acc = 0x7fffffff; ar = λ n. 0x7fff }) ≡ Ran (record (at 0x4780 0) { acc = 0x8000ffff; ar = write (λ n. 0x7fff) 1 0x7fff; pc = 17 })
subc_greatest = refl

-- loads of registers
lar_ar0 : step (at 0x3005 0) ≡ Ran (record (at 0x3005 0) { ar = write registers 0 0x305; pc = 17 })
lar_ar0 = refl

lar_ar7 : step (at 0x3790 0) ≡ Ran (record (at 0x3790 0) { ar = write (write registers 1 0x3ff) 7 0x400; pc = 17 })
lar_ar7 = refl

lar_current_register : step (at 0x3180 0) ≡ Ran (record (at 0x3180 0) { ar = write (write registers 1 0x400) 1 0x400; pc = 17 })
lar_current_register = refl

lar_current_register_and_next : step (at 0x318a 0) ≡ Ran (record (at 0x318a 0) { ar = write (write registers 1 0x400) 1 0x400; arp = 2; pc = 17 })
lar_current_register_and_next = refl

-- AR0 is loaded through another register, which goes on by the old AR0
lar_ar0_by_index : step (at 0x30e0 0) ≡ Ran (record (at 0x30e0 0) { ar = write (write registers 1 0x700) 0 0x400; pc = 17 })
lar_ar0_by_index = refl

lar_ar0_less_index : step (at 0x30d0 0) ≡ Ran (record (at 0x30d0 0) { ar = write (write registers 1 0x100) 0 0x400; pc = 17 })
lar_ar0_less_index = refl
