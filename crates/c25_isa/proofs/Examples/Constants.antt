-- Steps that need no data memory, computed.
use Rattle.std.specs.Prelude.{true, false}
use Rattle.std.proofs.Common.{◌≡◌, refl}
use Rattle.word_base.specs.declared.outcome.Ending.TheVariants as ending
use Rattle.c25_isa.specs.State.{write}
use Rattle.c25_isa.specs.Step.{Ran, Over, step}
use Rattle.c25_isa.proofs.Examples.States.{at, registers}

-- constants of eight bits
adrk_greatest : step (at 0x7eff 0) ≡ Ran (record (at 0x7eff 0) { ar = write registers 1 0x4ff; pc = 17 })
adrk_greatest = refl

adrk_wraps : step (record (at 0x7e01 0) { ar = λ n. 0xffff }) ≡ Ran (record (at 0x7e01 0) { ar = write (λ n. 0xffff) 1 0; pc = 17 })
adrk_wraps = refl

sbrk_greatest : step (at 0x7fff 0) ≡ Ran (record (at 0x7fff 0) { ar = write registers 1 0x301; pc = 17 })
sbrk_greatest = refl

sbrk_wraps : step (record (at 0x7f01 0) { ar = λ n. 0 }) ≡ Ran (record (at 0x7f01 0) { ar = write (λ n. 0) 1 0xffff; pc = 17 })
sbrk_wraps = refl

sbrk_nothing : step (at 0x7f00 0) ≡ Ran (record (at 0x7f00 0) { ar = write registers 1 0x400; pc = 17 })
sbrk_nothing = refl

lark_ar0 : step (at 0xc0ff 0) ≡ Ran (record (at 0xc0ff 0) { ar = write registers 0 0xff; pc = 17 })
lark_ar0 = refl

lark_ar7 : step (at 0xc700 0) ≡ Ran (record (at 0xc700 0) { ar = write registers 7 0; pc = 17 })
lark_ar7 = refl

lack_greatest : step (at 0xcaff 0) ≡ Ran (record (at 0xcaff 0) { acc = 0xff; pc = 17 })
lack_greatest = refl

addk_wraps : step (record (at 0xccff 0) { acc = 0xffffffff }) ≡ Ran (record (at 0xccff 0) { acc = 0xfe; pc = 17 })
addk_wraps = refl

subk_wraps : step (record (at 0xcd01 0) { acc = 0 }) ≡ Ran (record (at 0xcd01 0) { acc = 0xffffffff; pc = 17 })
subk_wraps = refl

subk_nothing : step (at 0xcd00 0) ≡ Ran (record (at 0xcd00 0) { acc = 0x12345678; pc = 17 })
subk_nothing = refl

-- pages
ldpk_first : step (at 0xc800 0) ≡ Ran (record (at 0xc800 0) { dp = 0; pc = 17 })
ldpk_first = refl

ldpk_last : step (at 0xc9ff 0) ≡ Ran (record (at 0xc9ff 0) { dp = 0x1ff; pc = 17 })
ldpk_last = refl

-- signed constants of thirteen bits
mpyk_greatest : step (record (at 0xafff 0) { t = 0x7fff }) ≡ Ran (record (at 0xafff 0) { t = 0x7fff; p = 0x7ff7001; pc = 17 })
mpyk_greatest = refl

mpyk_least : step (record (at 0xb000 0) { t = 0x8000 }) ≡ Ran (record (at 0xb000 0) { t = 0x8000; p = 0x8000000; pc = 17 })
mpyk_least = refl

mpyk_less_one : step (at 0xbfff 0) ≡ Ran (record (at 0xbfff 0) { p = 0xfffffffd; pc = 17 })
mpyk_less_one = refl

mpyk_nothing : step (record (at 0xa000 0) { t = 0xffff }) ≡ Ran (record (at 0xa000 0) { t = 0xffff; p = 0; pc = 17 })
mpyk_nothing = refl

-- words behind
lrlk_ar0 : step (at 0xd000 0xffff) ≡ Ran (record (at 0xd000 0xffff) { ar = write registers 0 0xffff; pc = 18 })
lrlk_ar0 = refl

lrlk_ar7 : step (at 0xd700 0x1234) ≡ Ran (record (at 0xd700 0x1234) { ar = write registers 7 0x1234; pc = 18 })
lrlk_ar7 = refl

lalk_unshifted : step (at 0xd001 0x8001) ≡ Ran (record (at 0xd001 0x8001) { acc = 0x8001; pc = 18 })
lalk_unshifted = refl

lalk_with_sign : step (record (at 0xd401 0x8001) { sxm = true }) ≡ Ran (record (at 0xd401 0x8001) { acc = 0xfff80010; pc = 18; sxm = true })
lalk_with_sign = refl

lalk_last_shift : step (at 0xdf01 0xffff) ≡ Ran (record (at 0xdf01 0xffff) { acc = 0x7fff8000; pc = 18 })
lalk_last_shift = refl

adlk_middle_shift : step (at 0xd702 0x8000) ≡ Ran (record (at 0xd702 0x8000) { acc = 0x12745678; pc = 18 })
adlk_middle_shift = refl

adlk_with_sign : step (record (at 0xdf02 0xffff) { sxm = true }) ≡ Ran (record (at 0xdf02 0xffff) { acc = 0x1233d678; pc = 18; sxm = true })
adlk_with_sign = refl

sblk_unshifted : step (at 0xd003 0x5678) ≡ Ran (record (at 0xd003 0x5678) { acc = 0x12340000; pc = 18 })
sblk_unshifted = refl

sblk_wraps : step (at 0xdf03 0xffff) ≡ Ran (record (at 0xdf03 0xffff) { acc = 0x9234d678; pc = 18 })
sblk_wraps = refl

andk_clears_high_half : step (at 0xd004 0xff0f) ≡ Ran (record (at 0xd004 0xff0f) { acc = 0x5608; pc = 18 })
andk_clears_high_half = refl

ork_low_half : step (at 0xd005 0x8001) ≡ Ran (record (at 0xd005 0x8001) { acc = 0x1234d679; pc = 18 })
ork_low_half = refl

xork_low_half : step (at 0xd006 0xffff) ≡ Ran (record (at 0xd006 0xffff) { acc = 0x1234a987; pc = 18 })
xork_low_half = refl

-- words that say all
dint_does_nothing : step (at 0xce01 0) ≡ Ran (record (at 0xce01 0) { pc = 17 })
dint_does_nothing = refl

rovm_clears : step (record (at 0xce02 0) { ovm = true }) ≡ Ran (record (at 0xce02 0) { pc = 17; ovm = false })
rovm_clears = refl

rsxm_clears : step (record (at 0xce06 0) { sxm = true }) ≡ Ran (record (at 0xce06 0) { pc = 17; sxm = false })
rsxm_clears = refl

ssxm_sets : step (at 0xce07 0) ≡ Ran (record (at 0xce07 0) { pc = 17; sxm = true })
ssxm_sets = refl

spm_clears : step (record (at 0xce08 0) { pm = 3 }) ≡ Ran (record (at 0xce08 0) { pc = 17; pm = 0 })
spm_clears = refl

pac_copies : step (at 0xce14 0) ≡ Ran (record (at 0xce14 0) { acc = 0x87654321; pc = 17 })
pac_copies = refl

apac_adds : step (at 0xce15 0) ≡ Ran (record (at 0xce15 0) { acc = 0x99999999; pc = 17 })
apac_adds = refl

apac_wraps : step (record (at 0xce15 0) { acc = 0x80000000 }) ≡ Ran (record (at 0xce15 0) { acc = 0x7654321; pc = 17 })
apac_wraps = refl

spac_wraps : step (at 0xce16 0) ≡ Ran (record (at 0xce16 0) { acc = 0x8acf1357; pc = 17 })
spac_wraps = refl

sfl_drops_a_bit : step (record (at 0xce18 0) { acc = 0xc0000001 }) ≡ Ran (record (at 0xce18 0) { acc = 0x80000002; pc = 17 })
sfl_drops_a_bit = refl

sfr_without_sign : step (record (at 0xce19 0) { acc = 0x80000001 }) ≡ Ran (record (at 0xce19 0) { acc = 0x40000000; pc = 17 })
sfr_without_sign = refl

sfr_with_sign : step (record (at 0xce19 0) { acc = 0x80000001; sxm = true }) ≡ Ran (record (at 0xce19 0) { acc = 0xc0000000; pc = 17; sxm = true })
sfr_with_sign = refl

sfr_of_a_positive : step (record (at 0xce19 0) { acc = 0x7fffffff; sxm = true }) ≡ Ran (record (at 0xce19 0) { acc = 0x3fffffff; pc = 17; sxm = true })
sfr_of_a_positive = refl

idle_returns_the_low_half : step (at 0xce1f 0) ≡ Over (ending.Returned 0x5678)
idle_returns_the_low_half = refl

neg_of_one : step (record (at 0xce23 0) { acc = 1 }) ≡ Ran (record (at 0xce23 0) { acc = 0xffffffff; pc = 17 })
neg_of_one = refl

neg_of_nothing : step (record (at 0xce23 0) { acc = 0 }) ≡ Ran (record (at 0xce23 0) { acc = 0; pc = 17 })
neg_of_nothing = refl

neg_of_the_least : step (record (at 0xce23 0) { acc = 0x80000000 }) ≡ Ran (record (at 0xce23 0) { acc = 0x80000000; pc = 17 })
neg_of_the_least = refl

cmpl_all_bits : step (at 0xce27 0) ≡ Ran (record (at 0xce27 0) { acc = 0xedcba987; pc = 17 })
cmpl_all_bits = refl
