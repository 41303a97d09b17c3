-- Repeated words, computed.
use Rattle.std.specs.Prelude.{ℕ, false, List, [], ◌∷◌, ◌++◌, Some, None}
use Rattle.std.proofs.Common.{◌≡◌, refl}
use Rattle.word_base.specs.declared.outcome.Ending.TheVariants as ending
use Rattle.c25_isa.specs.declared.trap.TrapKind.TheVariants as trap
use Rattle.c25_isa.specs.State.{write}
use Rattle.c25_isa.specs.Step.{Ran, Trapped, step}
use Rattle.c25_isa.specs.MachineRun.{Running, Ended, Stopped, machine_run}
use Rattle.c25_isa.proofs.Examples.States.{at, registers, words, board}

-- a repeat is pending behind these, also of one time
rptk_once : step (at 0xcb00 0) ≡ Ran (record (at 0xcb00 0) { pc = 17; repeats = Some 1 })
rptk_once = refl

rptk_most : step (at 0xcbff 0) ≡ Ran (record (at 0xcbff 0) { pc = 17; repeats = Some 256 })
rptk_most = refl

rpt_once : step (at 0x4b00 0) ≡ Ran (record (at 0x4b00 0) { pc = 17; repeats = Some 1 })
rpt_once = refl

rpt_low_byte : step (at 0x4b05 0) ≡ Ran (record (at 0x4b05 0) { pc = 17; repeats = Some 6 })
rpt_low_byte = refl

rpt_most : step (record (at 0x4ba9 0) { ar = λ n. 0xffff }) ≡ Ran (record (at 0x4ba9 0) { ar = write (λ n. 0xffff) 1 0; arp = 1; pc = 17; repeats = Some 256 })
rpt_most = refl

-- PC stands at a repeated word until its last time
stands : step (record (at 0x6000 0) { repeats = Some 2 }) ≡ Ran (record (at 0x6000 0) { pc = 16; repeats = Some 1; ram = write words 0x300 0x5678 })
stands = refl

last_time : step (record (at 0x6000 0) { repeats = Some 1 }) ≡ Ran (record (at 0x6000 0) { pc = 17; repeats = None; ram = write words 0x300 0x5678 })
last_time = refl

many_times : step (record (at 0xce18 0) { repeats = Some 256 }) ≡ Ran (record (at 0xce18 0) { acc = 0x2468acf0; pc = 16; repeats = Some 255 })
many_times = refl

-- the words that may be repeated
repeats_add : step (record (at 0x00a0 0) { repeats = Some 2 }) ≡ Ran (record (at 0x00a0 0) { acc = 0x12345a78; ar = write registers 1 0x401; pc = 16; repeats = Some 1 })
repeats_add = refl

repeats_adds : step (record (at 0x49a0 0) { repeats = Some 2 }) ≡ Ran (record (at 0x49a0 0) { acc = 0x12345a78; ar = write registers 1 0x401; pc = 16; repeats = Some 1 })
repeats_adds = refl

repeats_sub : step (record (at 0x10a0 0) { repeats = Some 2 }) ≡ Ran (record (at 0x10a0 0) { acc = 0x12345278; ar = write registers 1 0x401; pc = 16; repeats = Some 1 })
repeats_sub = refl

repeats_subs : step (record (at 0x45a0 0) { repeats = Some 2 }) ≡ Ran (record (at 0x45a0 0) { acc = 0x12345278; ar = write registers 1 0x401; pc = 16; repeats = Some 1 })
repeats_subs = refl

repeats_subc : step (record (at 0x4700 0) { repeats = Some 2 }) ≡ Ran (record (at 0x4700 0) { acc = 0x2168acf1; pc = 16; repeats = Some 1 })
repeats_subc = refl

repeats_sacl : step (record (at 0x60a0 0) { repeats = Some 2 }) ≡ Ran (record (at 0x60a0 0) { ar = write registers 1 0x401; pc = 16; repeats = Some 1; ram = write words 0x400 0x5678 })
repeats_sacl = refl

repeats_sach : step (record (at 0x68a0 0) { repeats = Some 2 }) ≡ Ran (record (at 0x68a0 0) { ar = write registers 1 0x401; pc = 16; repeats = Some 1; ram = write words 0x400 0x1234 })
repeats_sach = refl

repeats_sfl : step (record (at 0xce18 0) { repeats = Some 2 }) ≡ Ran (record (at 0xce18 0) { acc = 0x2468acf0; pc = 16; repeats = Some 1 })
repeats_sfl = refl

repeats_sfr : step (record (at 0xce19 0) { repeats = Some 2 }) ≡ Ran (record (at 0xce19 0) { acc = 0x91a2b3c; pc = 16; repeats = Some 1 })
repeats_sfr = refl

repeats_apac : step (record (at 0xce15 0) { repeats = Some 2 }) ≡ Ran (record (at 0xce15 0) { acc = 0x99999999; pc = 16; repeats = Some 1 })
repeats_apac = refl

repeats_spac : step (record (at 0xce16 0) { repeats = Some 2 }) ≡ Ran (record (at 0xce16 0) { acc = 0x8acf1357; pc = 16; repeats = Some 1 })
repeats_spac = refl

-- others may not
no_repeat_of_lac : step (record (at 0x2000 0) { repeats = Some 2 }) ≡ Trapped trap.Repeat 16
no_repeat_of_lac = refl

no_repeat_of_lar : step (record (at 0x3000 0) { repeats = Some 2 }) ≡ Trapped trap.Repeat 16
no_repeat_of_lar = refl

no_repeat_of_mpy : step (record (at 0x3800 0) { repeats = Some 2 }) ≡ Trapped trap.Repeat 16
no_repeat_of_mpy = refl

no_repeat_of_lt : step (record (at 0x3c00 0) { repeats = Some 2 }) ≡ Trapped trap.Repeat 16
no_repeat_of_lt = refl

no_repeat_of_zals : step (record (at 0x4100 0) { repeats = Some 2 }) ≡ Trapped trap.Repeat 16
no_repeat_of_zals = refl

no_repeat_of_lact : step (record (at 0x4200 0) { repeats = Some 2 }) ≡ Trapped trap.Repeat 16
no_repeat_of_lact = refl

no_repeat_of_rpt : step (record (at 0x4b00 0) { repeats = Some 2 }) ≡ Trapped trap.Repeat 16
no_repeat_of_rpt = refl

no_repeat_of_xor : step (record (at 0x4c00 0) { repeats = Some 2 }) ≡ Trapped trap.Repeat 16
no_repeat_of_xor = refl

no_repeat_of_or : step (record (at 0x4d00 0) { repeats = Some 2 }) ≡ Trapped trap.Repeat 16
no_repeat_of_or = refl

no_repeat_of_and : step (record (at 0x4e00 0) { repeats = Some 2 }) ≡ Trapped trap.Repeat 16
no_repeat_of_and = refl

no_repeat_of_pshd : step (record (at 0x5400 0) { repeats = Some 2 }) ≡ Trapped trap.Repeat 16
no_repeat_of_pshd = refl

no_repeat_of_mar : step (record (at 0x5580 0) { repeats = Some 2 }) ≡ Trapped trap.Repeat 16
no_repeat_of_mar = refl

no_repeat_of_sar : step (record (at 0x7000 0) { repeats = Some 2 }) ≡ Trapped trap.Repeat 16
no_repeat_of_sar = refl

no_repeat_of_popd : step (record (at 0x7a00 0) { repeats = Some 2 }) ≡ Trapped trap.Repeat 16
no_repeat_of_popd = refl

no_repeat_of_adrk : step (record (at 0x7e00 0) { repeats = Some 2 }) ≡ Trapped trap.Repeat 16
no_repeat_of_adrk = refl

no_repeat_of_sbrk : step (record (at 0x7f00 0) { repeats = Some 2 }) ≡ Trapped trap.Repeat 16
no_repeat_of_sbrk = refl

no_repeat_of_in : step (record (at 0x8000 0) { repeats = Some 2 }) ≡ Trapped trap.Repeat 16
no_repeat_of_in = refl

no_repeat_of_mpyk : step (record (at 0xa000 0) { repeats = Some 2 }) ≡ Trapped trap.Repeat 16
no_repeat_of_mpyk = refl

no_repeat_of_lark : step (record (at 0xc000 0) { repeats = Some 2 }) ≡ Trapped trap.Repeat 16
no_repeat_of_lark = refl

no_repeat_of_ldpk : step (record (at 0xc800 0) { repeats = Some 2 }) ≡ Trapped trap.Repeat 16
no_repeat_of_ldpk = refl

no_repeat_of_lack : step (record (at 0xca00 0) { repeats = Some 2 }) ≡ Trapped trap.Repeat 16
no_repeat_of_lack = refl

no_repeat_of_rptk : step (record (at 0xcb00 0) { repeats = Some 2 }) ≡ Trapped trap.Repeat 16
no_repeat_of_rptk = refl

no_repeat_of_addk : step (record (at 0xcc00 0) { repeats = Some 2 }) ≡ Trapped trap.Repeat 16
no_repeat_of_addk = refl

no_repeat_of_subk : step (record (at 0xcd00 0) { repeats = Some 2 }) ≡ Trapped trap.Repeat 16
no_repeat_of_subk = refl

no_repeat_of_dint : step (record (at 0xce01 0) { repeats = Some 2 }) ≡ Trapped trap.Repeat 16
no_repeat_of_dint = refl

no_repeat_of_rovm : step (record (at 0xce02 0) { repeats = Some 2 }) ≡ Trapped trap.Repeat 16
no_repeat_of_rovm = refl

no_repeat_of_rsxm : step (record (at 0xce06 0) { repeats = Some 2 }) ≡ Trapped trap.Repeat 16
no_repeat_of_rsxm = refl

no_repeat_of_ssxm : step (record (at 0xce07 0) { repeats = Some 2 }) ≡ Trapped trap.Repeat 16
no_repeat_of_ssxm = refl

no_repeat_of_spm : step (record (at 0xce08 0) { repeats = Some 2 }) ≡ Trapped trap.Repeat 16
no_repeat_of_spm = refl

no_repeat_of_pac : step (record (at 0xce14 0) { repeats = Some 2 }) ≡ Trapped trap.Repeat 16
no_repeat_of_pac = refl

no_repeat_of_neg : step (record (at 0xce23 0) { repeats = Some 2 }) ≡ Trapped trap.Repeat 16
no_repeat_of_neg = refl

no_repeat_of_ret : step (record (at 0xce26 0) { repeats = Some 2 }) ≡ Trapped trap.Repeat 16
no_repeat_of_ret = refl

no_repeat_of_cmpl : step (record (at 0xce27 0) { repeats = Some 2 }) ≡ Trapped trap.Repeat 16
no_repeat_of_cmpl = refl

no_repeat_of_lrlk : step (record (at 0xd000 0) { repeats = Some 2 }) ≡ Trapped trap.Repeat 16
no_repeat_of_lrlk = refl

no_repeat_of_lalk : step (record (at 0xd001 0) { repeats = Some 2 }) ≡ Trapped trap.Repeat 16
no_repeat_of_lalk = refl

no_repeat_of_adlk : step (record (at 0xd002 0) { repeats = Some 2 }) ≡ Trapped trap.Repeat 16
no_repeat_of_adlk = refl

no_repeat_of_sblk : step (record (at 0xd003 0) { repeats = Some 2 }) ≡ Trapped trap.Repeat 16
no_repeat_of_sblk = refl

no_repeat_of_andk : step (record (at 0xd004 0) { repeats = Some 2 }) ≡ Trapped trap.Repeat 16
no_repeat_of_andk = refl

no_repeat_of_ork : step (record (at 0xd005 0) { repeats = Some 2 }) ≡ Trapped trap.Repeat 16
no_repeat_of_ork = refl

no_repeat_of_xork : step (record (at 0xd006 0) { repeats = Some 2 }) ≡ Trapped trap.Repeat 16
no_repeat_of_xork = refl

no_repeat_of_out : step (record (at 0xe000 0) { repeats = Some 2 }) ≡ Trapped trap.Repeat 16
no_repeat_of_out = refl

no_repeat_of_bz : step (record (at 0xf680 0) { repeats = Some 2 }) ≡ Trapped trap.Repeat 16
no_repeat_of_bz = refl

no_repeat_of_b : step (record (at 0xff80 0) { repeats = Some 2 }) ≡ Trapped trap.Repeat 16
no_repeat_of_b = refl

no_repeat_of_call : step (record (at 0xfe80 0) { repeats = Some 2 }) ≡ Trapped trap.Repeat 16
no_repeat_of_call = refl

-- behind a repeat of one time a word that may not be repeated traps, and another one runs once
once_then_trap : machine_run (board false (0xcb00 ∷ 0xca05 ∷ [])) (λ port. []) 2 ≡ Stopped [] trap.Repeat 1
once_then_trap = refl

once_then_end : machine_run (board false (0xca05 ∷ 0xcb00 ∷ 0xce18 ∷ 0xce1f ∷ [])) (λ port. []) 4 ≡ Ended [] (ending.Returned 10)
once_then_end = refl

thrice_then_end : machine_run (board false (0xca05 ∷ 0xcb02 ∷ 0xce18 ∷ 0xce1f ∷ [])) (λ port. []) 6 ≡ Ended [] (ending.Returned 40)
thrice_then_end = refl

-- each time is a step
thrice_in_steps : machine_run (board false (0xca05 ∷ 0xcb02 ∷ 0xce18 ∷ 0xce1f ∷ [])) (λ port. []) 5 ≡ Running []
thrice_in_steps = refl

-- 100 by 7: the quotient 14 is in the low half, and the remainder 2 in the high one
abbrev dividing : List ℕ
dividing = 0xc806 ∷ 0xca07 ∷ 0x6000 ∷ 0xca64 ∷ 0xcb0f ∷ 0x4700 ∷ []

divides : machine_run (record (board false (dividing ++ 0xce1f ∷ [])) { ovm = false }) (λ port. []) 22 ≡ Ended [] (ending.Returned 14)
divides = refl

divides_in_steps : machine_run (record (board false (dividing ++ 0xce1f ∷ [])) { ovm = false }) (λ port. []) 21 ≡ Running []
divides_in_steps = refl

leaves_two : machine_run (record (board false (dividing ++ 0x6801 ∷ 0x2001 ∷ 0xce1f ∷ [])) { ovm = false }) (λ port. []) 24 ≡ Ended [] (ending.Returned 2)
leaves_two = refl

-- the overflow mode traps at its first step
not_in_overflow_mode : machine_run (board false (dividing ++ 0xce1f ∷ [])) (λ port. []) 22 ≡ Stopped [] trap.Mode 5
not_in_overflow_mode = refl
