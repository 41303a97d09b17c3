-- Walks, counts of address instructions and direct operands, computed. The expected values are worked out by hand from the
-- instruction table and the rules of docs/MACHINE.md.
use Rattle.std.specs.Prelude.{ℕ, false, List, [], ◌∷◌, ◌++◌}
use Rattle.std.specs.List.{range_with_len}
use Rattle.std.proofs.Common.{◌≡◌, refl}
use Rattle.c25_isa.specs.Walk.{Blocks, BadWord, UnknownAddress, walk}
use Rattle.c25_isa.specs.AddressCount.{address_instructions, address_count}
use Rattle.c25_isa.specs.Direct.{Direct, is_direct}

-- A filter over sixteen samples, as an image: the startup up to word 0030h, then the filter `fir` up to 0098h, then `main`.
-- Its table lies from 0310h on and the samples from 0321h on, each with a word behind it; the frame of `fir` is from 0332h
-- on: the sample, the sum, a temporary, the index, a pointer, another temporary. The numbers behind a line are the accesses
-- of that line through AR2.
abbrev startup : List ℕ
startup =
    -- ROVM; SPM 0; MAR *,AR1; LRLK AR1; RSXM; LALK; at 0008h SACH *+; SUBK 1; BNZ to 0008h
    0xce02 ∷ 0xce08 ∷ 0x5589 ∷ 0xd100 ∷ 0x310 ∷ 0xce06 ∷ 0xd001 ∷ 0x22 ∷ 0x68a0 ∷ 0xcd01 ∷ 0xf580 ∷ 0x8
    -- at 000ch LRLK AR1; LACK and SACL *+ for the sixteen numbers
    ∷ 0xd100 ∷ 0x310 ∷ 0xca01 ∷ 0x60a0 ∷ 0xca02 ∷ 0x60a0 ∷ 0xca03 ∷ 0x60a0 ∷ 0xca04 ∷ 0x60a0 ∷ 0xca05 ∷ 0x60a0
    ∷ 0xca06 ∷ 0x60a0 ∷ 0xca07 ∷ 0x60a0 ∷ 0xca08 ∷ 0x60a0 ∷ 0x60a0 ∷ 0xca07 ∷ 0x60a0 ∷ 0xca06 ∷ 0x60a0
    ∷ 0xca05 ∷ 0x60a0 ∷ 0xca04 ∷ 0x60a0 ∷ 0xca03 ∷ 0x60a0 ∷ 0xca02 ∷ 0x60a0 ∷ 0xca01 ∷ 0x60a0
    -- at 002dh SSXM; CALL to 0099h; IDLE
    ∷ 0xce07 ∷ 0xfe80 ∷ 0x99 ∷ 0xce1f ∷ []

abbrev fir : List ℕ
fir =
    -- at 0031h LACK 15; LRLK AR2; MAR *,AR2; SACL *: 0335h
    0xca0f ∷ 0xd200 ∷ 0x335 ∷ 0x558a ∷ 0x6080
    -- at 0036h LRLK AR2; MAR *,AR2; LAC *; BLEZ to 0059h: 0335h
    ∷ 0xd200 ∷ 0x335 ∷ 0x558a ∷ 0x2080 ∷ 0xf280 ∷ 0x59
    -- at 003ch LALK; LRLK AR2; MAR *,AR2; ADD *-; SACL *+: 0335h, 0334h
    ∷ 0xd001 ∷ 0x321 ∷ 0xd200 ∷ 0x335 ∷ 0x558a ∷ 0x90 ∷ 0x60a0
    -- at 0043h LAC *-,AR1; SUBK 1; ADLK; LDPK 6; SACL 030fh; LAR AR1 from there; LAC *,AR2: 0335h
    ∷ 0x2099 ∷ 0xcd01 ∷ 0xd002 ∷ 0x321 ∷ 0xc806 ∷ 0x600f ∷ 0x310f ∷ 0x208a
    -- at 004bh SACL 0300h; LAR AR1,*,AR1; LAC 0300h; SACL *; B to the next word: 0334h
    ∷ 0x6000 ∷ 0x3189 ∷ 0x2000 ∷ 0x6080 ∷ 0xff80 ∷ 0x51
    -- at 0051h LRLK AR2; MAR *,AR2; LAC *; SUBK 1; SACL *; B to 0036h: 0335h twice
    ∷ 0xd200 ∷ 0x335 ∷ 0x558a ∷ 0x2080 ∷ 0xcd01 ∷ 0x6080 ∷ 0xff80 ∷ 0x36
    -- at 0059h LRLK AR1; LRLK AR2; MAR *,AR2; LAC *+,AR1; SACL *,AR2: 0332h
    ∷ 0xd100 ∷ 0x321 ∷ 0xd200 ∷ 0x332 ∷ 0x558a ∷ 0x20a9 ∷ 0x608a
    -- at 0060h LACK 0; SACL *; LALK; ADRK 3; SACL *-; LACK 0; SACL *: 0333h, 0336h, 0335h
    ∷ 0xca00 ∷ 0x6080 ∷ 0xd001 ∷ 0x310 ∷ 0x7e03 ∷ 0x6090 ∷ 0xca00 ∷ 0x6080
    -- at 0068h LRLK AR2; MAR *,AR2; LAC *; SUBK 16; BGEZ to 0092h: 0335h
    ∷ 0xd200 ∷ 0x335 ∷ 0x558a ∷ 0x2080 ∷ 0xcd10 ∷ 0xf480 ∷ 0x92
    -- at 006fh LRLK AR2; MAR *,AR2; LAC *+; SACL *+: 0333h, 0334h
    ∷ 0xd200 ∷ 0x333 ∷ 0x558a ∷ 0x20a0 ∷ 0x60a0
    -- at 0074h LALK; ADD *,AR1; LDPK 6; SACL 030fh; LAR AR1 from there; LAC *,AR2; ADRK 2; SACL *-: 0335h, 0337h
    ∷ 0xd001 ∷ 0x321 ∷ 0x89 ∷ 0xc806 ∷ 0x600f ∷ 0x310f ∷ 0x208a ∷ 0x7e02 ∷ 0x6090
    -- at 007dh LAC *; SACL 030fh; LAR AR1 from there; ADDK 1; SACL *+,AR1; LT *,AR2: 0336h twice
    ∷ 0x2080 ∷ 0x600f ∷ 0x310f ∷ 0xcc01 ∷ 0x60a9 ∷ 0x3c8a
    -- at 0083h MPY *; PAC; SBRK 3; ADD *-; SACL *; B to the next word: 0337h, 0334h, 0333h
    ∷ 0x3880 ∷ 0xce14 ∷ 0x7f03 ∷ 0x90 ∷ 0x6080 ∷ 0xff80 ∷ 0x8a
    -- at 008ah LRLK AR2; MAR *,AR2; LAC *; ADDK 1; SACL *; B to 0068h: 0335h twice
    ∷ 0xd200 ∷ 0x335 ∷ 0x558a ∷ 0x2080 ∷ 0xcc01 ∷ 0x6080 ∷ 0xff80 ∷ 0x68
    -- at 0092h LRLK AR2; MAR *,AR2; LAC *; SFR; SFR; RET: 0333h
    ∷ 0xd200 ∷ 0x333 ∷ 0x558a ∷ 0x2080 ∷ 0xce19 ∷ 0xce19 ∷ 0xce26 ∷ []

abbrev main : List ℕ
main =
    -- at 0099h LDPK 6; IN 0332h; CALL to 0031h
    0xc806 ∷ 0x8032 ∷ 0xfe80 ∷ 0x31
    -- at 009dh LDPK 6; SACL 0300h; OUT 0300h; B to 0099h; LACK 0; RET
    ∷ 0xc806 ∷ 0x6000 ∷ 0xe100 ∷ 0xff80 ∷ 0x99 ∷ 0xca00 ∷ 0xce26 ∷ []

abbrev image : List ℕ
image = startup ++ fir ++ main

abbrev fir_blocks : List (List ℕ)
fir_blocks =
    (0x335 ∷ [])
    ∷ (0x335 ∷ [])
    ∷ (0x335 ∷ 0x334 ∷ 0x335 ∷ 0x334 ∷ [])
    ∷ (0x335 ∷ 0x335 ∷ [])
    ∷ (0x332 ∷ 0x333 ∷ 0x336 ∷ 0x335 ∷ [])
    ∷ (0x335 ∷ [])
    ∷ (0x333 ∷ 0x334 ∷ 0x335 ∷ 0x337 ∷ 0x336 ∷ 0x336 ∷ 0x337 ∷ 0x334 ∷ 0x333 ∷ [])
    ∷ (0x335 ∷ 0x335 ∷ [])
    ∷ (0x333 ∷ [])
    ∷ []

filter_walk : walk image 0x31 0x98 ≡ Blocks fir_blocks
filter_walk = refl

-- nine loads of AR2, two ADRK and one SBRK; loads of AR1 and a MAR that only makes a register current don't count
filter_address_instructions :
    address_instructions image 0x31 0x98
    ≡ 0x32 ∷ 0x36 ∷ 0x3e ∷ 0x51 ∷ 0x5b ∷ 0x64 ∷ 0x68 ∷ 0x6f ∷ 0x7b ∷ 0x85 ∷ 0x8a ∷ 0x92 ∷ []
filter_address_instructions = refl

filter_count : address_count image 0x31 0x98 ≡ 12
filter_count = refl

-- `main` has no scalars
main_walk : walk image 0x99 0xa3 ≡ Blocks []
main_walk = refl

main_count : address_count image 0x99 0xa3 ≡ 0
main_count = refl

-- in the startup's loop the current register isn't known, since a jump names its first word
startup_walk : walk image 0 0x30 ≡ UnknownAddress 8
startup_walk = refl

-- the table and the samples, each with the word behind it
abbrev statics : List ℕ
statics = range_with_len 0x310 34

abbrev frame : List ℕ
frame = 0x332 ∷ 0x333 ∷ 0x334 ∷ 0x335 ∷ 0x336 ∷ 0x337 ∷ []

filter_direct : Direct image 0x31 0x98 frame statics []
filter_direct = refl

-- `main` gives the sample to `fir`
main_direct : Direct image 0x99 0xa3 [] statics (0x332 ∷ [])
main_direct = refl

gives_nothing : is_direct image 0x99 0xa3 [] statics [] ≡ false
gives_nothing = refl

-- Cuts. LRLK AR2,0400h; MAR *,AR2; LAC *; at 4 LRLK AR2,0401h; MAR *,AR2; LAC *; at 8 two words more
abbrev two_loads : List ℕ
two_loads = 0xd200 ∷ 0x400 ∷ 0x558a ∷ 0x2080 ∷ 0xd200 ∷ 0x401 ∷ 0x558a ∷ 0x2080 ∷ []

-- a jump out of the range
no_cut_within : walk (two_loads ++ 0xff80 ∷ 0x100 ∷ []) 0 9 ≡ Blocks ((0x400 ∷ 0x401 ∷ []) ∷ [])
no_cut_within = refl

cut_at_a_target : walk (two_loads ++ 0xff80 ∷ 4 ∷ []) 0 9 ≡ Blocks ((0x400 ∷ []) ∷ (0x401 ∷ []) ∷ [])
cut_at_a_target = refl

cut_at_a_conditional_target : walk (two_loads ++ 0xf580 ∷ 4 ∷ []) 0 9 ≡ Blocks ((0x400 ∷ []) ∷ (0x401 ∷ []) ∷ [])
cut_at_a_conditional_target = refl

no_cut_at_a_called_word : walk (two_loads ++ 0xfe80 ∷ 4 ∷ []) 0 9 ≡ Blocks ((0x400 ∷ 0x401 ∷ []) ∷ [])
no_cut_at_a_called_word = refl

-- at the access itself, where the registers were loaded before
target_at_an_access : walk (two_loads ++ 0xff80 ∷ 7 ∷ []) 0 9 ≡ UnknownAddress 7
target_at_an_access = refl

-- at the second word of a load: the cut is behind the load
target_within_an_instruction : walk (two_loads ++ 0xff80 ∷ 5 ∷ []) 0 9 ≡ UnknownAddress 7
target_within_an_instruction = refl

-- of a jump itself
target_within_the_jump : walk (two_loads ++ 0xff80 ∷ 9 ∷ []) 0 9 ≡ Blocks ((0x400 ∷ 0x401 ∷ []) ∷ [])
target_within_the_jump = refl

-- LARK AR2,10h; MAR *,AR2; a word that ends a stretch; LAC *
cut_behind_a_call : walk (0xc210 ∷ 0x558a ∷ 0xfe80 ∷ 0x100 ∷ 0x2080 ∷ []) 0 4 ≡ UnknownAddress 4
cut_behind_a_call = refl

cut_behind_a_jump : walk (0xc210 ∷ 0x558a ∷ 0xf680 ∷ 0x100 ∷ 0x2080 ∷ []) 0 4 ≡ UnknownAddress 4
cut_behind_a_jump = refl

cut_behind_ret : walk (0xc210 ∷ 0x558a ∷ 0xce26 ∷ 0x2080 ∷ []) 0 3 ≡ UnknownAddress 3
cut_behind_ret = refl

cut_behind_idle : walk (0xc210 ∷ 0x558a ∷ 0xce1f ∷ 0x2080 ∷ []) 0 3 ≡ UnknownAddress 3
cut_behind_idle = refl

-- Repeats. LARK AR2,10h; MAR *,AR2; RPTK 2; SFL; LAC *
arp_unknown_behind_rptk : walk (0xc210 ∷ 0x558a ∷ 0xcb02 ∷ 0xce18 ∷ 0x2080 ∷ []) 0 4 ≡ UnknownAddress 4
arp_unknown_behind_rptk = refl

-- with MAR *,AR2 again: the number of AR2 was still known
arp_known_again : walk (0xc210 ∷ 0x558a ∷ 0xcb02 ∷ 0xce18 ∷ 0x558a ∷ 0x2080 ∷ []) 0 5 ≡ Blocks ((0x10 ∷ []) ∷ [])
arp_known_again = refl

-- LARK AR2,10h; LARK AR3,20h; MAR *,AR2; RPT *,AR3; SFL; LAC *: the next register of RPT doesn't count
arp_unknown_behind_rpt : walk (0xc210 ∷ 0xc320 ∷ 0x558a ∷ 0x4b8b ∷ 0xce18 ∷ 0x2080 ∷ []) 0 5 ≡ UnknownAddress 5
arp_unknown_behind_rpt = refl

rpt_accesses : walk (0xc210 ∷ 0xc320 ∷ 0x558a ∷ 0x4b8b ∷ 0xce18 ∷ 0x558b ∷ 0x2080 ∷ []) 0 6 ≡ Blocks ((0x10 ∷ 0x20 ∷ []) ∷ [])
rpt_accesses = refl

-- a change while the current register isn't known, by MAR *+ and by ADRK, and none by MAR *
change_of_any_register : walk (0xc210 ∷ 0x55a0 ∷ 0x558a ∷ 0x2080 ∷ []) 0 3 ≡ UnknownAddress 3
change_of_any_register = refl

sum_to_any_register : walk (0xc210 ∷ 0x7e01 ∷ 0x558a ∷ 0x2080 ∷ []) 0 3 ≡ UnknownAddress 3
sum_to_any_register = refl

no_change_of_any_register : walk (0xc210 ∷ 0x5580 ∷ 0x558a ∷ 0x2080 ∷ []) 0 3 ≡ Blocks ((0x10 ∷ []) ∷ [])
no_change_of_any_register = refl

-- Changes by AR0. LARK AR0,2; LARK AR2,10h; MAR *,AR2; LAC *0+; LAC *0-; LAC *
ar0_known : walk (0xc002 ∷ 0xc210 ∷ 0x558a ∷ 0x20e0 ∷ 0x20d0 ∷ 0x2080 ∷ []) 0 5 ≡ Blocks ((0x10 ∷ 0x12 ∷ 0x10 ∷ []) ∷ [])
ar0_known = refl

-- the changes behind accesses don't count
ar0_counted : address_instructions (0xc002 ∷ 0xc210 ∷ 0x558a ∷ 0x20e0 ∷ 0x20d0 ∷ 0x2080 ∷ []) 0 5 ≡ 0 ∷ 1 ∷ []
ar0_counted = refl

-- 1 less 3
ar0_wraps : walk (0xc003 ∷ 0xc201 ∷ 0x558a ∷ 0x20d0 ∷ 0x2080 ∷ []) 0 4 ≡ Blocks ((1 ∷ 0xfffe ∷ []) ∷ [])
ar0_wraps = refl

-- the first access is known, the one behind the change isn't
ar0_unknown : walk (0xc210 ∷ 0x558a ∷ 0x20e0 ∷ 0x2080 ∷ []) 0 3 ≡ UnknownAddress 3
ar0_unknown = refl

less_ar0_unknown : walk (0xc210 ∷ 0x558a ∷ 0x20d0 ∷ 0x2080 ∷ []) 0 3 ≡ UnknownAddress 3
less_ar0_unknown = refl

-- where nothing follows it is no fault
ar0_unknown_at_last : walk (0xc210 ∷ 0x558a ∷ 0x20e0 ∷ []) 0 2 ≡ Blocks ((0x10 ∷ []) ∷ [])
ar0_unknown_at_last = refl

-- LARK AR0,2; LAR AR0 from memory
ar0_loaded_from_memory : walk (0xc002 ∷ 0x3000 ∷ 0xc210 ∷ 0x558a ∷ 0x20e0 ∷ 0x2080 ∷ []) 0 5 ≡ UnknownAddress 5
ar0_loaded_from_memory = refl

-- LARK AR0,2; LARK AR2,10h; MAR *,AR0; ADRK 1; MAR *,AR2; LAC *0+; LAC *
ar0_changed : walk (0xc002 ∷ 0xc210 ∷ 0x5588 ∷ 0x7e01 ∷ 0x558a ∷ 0x20e0 ∷ 0x2080 ∷ []) 0 6 ≡ Blocks ((0x10 ∷ 0x13 ∷ []) ∷ [])
ar0_changed = refl

ar0_changed_counted : address_instructions (0xc002 ∷ 0xc210 ∷ 0x5588 ∷ 0x7e01 ∷ 0x558a ∷ 0x20e0 ∷ 0x2080 ∷ []) 0 6 ≡ 0 ∷ 1 ∷ 3 ∷ []
ar0_changed_counted = refl

-- LARK AR0,2; MAR *,AR0; MAR *0+: AR0 by itself
ar0_doubled : walk (0xc002 ∷ 0x5588 ∷ 0x55e0 ∷ 0xc210 ∷ 0x558a ∷ 0x20e0 ∷ 0x2080 ∷ []) 0 6 ≡ Blocks ((0x10 ∷ 0x14 ∷ []) ∷ [])
ar0_doubled = refl

-- LARK AR0,2; SBRK 1 of any register; LARK AR2,10h; MAR *,AR2; LAC *0+; LAC *
ar0_forgotten : walk (0xc002 ∷ 0x7f01 ∷ 0xc210 ∷ 0x558a ∷ 0x20e0 ∷ 0x2080 ∷ []) 0 5 ≡ UnknownAddress 5
ar0_forgotten = refl

-- Registers. LRLK AR5; LAC * through AR5, AR1 and AR6
through_ar5 : walk (0xd500 ∷ 0x400 ∷ 0x558d ∷ 0x2080 ∷ []) 0 3 ≡ Blocks ((0x400 ∷ []) ∷ [])
through_ar5 = refl

through_ar1 : walk (0x5589 ∷ 0x2080 ∷ []) 0 1 ≡ Blocks []
through_ar1 = refl

through_ar6 : walk (0x558e ∷ 0x2080 ∷ []) 0 1 ≡ Blocks []
through_ar6 = refl

-- through AR2, which isn't known
through_unknown_ar2 : walk (0x558a ∷ 0x2080 ∷ []) 0 1 ≡ UnknownAddress 1
through_unknown_ar2 = refl

-- an operand of MAR, a jump or CALL accesses nothing
no_access_by_mar : walk (0x55a0 ∷ 0xfed0 ∷ 0x100 ∷ 0xff90 ∷ 0x100 ∷ []) 0 4 ≡ Blocks []
no_access_by_mar = refl

-- LARK AR2,10h; LAR AR2 from memory
loaded_from_memory : walk (0xc210 ∷ 0x3200 ∷ 0x558a ∷ 0x2080 ∷ []) 0 3 ≡ UnknownAddress 3
loaded_from_memory = refl

-- LARK AR2,10h; LARK AR3,20h; MAR *,AR2; LAR AR3,*+; LAC *: AR3's load accesses through AR2 and moves it
load_through_another : walk (0xc210 ∷ 0xc320 ∷ 0x558a ∷ 0x33a0 ∷ 0x2080 ∷ []) 0 4 ≡ Blocks ((0x10 ∷ 0x11 ∷ []) ∷ [])
load_through_another = refl

-- LARK AR2,1; MAR *,AR2; SBRK 3; LAC *; ADRK 5; LAC *
sums_wrap : walk (0xc201 ∷ 0x558a ∷ 0x7f03 ∷ 0x2080 ∷ 0x7e05 ∷ 0x2080 ∷ []) 0 5 ≡ Blocks ((0xfffe ∷ 3 ∷ []) ∷ [])
sums_wrap = refl

-- Faults. 60b0h is in no row
bad_word_first : walk (0x60b0 ∷ 0x2080 ∷ []) 0 1 ≡ BadWord 0
bad_word_first = refl

unknown_address_first : walk (0x2080 ∷ 0x60b0 ∷ []) 0 1 ≡ UnknownAddress 0
unknown_address_first = refl

-- a second word outside the range, also where the words go on
no_second_word : walk (0xca00 ∷ 0xff80 ∷ []) 0 1 ≡ BadWord 1
no_second_word = refl

second_word_outside : walk (0xca00 ∷ 0xff80 ∷ 0x100 ∷ []) 0 1 ≡ BadWord 1
second_word_outside = refl

second_word_inside : walk (0xca00 ∷ 0xff80 ∷ 0x100 ∷ []) 0 2 ≡ Blocks []
second_word_inside = refl

-- LARK AR2,10h; MAR *,AR2; LAC *; a bad word; B to LAC *, which doesn't cut; and the same with B before the bad word
jump_behind_a_bad_word : walk (0xc210 ∷ 0x558a ∷ 0x2080 ∷ 0x60b0 ∷ 0xff80 ∷ 2 ∷ []) 0 5 ≡ BadWord 3
jump_behind_a_bad_word = refl

jump_before_a_bad_word : walk (0xc210 ∷ 0x558a ∷ 0x2080 ∷ 0xff80 ∷ 2 ∷ 0x60b0 ∷ []) 0 5 ≡ UnknownAddress 2
jump_before_a_bad_word = refl

-- no instruction at all
range_of_a_bad_word : address_count (0x60b0 ∷ 0xc210 ∷ []) 0 1 ≡ 0
range_of_a_bad_word = refl

-- Counts. LARK AR0, AR1, AR2, AR5 and AR6; then LAR and LRLK of AR0, AR1 and AR3
loads_counted : address_instructions (0xc000 ∷ 0xc100 ∷ 0xc200 ∷ 0xc500 ∷ 0xc600 ∷ []) 0 4 ≡ 0 ∷ 2 ∷ 3 ∷ []
loads_counted = refl

loads_from_memory_counted : address_instructions (0x3000 ∷ 0x3100 ∷ 0x3300 ∷ []) 0 2 ≡ 0 ∷ 2 ∷ []
loads_from_memory_counted = refl

loads_of_words_counted : address_instructions (0xd000 ∷ 0x400 ∷ 0xd100 ∷ 0x400 ∷ 0xd300 ∷ 0x400 ∷ []) 0 5 ≡ 0 ∷ 4 ∷ []
loads_of_words_counted = refl

-- MAR *+,AR1 while no register is known; MAR *+ through AR1; MAR *-,AR0; MAR *0+ through AR0; MAR *,AR7; MAR *0- through AR7
moves_counted : address_instructions (0x55a9 ∷ 0x55a0 ∷ 0x5598 ∷ 0x55e0 ∷ 0x558f ∷ 0x55d0 ∷ []) 0 5 ≡ 0 ∷ 3 ∷ []
moves_counted = refl

-- MAR *,AR1; ADRK; SBRK; MAR *,AR3; ADRK; SBRK
sums_counted : address_instructions (0x5589 ∷ 0x7e01 ∷ 0x7f01 ∷ 0x558b ∷ 0x7e01 ∷ 0x7f01 ∷ []) 0 5 ≡ 4 ∷ 5 ∷ []
sums_counted = refl

-- jumps and a call with *+, *- and *, each behind a cut
jumps_counted : address_instructions (0xffa0 ∷ 0 ∷ 0xfe90 ∷ 0 ∷ 0xff80 ∷ 0 ∷ []) 0 5 ≡ 0 ∷ 2 ∷ []
jumps_counted = refl

-- Direct operands. LDPK 6; SACL 0300h; LAC 0300h
scratch_word : Direct (0xc806 ∷ 0x6000 ∷ 0x2000 ∷ []) 0 2 [] [] []
scratch_word = refl

-- the last scratch word, and the word behind it
last_scratch_word : Direct (0xc806 ∷ 0x600f ∷ []) 0 1 [] [] []
last_scratch_word = refl

behind_the_scratch_words : is_direct (0xc806 ∷ 0x6010 ∷ []) 0 1 [] [] [] ≡ false
behind_the_scratch_words = refl

-- a read before any store, though the word is among the places; and one behind a store of another stretch, before a call
read_before_a_store : is_direct (0xc806 ∷ 0x2000 ∷ 0x6000 ∷ []) 0 2 [] (0x300 ∷ []) [] ≡ false
read_before_a_store = refl

stored_in_another_stretch : is_direct (0xc806 ∷ 0x6000 ∷ 0xfe80 ∷ 0x100 ∷ 0xc806 ∷ 0x2000 ∷ []) 0 5 [] [] [] ≡ false
stored_in_another_stretch = refl

-- no LDPK, one in another stretch, and the last of two: 0380h
no_page : is_direct (0x6000 ∷ []) 0 0 [] [] [] ≡ false
no_page = refl

page_of_another_stretch : is_direct (0xc806 ∷ 0xfe80 ∷ 0x100 ∷ 0x6000 ∷ []) 0 3 [] [] [] ≡ false
page_of_another_stretch = refl

last_page : Direct (0xc806 ∷ 0xc807 ∷ 0x2000 ∷ []) 0 2 [] (0x380 ∷ []) []
last_page = refl

-- PSHD and POPD of a return word at 0340h
return_word : Direct (0xc806 ∷ 0x5440 ∷ 0x7a40 ∷ []) 0 2 [] (0x340 ∷ []) []
return_word = refl

return_word_of_another : is_direct (0xc806 ∷ 0x5440 ∷ 0x7a40 ∷ []) 0 2 [] (0x341 ∷ []) [] ≡ false
return_word_of_another = refl

-- SACL, SACH, SAR, IN and POPD of 0332h may go to a word that is given
given_words : Direct (0xc806 ∷ 0x6032 ∷ 0x6832 ∷ 0x7032 ∷ 0x8032 ∷ 0x7a32 ∷ []) 0 5 [] [] (0x332 ∷ [])
given_words = refl

-- LAC and OUT read it
given_word_read : is_direct (0xc806 ∷ 0x6032 ∷ 0x2032 ∷ []) 0 2 [] [] (0x332 ∷ []) ≡ false
given_word_read = refl

given_word_put : is_direct (0xc806 ∷ 0xe032 ∷ []) 0 1 [] [] (0x332 ∷ []) ≡ false
given_word_put = refl

-- a word of the own frame, though it is among the others too
own_word : is_direct (0xc806 ∷ 0x6032 ∷ []) 0 1 (0x332 ∷ []) (0x332 ∷ []) (0x332 ∷ []) ≡ false
own_word = refl
