-- Runs along stretches, computed. The expected values are worked out by hand from docs/MACHINE.md.
use Rattle.std.specs.Prelude.{ℕ, Bool, true, false, List, [], ◌∷◌, filter, Option, Some, None, slice_get, unwrap_or}
use Rattle.std.specs.List.{list_any, range_with_len}
use Rattle.std.proofs.Common.{◌≡◌, refl}
use Rattle.c25_isa.specs.State.{State, zero_start}
use Rattle.c25_isa.specs.MachineRun.{reset}
use Rattle.c25_isa.specs.Walk.{Placed, code_of, stretches}
use Rattle.c25_isa.specs.StretchRuns.{DataAccess, Way, Through, SoFar, Astray, way, begins, accesses_of, scalar_accesses, listed_in}

abbrev from_zeros : List ℕ → State
from_zeros words = record (reset (zero_start words) (λ port. [])) { ar = λ n. 7; arp = 4 }

abbrev first_stretch : List ℕ → ℕ → List Placed
first_stretch words last = unwrap_or (slice_get (stretches (code_of words 0 last)) 0) []

abbrev reads : ℕ → ℕ → DataAccess
reads register a = record { address = a; through = Some register; stores = false }

abbrev stores : ℕ → ℕ → DataAccess
stores register a = record { address = a; through = Some register; stores = true }

-- LRLK AR2,0400h; MAR *,AR2; LAC *+; SACL *; ADRK 2; SAR AR0,*-,AR1; SACL *; B to the first word
abbrev words : List ℕ
words = 0xd200 ∷ 0x400 ∷ 0x558a ∷ 0x20a0 ∷ 0x6080 ∷ 0x7e02 ∷ 0x7099 ∷ 0x6080 ∷ 0xff80 ∷ 0 ∷ []

listed_there : listed_in (first_stretch words 9) ≡ 0x400 ∷ 0x401 ∷ 0x403 ∷ []
listed_there = refl

-- whatever the registers hold. The access through AR1 at 0007h is to 0007h, below data RAM, so the run traps there.
accessed_there : way 20 (from_zeros words) (first_stretch words 9) [] ≡ SoFar (reads 2 0x400 ∷ stores 2 0x401 ∷ stores 2 0x403 ∷ [])
accessed_there = refl

three_steps : way 3 (from_zeros words) (first_stretch words 9) [] ≡ SoFar (reads 2 0x400 ∷ [])
three_steps = refl

-- LRLK AR3,0400h; RPTK 2; SFL; MAR *,AR3; LAC *; a jump to 0. The word behind RPTK runs three times.
abbrev repeats : List ℕ
repeats = 0xd300 ∷ 0x400 ∷ 0xcb02 ∷ 0xce18 ∷ 0x558b ∷ 0x2080 ∷ 0xff80 ∷ 0 ∷ []

six_steps : way 6 (from_zeros repeats) (first_stretch repeats 7) [] ≡ SoFar []
six_steps = refl

seven_steps : way 7 (from_zeros repeats) (first_stretch repeats 7) [] ≡ SoFar (reads 3 0x400 ∷ [])
seven_steps = refl

all_steps : scalar_accesses (accesses_of (way 8 (from_zeros repeats) (first_stretch repeats 7) [])) ≡ 0x400 ∷ []
all_steps = refl

-- not from a word within it
astray : way 5 (record (from_zeros words) { pc = 2 }) (first_stretch words 9) [] ≡ Astray
astray = refl

-- LDPK 6; SACL 0300h; LAC 0310h; MAR *,AR1; LAC * through AR1, which holds 7; a jump to 0
abbrev direct : List ℕ
direct = 0xc806 ∷ 0x6000 ∷ 0x2010 ∷ 0x5589 ∷ 0x2080 ∷ 0xff80 ∷ 0 ∷ []

abbrev names : ℕ → Bool → DataAccess
names a store = record { address = a; through = None; stores = store }

direct_there : way 9 (from_zeros direct) (first_stretch direct 6) [] ≡ SoFar (names 0x300 true ∷ names 0x310 false ∷ [])
direct_there = refl

-- LRLK AR2,0400h; MAR *,AR2; LAC *; at 4 LRLK AR2,0401h; MAR *,AR2; LAC *; at 8 BNZ to 4; at 10 CALL to 4; at 12 LAC *
abbrev entered : List ℕ
entered = 0xd200 ∷ 0x400 ∷ 0x558a ∷ 0x2080 ∷ 0xd200 ∷ 0x401 ∷ 0x558a ∷ 0x2080 ∷ 0xf580 ∷ 4 ∷ 0xfe80 ∷ 4 ∷ 0x2080 ∷ []

-- a stretch begins at a target, behind a conditional jump, and behind a call
entries : filter (λ a. list_any (begins a) (stretches (code_of entered 0 12))) (range_with_len 0 14) ≡ 0 ∷ 4 ∷ 10 ∷ 12 ∷ []
entries = refl

-- a run along the second one goes on at 4 or at 10, by ACC, and a run along the third one at 4, with 12 on the stack
abbrev stretch_at : ℕ → List Placed
stretch_at n = unwrap_or (slice_get (stretches (code_of entered 0 12)) n) []

abbrev goes_to : Way → Option (ℕ × List ℕ)
goes_to (Through made t) = Some (t.pc, t.stack)
goes_to (SoFar made) = None
goes_to Astray = None

abbrev at_pc : ℕ → State
at_pc pc = record (from_zeros entered) { pc = pc; ram = λ a. a }

goes_back : goes_to (way 9 (at_pc 4) (stretch_at 1) []) ≡ Some (4, [])
goes_back = refl

goes_behind : goes_to (way 9 (record (at_pc 4) { ram = λ a. 0 }) (stretch_at 1) []) ≡ Some (10, [])
goes_behind = refl

calls : goes_to (way 9 (at_pc 10) (stretch_at 2) []) ≡ Some (4, 12 ∷ [])
calls = refl
