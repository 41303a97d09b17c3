-- States on the way of a run and their accesses, computed. The expected values are worked out by hand from docs/MACHINE.md.
use Rattle.std.specs.Prelude.{ℕ, Bool, true, false, List, [], ◌∷◌, Option, Some, None, option_map, option_and_then}
use Rattle.std.proofs.Common.{◌≡◌, refl}
use Rattle.c25_isa.specs.State.{State, zero_start}
use Rattle.c25_isa.specs.MachineRun.{reset}
use Rattle.c25_isa.specs.StretchRuns.{DataAccess, accessed}
use Rattle.c25_isa.specs.Leads.{state_behind}
use Rattle.c25_code.specs.Accesses.{at_scratch}

-- LDPK 6; SACL 0300h; LAC 0310h; MAR *,AR1; LAC * through AR1, which holds 0400h; SACL *; OUT 0310h,PA1; IDLE
abbrev words : List ℕ
words = 0xc806 ∷ 0x6000 ∷ 0x2010 ∷ 0x5589 ∷ 0x2080 ∷ 0x6080 ∷ 0xe110 ∷ 0xce1f ∷ []

abbrev behind : ℕ → Option State
behind steps = state_behind steps (record (reset (zero_start words) (λ port. [])) { ar = λ n. 0x400 })

abbrev access_behind : ℕ → Option DataAccess
access_behind steps = option_and_then accessed (behind steps)

abbrev made : Option ℕ → ℕ → Bool → Option DataAccess
made through a stores = Some (record { address = a; through = through; stores = stores })

page_set : access_behind 0 ≡ None
page_set = refl

stored : access_behind 1 ≡ made None 0x300 true
stored = refl

loaded : access_behind 2 ≡ made None 0x310 false
loaded = refl

register_named : access_behind 3 ≡ None
register_named = refl

read_through : access_behind 4 ≡ made (Some 1) 0x400 false
read_through = refl

stored_through : access_behind 5 ≡ made (Some 1) 0x400 true
stored_through = refl

put : access_behind 6 ≡ made None 0x310 false
put = refl

-- a state is there where the run goes on so far: at IDLE it is, and behind it none
at_the_end : option_map (λ (s : State). s.pc) (behind 7) ≡ Some 7
at_the_end = refl

nothing_behind : option_map (λ (s : State). s.pc) (behind 8) ≡ None
nothing_behind = refl

-- the sixteen scratch words, and no word beside them
first_scratch : option_map at_scratch (access_behind 1) ≡ Some true
first_scratch = refl

behind_scratch : option_map at_scratch (access_behind 2) ≡ Some false
behind_scratch = refl
