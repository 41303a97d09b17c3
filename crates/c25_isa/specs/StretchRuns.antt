-- Runs of the machine along the stretches of a range, and what walks tell of them: docs/MACHINE.md, "Walks".
use Rattle.std.specs.Prelude.{◌≡◌, ℕ, zero, suc, ◌+◌, ◌^◌, ◌<◌, ◌≤◌, Bool, true, false, ◌==◌, nat_lt, if◌then◌else◌, List, [], ◌∷◌, ◌++◌, filter_map, Option, Some, None, option_map, option_and_then, option_to_list, IfSome, IsTrue, All, length, slice_get, slice_range}
use Rattle.std.specs.List.{list_any, AllByRecursion}
use Rattle.c25_isa.specs.declared.operand.Operand.{Operand}
use Rattle.c25_isa.specs.declared.operand.Operand.TheVariants as operand
use Rattle.c25_isa.specs.declared.instruction.Instr.{Instr}
use Rattle.c25_isa.specs.declared.instruction.Instr.TheVariants.{Ret, Call}
use Rattle.c25_isa.specs.State.{State, write}
use Rattle.c25_isa.specs.CodeAt.{WordsAt}
use Rattle.c25_isa.specs.Decode.{decode}
use Rattle.c25_isa.specs.Step.{Event, Ran, Put, Over, Trapped, wrap16, address, data_operand, step}
use Rattle.c25_isa.specs.Walk.{Placed, Code, stretches, along, nothing_known, goes_over_scalars, access, listed}
use Rattle.c25_isa.specs.Direct.{Words, is_among, is_store, may_name}

-- an access of data memory: its address, the address register that it goes through, or none where its operand is direct, and whether it stores
pub record DataAccess : Type 0 where
  pub address : ℕ
  pub through : Option ℕ
  pub stores : Bool

-- the register that an operand goes through
abbrev pub register_of : State → Operand → Option ℕ
register_of s (operand.Direct offset) = None
register_of s (operand.Indirect i) = Some s.arp

-- the access that an instruction makes in a state, if it does
abbrev pub accessed_by : State → Instr → Option DataAccess
accessed_by s i = option_map (λ o. record { address = address s o; through = register_of s o; stores = is_store i }) (data_operand i)

-- the access of the instruction at PC
abbrev pub accessed : State → Option DataAccess
accessed s = option_and_then (λ found. accessed_by s found.0) (decode (s.program s.pc) (s.program (wrap16 (s.pc + 1))))

-- whether the word at PC stands there behind this step, since a repeat has more times left
abbrev pub stands : Option ℕ → Bool
stands None = false
stands (Some times) = nat_lt 1 times

-- what is left of instructions behind a step of the first one
abbrev pub left_behind : Bool → Placed → List Placed → List Placed
left_behind true p ps = p ∷ ps
left_behind false p ps = ps

-- how a run goes along instructions, with the accesses that it makes: through all of them to a state; or so far only, since it has so few steps,
-- ends or traps; or it comes to a word that isn't the next of them
pub data Way : Type 0 where
  Through : List DataAccess → State → Way
  SoFar : List DataAccess → Way
  Astray : Way

-- what comes behind an event, where the machine goes on
abbrev pub behind_event : Event → (State → Way) → Way → Way
behind_event (Ran t) next stopped = next t
behind_event (Put word t) next stopped = next t
behind_event (Over ending) next stopped = stopped
behind_event (Trapped kind at) next stopped = stopped

-- the way of so many steps from a state along instructions, behind these accesses
abbrev pub way : ℕ → State → List Placed → List DataAccess → Way
way steps s [] made = Through made s
way zero s (p ∷ ps) made = SoFar made
way (suc steps) s (p ∷ ps) made =
    if s.pc == p.at
    then behind_event (step s) (λ t. way steps t (left_behind (stands s.repeats) p ps) (made ++ option_to_list (accessed s))) (SoFar made)
    else Astray

-- the addresses of accesses through AR2 to AR5, in order
abbrev pub through_scalars : ℕ → Option ℕ → Option ℕ
through_scalars a None = None
through_scalars a (Some register) = if goes_over_scalars register then Some a else None

abbrev pub scalar_accesses : List DataAccess → List ℕ
scalar_accesses made = filter_map (λ x. through_scalars x.address x.through) made

-- the addresses that a walk lists in a stretch
abbrev pub listed_in : List Placed → List ℕ
listed_in stretch = along (λ k p. listed (access k p.instr)) nothing_known stretch

-- whether a stretch begins at an address
abbrev pub begins : ℕ → List Placed → Bool
begins a [] = false
begins a (p ∷ ps) = p.at == a

-- the words of a range stand in a state's program memory
pub record HoldsRange (words : List ℕ) (first last : ℕ) (s : State) : Type 0 where
  pub fit : All (λ w. w < 2 ^ 16) words
  pub room : length words ≤ 2 ^ 16
  pub stand : WordsAt s.program first (slice_range words first (last + 1))

-- where an instruction of the code begins, a stretch does
abbrev pub IsEntry : Code → ℕ → Type 0
IsEntry code a = IsTrue (list_any (λ p. p.at == a) code.placed) → IsTrue (list_any (begins a) (stretches code))

-- where the code goes on behind a stretch with this last instruction: at PC, or behind a call where it returns to; a return leads elsewhere
abbrev pub goes_on_at : Instr → State → Option ℕ
goes_on_at (Call to i) t = slice_get t.stack 0
goes_on_at Ret t = None
goes_on_at i t = Some t.pc

abbrev pub GoesOn : Code → List Placed → State → Type 0
GoesOn code [] t = IsEntry code t.pc
GoesOn code (p ∷ []) t = IfSome (goes_on_at p.instr t) (IsEntry code)
GoesOn code (p ∷ q ∷ ps) t = GoesOn code (q ∷ ps) t

-- what a walk tells of a way along a stretch: behind it, the accesses through AR2 to AR5 are those that are listed, and where the code goes on a
-- stretch begins; on it, they are the first of those; and nothing else runs
abbrev pub Tells : Code → List Placed → Way → Type 0
Tells code stretch (Through made t) = (scalar_accesses made ≡ listed_in stretch) × GoesOn code stretch t
Tells code stretch (SoFar made) = (rest : List ℕ) × (scalar_accesses made ++ rest ≡ listed_in stretch)
Tells code stretch Astray = ⊥

abbrev pub accesses_of : Way → List DataAccess
accesses_of (Through made t) = made
accesses_of (SoFar made) = made
accesses_of Astray = []

-- the words to which accesses stored by direct operands, behind these
abbrev pub stored_too : DataAccess → List ℕ → List ℕ
stored_too x stored = if x.stores then x.address ∷ stored else stored

abbrev pub stored_behind : DataAccess → Option ℕ → List ℕ → List ℕ
stored_behind x None stored = stored_too x stored
stored_behind x (Some register) stored = stored

-- each direct operand's access is at a word that it may name, behind the stores before it
abbrev pub MayName : Words → List ℕ → List DataAccess → Type 0
MayName w stored [] = Unit {0}
MayName w stored (x ∷ xs) = (x.through ≡ None → may_name w stored x.stores x.address ≡ true) × MayName w (stored_behind x x.through stored) xs

-- a state with another word at an address of data memory, and an event that goes on to one
abbrev pub with_word : ℕ → ℕ → State → State
with_word a word s = record s { ram = write s.ram a word }

abbrev pub event_with : ℕ → ℕ → Event → Event
event_with a word (Ran t) = Ran (with_word a word t)
event_with a word (Put put t) = Put put (with_word a word t)
event_with a word (Over ending) = Over ending
event_with a word (Trapped kind at) = Trapped kind at

-- an access, if there is one, is at another address
abbrev pub IsElsewhere : Option DataAccess → ℕ → Type 0
IsElsewhere None a = Unit {0}
IsElsewhere (Some x) a = x.address ≡ a → ⊥

-- an access is through AR2 to AR5 at one of these addresses, or through another address register
abbrev pub IsListedOrBeside : List ℕ → ℕ → Option ℕ → Type 0
IsListedOrBeside addresses a None = ⊥
IsListedOrBeside addresses a (Some register) = (goes_over_scalars register ≡ true → is_among a addresses ≡ true)

-- so is each access to one of these words
abbrev pub AreListedOrBeside : List ℕ → List ℕ → List DataAccess → Type 0
AreListedOrBeside own addresses made = AllByRecursion (λ x. is_among x.address own ≡ true → IsListedOrBeside addresses x.address x.through) made
