-- Which words of data memory a range of program words accesses through AR2 to AR5, read off its words: the walks of
-- docs/MACHINE.md.
use Rattle.std.specs.Prelude.{ℕ, zero, suc, ◌+◌, ◌-◌, Bool, true, false, nat_lt, nat_le, ◌==◌, ◌&&◌, ◌||◌, if◌then◌else◌, List, [], ◌∷◌, ◌++◌, length, map, filter, filter_map, flat_map, slice_index, slice_range, Option, Some, None, unwrap_or, option_map, option_to_list, option_and_then}
use Rattle.std.specs.List.{list_any}
use Rattle.c25_isa.specs.declared.operand.Change.{Change}
use Rattle.c25_isa.specs.declared.operand.Change.TheVariants.{Stay, DownIndex, UpIndex}
use Rattle.c25_isa.specs.declared.operand.Indirect.{Indirect}
use Rattle.c25_isa.specs.declared.operand.Operand.{Operand}
use Rattle.c25_isa.specs.declared.operand.Operand.TheVariants as operand
use Rattle.c25_isa.specs.declared.instruction.Instr.{Instr}
use Rattle.c25_isa.specs.declared.instruction.Instr.TheVariants.{Lar, Rpt, Rptk, Adrk, Sbrk, Lark, Lrlk, Idle, Ret, Branch, Call}
use Rattle.c25_isa.specs.Rows.{fields_of}
use Rattle.c25_isa.specs.Table.{pointer_of}
use Rattle.c25_isa.specs.Decode.{Decoded, decode}
use Rattle.c25_isa.specs.Step.{wrap16, changed, data_operand}

-- an instruction, its address, and that of the word behind it
pub record Placed : Type 0 where
  pub at : ℕ
  pub instr : Instr
  pub behind : ℕ

-- the instructions of a range before its first faulty word, and where that word is, if there is one
pub record Code : Type 0 where
  pub placed : List Placed
  pub fault : Option ℕ

-- no instruction, and no fault or one
abbrev pub no_more : Option ℕ → Code
no_more fault = record { placed = []; fault = fault }

-- one more instruction in front
abbrev pub in_front : Placed → Code → Code
in_front p code = record { placed = p ∷ code.placed; fault = code.fault }

-- what was decoded at an address where the range has so many words left, in front of the rest, which begins with so many
-- words of this instruction. Where the second word lies outside the range, the first one is faulty.
abbrev pub with_rest : ℕ → ℕ → Decoded → (ℕ → Code) → Code
with_rest at left None rest = no_more (Some at)
with_rest at left (Some (i, len)) rest =
    if nat_lt left len then no_more (Some at)
    else in_front (record { at = at; instr = i; behind = at + len }) (rest (len - 1))

-- the instructions of these words from an address on, of which the first so many belong to the instruction before
abbrev pub code_from : ℕ → ℕ → List ℕ → Code
code_from at within [] = no_more None
code_from at (suc within) (w ∷ ws) = code_from (at + 1) within ws
code_from at zero (w ∷ ws) = with_rest at (length ws + 1) (decode w (slice_index ws 0)) (λ within. code_from (at + 1) within ws)

-- the instructions of the range from its first to its last word
abbrev pub code_of : List ℕ → ℕ → ℕ → Code
code_of words first last = code_from first 0 (slice_range words first (last + 1))

-- the word that a jump names; a call is none
abbrev pub jump_target : Instr → Option ℕ
jump_target (Branch op to i) = Some to
jump_target i = None

-- whether the word behind need not run next
abbrev pub ends_stretch : Instr → Bool
ends_stretch (Branch op to i) = true
ends_stretch (Call to i) = true
ends_stretch Ret = true
ends_stretch Idle = true
ends_stretch i = false

-- whether there is a cut behind an instruction. A jump to the word behind it cuts there, and so does one to its second word.
abbrev pub is_cut_behind : List ℕ → Placed → Bool
is_cut_behind targets p = ends_stretch p.instr || list_any (λ to. nat_lt p.at to && nat_le to p.behind) targets

-- one more instruction in front: in a stretch of its own where a cut is behind it, else in the first stretch
abbrev pub onto_stretches : Bool → Placed → List (List Placed) → List (List Placed)
onto_stretches false p (first ∷ rest) = (p ∷ first) ∷ rest
onto_stretches cut p rest = (p ∷ []) ∷ rest

-- the parts between the cuts
abbrev pub cut_at : List ℕ → List Placed → List (List Placed)
cut_at targets [] = []
cut_at targets (p ∷ ps) = onto_stretches (is_cut_behind targets p) p (cut_at targets ps)

-- the stretches of code: its own jumps cut it, and those behind a faulty word aren't among them
abbrev pub stretches : Code → List (List Placed)
stretches code = cut_at (filter_map (λ p. jump_target p.instr) code.placed) code.placed

-- what is known of ARP, and of each address register
pub record Known : Type 0 where
  pub arp : Option ℕ
  pub ar : ℕ → Option ℕ

-- at the start of a stretch
abbrev pub nothing_known : Known
nothing_known = record { arp = None; ar = λ n. None }

-- a register holds this number from now on, or one that isn't known
abbrev pub holding : Known → ℕ → Option ℕ → Known
holding k register number = record k { ar = λ n. if n == register then number else k.ar n }

-- the current register is changed. While it isn't known which one that is, it may be any, so of none the number is known.
abbrev pub current_changed : Known → Option ℕ → (Option ℕ → Option ℕ) → Known
current_changed k None change = record k { ar = λ n. None }
current_changed k (Some register) change = holding k register (change (k.ar register))

-- a number behind a change; a change by AR0 is known where AR0 is
abbrev pub number_changed : Change → Option ℕ → Option ℕ → Option ℕ
number_changed DownIndex None number = None
number_changed UpIndex None number = None
number_changed change index number = option_map (changed change (unwrap_or index 0)) number

-- behind a change of the current register
abbrev pub known_behind_change : Known → Change → Known
known_behind_change k Stay = k
known_behind_change k change = current_changed k k.arp (number_changed change (k.ar 0))

-- behind a next register, where there is one
abbrev pub known_behind_next : Known → Option ℕ → Known
known_behind_next k None = k
known_behind_next k (Some register) = record k { arp = Some register }

-- behind an indirect operand, where there is one
abbrev pub known_behind_indirect : Known → Option Indirect → Known
known_behind_indirect k None = k
known_behind_indirect k (Some i) = known_behind_next (known_behind_change k i.change) i.next

abbrev pub as_indirect : Operand → Option Indirect
as_indirect (operand.Direct offset) = None
as_indirect (operand.Indirect i) = Some i

-- the indirect operand through which data memory is accessed
abbrev pub access_operand : Instr → Option Indirect
access_operand i = option_and_then as_indirect (data_operand i)

-- the indirect operand through which nothing is accessed: that of MAR, jumps and CALL
abbrev pub idle_operand : Instr → Option Indirect
idle_operand i = pointer_of (fields_of i)

-- behind the operands of an instruction
abbrev pub known_behind_operands : Known → Instr → Known
known_behind_operands k i = known_behind_indirect (known_behind_indirect k (access_operand i)) (idle_operand i)

-- behind an instruction. What a repeat does to ARP isn't followed, so it isn't known behind RPT and RPTK.
abbrev pub known_behind : Known → Instr → Known
known_behind k (Lark register constant) = holding k register (Some constant)
known_behind k (Lrlk register word) = holding k register (Some word)
known_behind k (Lar register o) = holding (known_behind_operands k (Lar register o)) register None
known_behind k (Adrk constant) = current_changed k k.arp (option_map (λ a. wrap16 (a + constant)))
known_behind k (Sbrk constant) = current_changed k k.arp (option_map (λ a. wrap16 (a + (65536 - constant))))
known_behind k (Rpt o) = record (known_behind_operands k (Rpt o)) { arp = None }
known_behind k (Rptk constant) = record k { arp = None }
known_behind k i = known_behind_operands k i

-- what the instructions of a stretch give, each by what is known before it
abbrev pub along : (Known → Placed → Option ℕ) → Known → List Placed → List ℕ
along gives k [] = []
along gives k (p ∷ ps) = option_to_list (gives k p) ++ along gives (known_behind k p.instr) ps

-- the same in each stretch of code
abbrev pub in_stretches : (Known → Placed → Option ℕ) → Code → List (List ℕ)
in_stretches gives code = map (along gives nothing_known) (stretches code)

-- AR2 to AR5, which go over the scalars of a frame
abbrev pub goes_over_scalars : ℕ → Bool
goes_over_scalars register = nat_le 2 register && nat_le register 5

-- an access: its address is listed, or none is, since it goes through another register, or it isn't known
pub data Access : Type 0 where
  Listed : ℕ → Access
  Unlisted : Access
  Unknown : Access

abbrev pub listed_or_unknown : Option ℕ → Access
listed_or_unknown None = Unknown
listed_or_unknown (Some a) = Listed a

-- by the register that is current, where it is known
abbrev pub access_by : Known → Option ℕ → Access
access_by k None = Unknown
access_by k (Some register) = if goes_over_scalars register then listed_or_unknown (k.ar register) else Unlisted

-- where there is an indirect operand
abbrev pub access_through : Known → Option Indirect → Access
access_through k None = Unlisted
access_through k (Some i) = access_by k k.arp

abbrev pub access : Known → Instr → Access
access k i = access_through k (access_operand i)

abbrev pub listed : Access → Option ℕ
listed (Listed a) = Some a
listed Unlisted = None
listed Unknown = None

-- the place of an access that isn't known
abbrev pub unknown_at : ℕ → Access → Option ℕ
unknown_at at (Listed a) = None
unknown_at at Unlisted = None
unknown_at at Unknown = Some at

-- the listed addresses of each stretch that has some, or the fault that comes first
pub data Walked : Type 0 where
  Blocks : List (List ℕ) → Walked
  BadWord : ℕ → Walked
  UnknownAddress : ℕ → Walked

abbrev pub has_some : List ℕ → Bool
has_some [] = false
has_some (a ∷ rest) = true

-- by the places of accesses that aren't known, and the faulty word. These accesses stand before it, so they come first.
abbrev pub walked : List ℕ → Option ℕ → List (List ℕ) → Walked
walked (at ∷ rest) fault lists = UnknownAddress at
walked [] (Some at) lists = BadWord at
walked [] None lists = Blocks (filter has_some lists)

abbrev pub walk_code : Code → Walked
walk_code code =
    walked
    (flat_map (λ ats. ats) (in_stretches (λ k p. unknown_at p.at (access k p.instr)) code))
    code.fault
    (in_stretches (λ k p. listed (access k p.instr)) code)

-- the walk of the range from its first to its last word
abbrev pub walk : List ℕ → ℕ → ℕ → Walked
walk words first last = walk_code (code_of words first last)
