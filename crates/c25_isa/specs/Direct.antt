-- Which words of data memory a range of program words names by direct operands: docs/MACHINE.md, "Walks".
use Rattle.std.specs.Prelude.{ℕ, ◌+◌, ◌*◌, Bool, true, false, not, nat_le, ◌==◌, ◌&&◌, ◌||◌, if◌then◌else◌, List, [], ◌∷◌, ◌++◌, Option, Some, None, option_map, option_to_list, option_and_then, IsTrue, is_none}
use Rattle.std.specs.List.{list_any, list_all}
use Rattle.c25_isa.specs.declared.operand.Operand.{Operand}
use Rattle.c25_isa.specs.declared.operand.Operand.TheVariants as operand
use Rattle.c25_isa.specs.declared.instruction.Instr.{Instr}
use Rattle.c25_isa.specs.declared.instruction.Instr.TheVariants.{Ldpk}
use Rattle.c25_isa.specs.Rows.{row, row_of}
use Rattle.c25_isa.specs.MemoryUse.{writes}
use Rattle.c25_isa.specs.Step.{data_operand}
use Rattle.c25_isa.specs.Walk.{Placed, code_of, stretches}

-- the rows that write data memory
abbrev pub is_store : Instr → Bool
is_store i = writes (row (row_of i)).memory

-- the sixteen words for numbers that are kept for a few instructions
abbrev pub is_scratch : ℕ → Bool
is_scratch a = nat_le 0x300 a && nat_le a 0x30f

abbrev pub is_among : ℕ → List ℕ → Bool
is_among a words = list_any (λ word. word == a) words

-- three lists of data words: the frame of the function itself; the places that it reads and writes, as those of static
-- objects, of its own local objects and of its return word; and the parameters that it gives to the functions that it calls
pub record Words : Type 0 where
  pub own : List ℕ
  pub places : List ℕ
  pub given : List ℕ

-- what a stretch did so far: the page of its last LDPK, and the words to which its direct operands stored
pub record Done : Type 0 where
  pub page : Option ℕ
  pub stored : List ℕ

abbrev pub nothing_done : Done
nothing_done = record { page = None; stored = [] }

abbrev pub as_direct : Operand → Option ℕ
as_direct (operand.Direct offset) = Some offset
as_direct (operand.Indirect i) = None

-- the offset of an instruction's direct operand
abbrev pub direct_offset : Instr → Option ℕ
direct_offset i = option_and_then as_direct (data_operand i)

-- the address of an offset, where the page is known
abbrev pub direct_address : Option ℕ → ℕ → Option ℕ
direct_address page offset = option_map (λ number. number * 128 + offset) page

-- whether a store, or a read, may name an address
abbrev pub may_name : Words → List ℕ → Bool → ℕ → Bool
may_name w stored store a =
    not (is_among a w.own)
    && (if is_scratch a then store || is_among a stored else is_among a w.places || (store && is_among a w.given))

-- at the address, where the page is known
abbrev pub may_name_at : Words → List ℕ → Bool → Option ℕ → Bool
may_name_at w stored store None = false
may_name_at w stored store (Some a) = may_name w stored store a

-- where there is a direct operand
abbrev pub is_direct_operand : Words → Done → Bool → Option ℕ → Bool
is_direct_operand w d store None = true
is_direct_operand w d store (Some offset) = may_name_at w d.stored store (direct_address d.page offset)

abbrev pub page_behind : Option ℕ → Instr → Option ℕ
page_behind page (Ldpk constant) = Some constant
page_behind page i = page

-- the word to which an instruction stores by a direct operand
abbrev pub stored_by : Option ℕ → Instr → Option ℕ
stored_by page i = if is_store i then option_and_then (direct_address page) (direct_offset i) else None

abbrev pub done_behind : Done → Instr → Done
done_behind d i = record { page = page_behind d.page i; stored = option_to_list (stored_by d.page i) ++ d.stored }

-- each direct operand of a stretch may be there
abbrev pub is_direct_from : Words → Done → List Placed → Bool
is_direct_from w d [] = true
is_direct_from w d (p ∷ ps) =
    is_direct_operand w d (is_store p.instr) (direct_offset p.instr) && is_direct_from w (done_behind d p.instr) ps

-- no word of a range is faulty, and each direct operand may be there, by the function's own frame, its places and what it gives
abbrev pub is_direct : List ℕ → ℕ → ℕ → List ℕ → List ℕ → List ℕ → Bool
is_direct words first last own places given =
    is_none (code_of words first last).fault
    && list_all
    (is_direct_from (record { own = own; places = places; given = given }) nothing_done)
    (stretches (code_of words first last))

abbrev pub Direct : List ℕ → ℕ → ℕ → List ℕ → List ℕ → List ℕ → Type 0
Direct words first last own places given = IsTrue (is_direct words first last own places given)
