-- What comes of a call of a routine (docs/MACHINE.md, "Instructions", and docs/LANGUAGE.md, "Values"): the value of its operator in the low half
-- of ACC, and what it leaves as it was.
use Rattle.std.specs.Prelude.{◌≡◌, ◌⊎◌, ℕ, ◌+◌, ◌<◌, ◌≤◌, List, [], length}
use Rattle.word_base.specs.Words.{Calc, Good, int_quotient, int_remainder, int_shift_right, unsigned_quotient, unsigned_remainder, unsigned_shift_right}
use Rattle.c25_isa.specs.declared.instruction.Instr.TheVariants.{Call}
use Rattle.c25_isa.specs.declared.piece.PieceItem.{PieceItem}
use Rattle.c25_isa.specs.CodeAt.{StandsAt}
use Rattle.c25_isa.specs.Leads.{Leads}
use Rattle.c25_isa.specs.Pieces.{Piece, ItemsAt}
use Rattle.c25_isa.specs.State.{Memory}
use Rattle.c25_isa.specs.Step.{wrap16}
use Rattle.c25_code.specs.Work.{Work, calm, InRange}
use Rattle.c25_code.specs.Accesses.{Accesses, LeadsWithin, at_scratch}
use Rattle.c25_helper.specs.declared.routine.Routine.{Routine}
use Rattle.c25_helper.specs.declared.routine.Routine.TheVariants.{DivInt, DivUnsigned, RemInt, RemUnsigned, ShrInt, ShrUnsigned}
use Rattle.c25_helper.specs.Routines.{no_change, routine_name}

-- the value that C has for the left word and the right one, or why it has none
abbrev pub routine_value : Routine → ℕ → ℕ → Calc
routine_value DivInt left right = int_quotient left right
routine_value DivUnsigned left right = unsigned_quotient left right
routine_value RemInt left right = int_remainder left right
routine_value RemUnsigned left right = unsigned_remainder left right
routine_value ShrInt left right = int_shift_right left right
routine_value ShrUnsigned left right = unsigned_shift_right left right

-- only ACC, T, P, ARP, DP, SXM and the scratch words, 0300h to 030Fh, may differ
pub record HelperKeeps (w u : Work) : Type 0 where
  pub ar : u.ar ≡ w.ar
  pub stack : u.stack ≡ w.stack
  pub ram : (a : ℕ) → (a < 0x300) ⊎ (0x310 ≤ a) → u.ram a ≡ w.ram a
  pub input : u.input ≡ w.input

-- from a call it goes on behind the call, within 400 steps, in which nothing is put: this value is in the low half of ACC then
pub record ComesBack (program : Memory) (pc : ℕ) (w : Work) (value : ℕ) : Type 0 where
  pub steps : ℕ
  pub few : steps ≤ 400
  pub work : Work
  pub leads : Leads steps (calm program pc w) (calm program (pc + 2) work) []
  pub answers : wrap16 work.acc ≡ value
  pub keeps : HelperKeeps w work
  pub ranges : InRange w → InRange work

-- and no word of data memory is accessed on the way but scratch words
pub record ComesBackWithin (program : Memory) (pc : ℕ) (w : Work) (value : ℕ) : Type 0 where
  pub back : ComesBack program pc w value
  pub within : LeadsWithin (Accesses at_scratch) back.steps (calm program pc w) (calm program (pc + 2) back.work) []

-- wherever the items of a routine stand, and from wherever they are called with a word free on the hardware stack: with the left operand in 0300h
-- and the right one in 0301h for which C has a value, it comes back with that
pub record HelperResult (r : Routine) (items : List PieceItem) : Type 0 where
  pub by : (program : Memory) (marks : ℕ → ℕ) (names : List ℕ → ℕ) (entry pc : ℕ) (w : Work) (value : ℕ) → ItemsAt program marks names entry items → StandsAt program pc (Call entry no_change) → pc + 2 < 65536 → length w.stack < 8 → w.ram 0x300 < 65536 → w.ram 0x301 < 65536 → routine_value r (w.ram 0x300) (w.ram 0x301) ≡ Good value → ComesBack program pc w value

-- so it does, and accesses scratch words alone
pub record HelperWithin (r : Routine) (items : List PieceItem) : Type 0 where
  pub by : (program : Memory) (marks : ℕ → ℕ) (names : List ℕ → ℕ) (entry pc : ℕ) (w : Work) (value : ℕ) → ItemsAt program marks names entry items → StandsAt program pc (Call entry no_change) → pc + 2 < 65536 → length w.stack < 8 → w.ram 0x300 < 65536 → w.ram 0x301 < 65536 → routine_value r (w.ram 0x300) (w.ram 0x301) ≡ Good value → ComesBackWithin program pc w value

-- a piece that is that of a routine by its name
pub record IsHelper (p : Piece) : Type 0 where
  pub routine : Routine
  pub name : p.name ≡ routine_name routine
  pub result : HelperResult routine p.items
