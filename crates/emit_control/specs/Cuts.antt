-- What entries become, by what stands before them (docs/TRANSLATION.md, "Labels"): each mark is named by a jump of its piece, and each block of
-- accesses ends at a cut.
use Rattle.std.specs.Prelude.{ℕ, suc, ◌+◌, ◌-◌, ◌/◌, ◌%◌, nat_lt, nat_le, ◌==◌, ◌||◌, Bool, true, false, if◌then◌else◌, List, [], ◌∷◌, ◌++◌, length, slice_get, Option, Some, None}
use Rattle.std.specs.List.{list_any}
use Rattle.c_tree.specs.declared.program.VarRef.{VarRef}
use Rattle.c25_isa.specs.declared.instruction.Instr.{Instr}
use Rattle.c25_isa.specs.declared.instruction.Instr.TheVariants as instr
use Rattle.c25_isa.specs.declared.instruction.JumpOp.{JumpOp}
use Rattle.c25_isa.specs.declared.instruction.JumpOp.TheVariants as jump
use Rattle.c25_isa.specs.declared.piece.PieceItem.{PieceItem}
use Rattle.c25_isa.specs.declared.piece.PieceItem.TheVariants as piece
use Rattle.c25_code.specs.Items.{no_change, plain_items, entry_code, return_code}
use Rattle.c25_code.specs.ClearingLoops.{clears_at_any}
use Rattle.acc_code.specs.declared.item.CaseLabel.{CaseLabel}
use Rattle.acc_code.specs.declared.item.CaseLabel.TheVariants.{Value, Default}
use Rattle.acc_code.specs.declared.operand.AccOperand.{AccOperand}
use Rattle.acc_code.specs.declared.operand.AccOperand.TheVariants as operand
use Rattle.acc_code.specs.declared.operand.HelperName.{HelperName}
use Rattle.acc_code.specs.declared.operation.Test.{Test}
use Rattle.acc_code.specs.declared.operation.Test.TheVariants.{Gz, Lez, Lz, Gez, Nz, Z}
use Rattle.acc_code.specs.AccTree.{ItemList}
use Rattle.emit_blocks.specs.Steps.{Operation}
use Rattle.emit_control.specs.declared.state.Before.{Before}
use Rattle.emit_control.specs.declared.state.Before.TheVariants.{Open, Shut, Gone}
use Rattle.emit_control.specs.Entries.{Entry, Run, Head, Place, Close, Branch, Goto, Dispatch, CallTo, CallHelper, Wipe, Ret, Finish}
use Rattle.emit_control.specs.Flow.{body_entries}
use Rattle.emit_control.specs.declared.setting.Words.{Words}
use Rattle.emit_control.specs.Settings.{Setting, cells_of, function_name, code_in, helper_name}

-- what stands before, and which labels its jumps name
pub record State : Type 0 where
  pub before : Before
  pub named : ℕ → Bool

abbrev pub begun : State
begun = record { before = Shut; named = λ l. false }

abbrev pub naming : ℕ → State → State
naming l s = record s { named = λ m. m == l || s.named m }

-- the labels of cases from one on
abbrev pub naming_cases : List CaseLabel → ℕ → State → State
naming_cases [] l s = s
naming_cases (c ∷ cs) l s = naming_cases cs (suc l) (naming l s)

abbrev pub shut : State → State
shut s = record s { before = Shut }

abbrev pub gone : State → State
gone s = record s { before = Gone }

abbrev pub is_access : AccOperand → Bool
is_access (operand.Scalar n) = true
is_access m = false

abbrev pub has_access : List Operation → Bool
has_access os = list_any (λ o. is_access o.operand) os

-- behind a run
abbrev pub behind_run : Bool → Before → Before
behind_run true b = Open
behind_run false Open = Open
behind_run false Shut = Shut
behind_run false Gone = Shut

-- the jump that is taken where a test holds
abbrev pub jump_on : Test → JumpOp
jump_on Gz = jump.Bgz
jump_on Lez = jump.Blez
jump_on Lz = jump.Blz
jump_on Gez = jump.Bgez
jump_on Nz = jump.Bnz
jump_on Z = jump.Bz

abbrev pub jump_item : JumpOp → ℕ → PieceItem
jump_item op l = piece.Jump op l no_change

abbrev pub mark_item : ℕ → PieceItem
mark_item l = piece.Mark l

abbrev pub call_item : List ℕ → PieceItem
call_item name = piece.CallTo name no_change

-- takes a number below 65536 from the accumulator, or adds it, on all 32 bits and in either mode
abbrev pub taken_away : ℕ → List Instr
taken_away n =
    if n == 0 then []
    else (if nat_lt n 256 then instr.Subk n ∷ []
    else (if nat_lt n 32768 then instr.Sblk 0 n ∷ []
    else instr.Sblk 1 (n / 2) ∷ (if n % 2 == 0 then [] else instr.Subk 1 ∷ [])))

abbrev pub added : ℕ → List Instr
added n =
    if nat_lt n 256 then instr.Addk n ∷ []
    else (if nat_lt n 32768 then instr.Adlk 0 n ∷ []
    else instr.Adlk 1 (n / 2) ∷ (if n % 2 == 0 then [] else instr.Addk 1 ∷ []))

-- from a word less one number to the word less another
abbrev pub less_by : ℕ → ℕ → List Instr
less_by before n = if nat_le before n then taken_away (n - before) else added (before - n)

-- a jump for each value, by what is taken away so far
abbrev pub case_items : List CaseLabel → ℕ → ℕ → List PieceItem
case_items [] l before = []
case_items (Value v ∷ cs) l before = plain_items (less_by before v) ++ jump_item jump.Bz l ∷ case_items cs (suc l) v
case_items (Default ∷ cs) l before = case_items cs (suc l) before

-- where control goes for another word
abbrev pub default_label : List CaseLabel → ℕ → ℕ → ℕ
default_label [] l behind = behind
default_label (Value v ∷ cs) l behind = default_label cs (suc l) behind
default_label (Default ∷ cs) l behind = l

abbrev pub dispatch_items : List CaseLabel → ℕ → ℕ → List PieceItem
dispatch_items cs l behind = case_items cs l 0 ++ jump_item jump.B (default_label cs l behind) ∷ []

-- loads a number of words
abbrev pub count_instr : ℕ → Instr
count_instr n = if nat_lt n 256 then instr.Lack n else instr.Lalk 0 n

-- so many words from an address on become 0
abbrev pub wipe_items : ℕ → ℕ → ℕ → List PieceItem
wipe_items a n l = piece.Do (instr.Lrlk 1 a) ∷ piece.Do (count_instr n) ∷ clears_at_any l

abbrev pub place_items : Bool → Before → ℕ → List PieceItem
place_items true b l = piece.Mark l ∷ []
place_items false Open l = jump_item jump.B l ∷ piece.Mark l ∷ []
place_items false Shut l = []
place_items false Gone l = []

abbrev pub behind_place : Bool → ℕ → State → State
behind_place true l s = shut s
behind_place false l s = by s.before
  where
    by : Before → State
    by Open = shut (naming l s)
    by b = shut s

abbrev pub close_items : Bool → Before → ℕ → ℕ → List PieceItem
close_items true b h l = []
close_items false Gone h l = jump_item jump.B h ∷ []
close_items false b h l = jump_item jump.B l ∷ jump_item jump.B h ∷ []

abbrev pub behind_close : Bool → ℕ → ℕ → State → State
behind_close true h l s = s
behind_close false h l s = by s.before
  where
    by : Before → State
    by Gone = gone (naming h s)
    by b = gone (naming h (naming l s))

-- in the setting of a function
module _ (m : Setting) where
  -- a Clear of no words is the end of a block
  abbrev pub wiped_items : Words → ℕ → State → List PieceItem
  wiped_items w l s = if w.count == 0 then place_items (s.named l) s.before l else wipe_items w.first w.count l

  abbrev pub behind_wipe : Words → ℕ → State → State
  behind_wipe w l s = if w.count == 0 then behind_place (s.named l) l s else shut (naming l s)

  abbrev pub finish_items : Bool → Before → ℕ → List PieceItem
  finish_items true b l = piece.Mark l ∷ plain_items (return_code m.back)
  finish_items false Gone l = []
  finish_items false b l = plain_items (return_code m.back)

  abbrev pub entry_items : State → Entry → List PieceItem
  entry_items s (Run os) = plain_items (code_in m os)
  entry_items s (Head l) = piece.Mark l ∷ []
  entry_items s (Place l) = place_items (s.named l) s.before l
  entry_items s (Close h l) = close_items (s.named h) s.before h l
  entry_items s (Branch t l) = jump_item (jump_on t) l ∷ []
  entry_items s (Goto l) = jump_item jump.B l ∷ []
  entry_items s (Dispatch cs l behind) = dispatch_items cs l behind
  entry_items s (CallTo f) = call_item (function_name m f) ∷ []
  entry_items s (CallHelper name) = call_item (helper_name name) ∷ []
  entry_items s (Wipe v from l) = wiped_items (cells_of m v from) l s
  entry_items s Ret = plain_items (return_code m.back)
  entry_items s (Finish l) = finish_items (s.named l) s.before l

  abbrev pub behind_entry : State → Entry → State
  behind_entry s (Run os) = record s { before = behind_run (has_access os) s.before }
  behind_entry s (Head l) = shut s
  behind_entry s (Place l) = behind_place (s.named l) l s
  behind_entry s (Close h l) = behind_close (s.named h) h l s
  behind_entry s (Branch t l) = shut (naming l s)
  behind_entry s (Goto l) = gone (naming l s)
  behind_entry s (Dispatch cs l behind) = gone (naming (default_label cs l behind) (naming_cases cs l s))
  behind_entry s (CallTo f) = shut s
  behind_entry s (CallHelper name) = shut s
  behind_entry s (Wipe v from l) = behind_wipe (cells_of m v from) l s
  behind_entry s Ret = gone s
  behind_entry s (Finish l) = gone s

  abbrev pub cut : State → List Entry → List PieceItem
  cut s [] = []
  cut s (e ∷ es) = entry_items s e ++ cut (behind_entry s e) es

  -- a function begins by taking its return address into its word, if it has one
  abbrev pub function_items : ItemList → List PieceItem
  function_items body = plain_items (entry_code m.back) ++ cut begun (body_entries body)
