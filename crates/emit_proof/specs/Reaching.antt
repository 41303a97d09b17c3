-- How a step's instruction comes to the word that it works on: the instructions before it, its operand, and the work between (docs/TRANSLATION.md,
-- "Runs").
use Rattle.std.specs.Prelude.{⊤, ℕ, ◌≡◌, ◌≤◌, ◌/◌, ◌%◌, Bool, true, false, if◌then◌else◌, List, [], ◌∷◌, ◌++◌}
use Rattle.c25_isa.specs.declared.operand.Change.TheVariants.{Stay}
use Rattle.c25_isa.specs.declared.operand.Operand.{Operand}
use Rattle.c25_isa.specs.declared.operand.Operand.TheVariants.{Direct}
use Rattle.c25_isa.specs.declared.instruction.Instr.{Instr}
use Rattle.c25_isa.specs.State.{write}
use Rattle.c25_code.specs.Work.{Work}
use Rattle.c25_code.specs.Straight.{registers_behind, arp_behind}
use Rattle.acc_code.specs.declared.operation.AccOp.{AccOp}
use Rattle.emit_blocks.specs.declared.step.Reach.{Reach}
use Rattle.emit_blocks.specs.declared.step.Reach.TheVariants as reach
use Rattle.emit_blocks.specs.declared.step.Step.{Step}
use Rattle.emit_blocks.specs.Instructions.{word_instr, constant_instr}
use Rattle.emit_blocks.specs.Moves.{next_address, next_register, change_to, moves_by_index, moved, indirect, made_current}
use Rattle.emit_blocks.specs.Runs.{Known, page_code}

-- whether a word of data memory is worked on, and its address; a constant has none
abbrev pub is_word : Reach → Bool
is_word (reach.Scalar p) = true
is_word reach.Pointer = true
is_word (reach.Word a) = true
is_word (reach.Constant c) = false

abbrev pub reach_address : Work → Reach → ℕ
reach_address w (reach.Scalar p) = p.address
reach_address w reach.Pointer = w.ar 1
reach_address w (reach.Word a) = a
reach_address w (reach.Constant c) = 0

-- lists have registers of their own: neither AR0, which has the step, nor AR1, which has the pointer
abbrev pub IsOverList : Reach → Type 0
IsOverList (reach.Scalar p) = 2 ≤ p.register
IsOverList r = ⊤

abbrev pub AreOverLists : List Step → Type 0
AreOverLists [] = ⊤
AreOverLists (x ∷ xs) = IsOverList x.reach × AreOverLists xs

-- the instructions before that of the row, the operand that the row has, before others of the run, and the row's instruction
abbrev pub before_row : Known → Reach → List Instr
before_row k (reach.Scalar p) = moved p.register (k.stands p.register) p.address ++ made_current k.current p.register
before_row k reach.Pointer = made_current k.current 1
before_row k (reach.Word a) = page_code k.page a
before_row k (reach.Constant c) = []

abbrev pub row_operand : ℕ → Reach → List Step → Operand
row_operand d (reach.Scalar p) xs = indirect (change_to d p.address (next_address p.register xs)) p.register (next_register xs)
row_operand d reach.Pointer xs = indirect Stay 1 (next_register xs)
row_operand d (reach.Word a) xs = Direct (a % 128)
row_operand d (reach.Constant c) xs = Direct 0

abbrev pub row_instr : AccOp → Reach → Operand → Instr
row_instr o (reach.Scalar p) m = word_instr o m
row_instr o reach.Pointer m = word_instr o m
row_instr o (reach.Word a) m = word_instr o m
row_instr o (reach.Constant c) m = constant_instr o c

-- the work in which the row runs: its register stands at the word and is current, or its page is known
abbrev pub brought : Reach → Work → Work
brought (reach.Scalar p) w = record w { ar = write w.ar p.register p.address; arp = p.register }
brought reach.Pointer w = record w { arp = 1 }
brought (reach.Word a) w = record w { dp = a / 128 }
brought (reach.Constant c) w = w

-- the work in which the first row runs: AR0 is the step where some access is left by it
abbrev pub indexed : ℕ → List Step → Work → Work
indexed d xs w = if moves_by_index d xs then record w { ar = write w.ar 0 d } else w

-- what becomes of the registers behind a row with this operand, whatever it does else: only AR1 may be loaded besides. A row without a word in
-- memory leaves them as a direct operand does
pub record LeavesRegisters (m : Operand) (v u : Work) : Type 0 where
  pub index : u.ar 0 ≡ registers_behind m v 0
  pub lists : (r : ℕ) → 2 ≤ r → u.ar r ≡ registers_behind m v r
  pub current : u.arp ≡ arp_behind m v
  pub page : u.dp ≡ v.dp
