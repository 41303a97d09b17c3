-- The instructions of a run (docs/TRANSLATION.md, "Runs"): a function of its operations and of where its operands lie. Nothing is known at its
-- start, and nothing of it is remembered behind it.
use Rattle.std.specs.Prelude.{ℕ, ◌/◌, ◌%◌, ◌==◌, Bool, true, false, if◌then◌else◌, List, [], ◌∷◌, ◌++◌, Option, Some, None}
use Rattle.c25_isa.specs.declared.operand.Change.TheVariants.{Stay}
use Rattle.c25_isa.specs.declared.operand.Operand.TheVariants.{Direct}
use Rattle.c25_isa.specs.declared.instruction.Instr.{Instr}
use Rattle.c25_isa.specs.declared.instruction.Instr.TheVariants.{Lark, Ldpk}
use Rattle.acc_code.specs.declared.operation.AccOp.{AccOp}
use Rattle.emit_blocks.specs.declared.step.Reach.{Reach}
use Rattle.emit_blocks.specs.declared.step.Reach.TheVariants as reach
use Rattle.emit_blocks.specs.declared.step.Step.{Step}
use Rattle.emit_blocks.specs.Places.{Places}
use Rattle.emit_blocks.specs.Instructions.{word_instr, constant_instr}
use Rattle.emit_blocks.specs.Steps.{Operation, steps_of}
use Rattle.emit_blocks.specs.Moves.{next_address, next_register, change_to, moves_by_index, address_behind, moved, indirect, made_current}

-- what is known within a run: the page, where the registers of lists stand, and whether a register is current that the next indirect operand
-- wants
pub record Known : Type 0 where
  pub page : Option ℕ
  pub stands : ℕ → Option ℕ
  pub current : Bool

abbrev pub nothing_known : Known
nothing_known = record { page = None; stands = λ r. None; current = false }

abbrev pub is_page : Option ℕ → ℕ → Bool
is_page None page = false
is_page (Some known) page = known == page

abbrev pub page_code : Option ℕ → ℕ → List Instr
page_code known a = if is_page known (a / 128) then [] else Ldpk (a / 128) ∷ []

-- the instructions of a step, before others of the run
abbrev pub row_code : ℕ → Known → AccOp → Reach → List Step → List Instr
row_code d k o (reach.Scalar p) xs =
    moved p.register (k.stands p.register) p.address
    ++ (made_current k.current p.register
    ++ word_instr o (indirect (change_to d p.address (next_address p.register xs)) p.register (next_register xs)) ∷ [])
row_code d k o reach.Pointer xs = made_current k.current 1 ++ word_instr o (indirect Stay 1 (next_register xs)) ∷ []
row_code d k o (reach.Word a) xs = page_code k.page a ++ word_instr o (Direct (a % 128)) ∷ []
row_code d k o (reach.Constant w) xs = constant_instr o w ∷ []

abbrev pub standing : (ℕ → Option ℕ) → ℕ → ℕ → ℕ → Option ℕ
standing stands r a = λ q. if q == r then Some a else stands q

-- what is known behind a step
abbrev pub known_behind : ℕ → Known → Reach → List Step → Known
known_behind d k (reach.Scalar p) xs = record k {
  stands = standing k.stands p.register (address_behind d p.address (change_to d p.address (next_address p.register xs)));
  current = true;
}
known_behind d k reach.Pointer xs = record k { current = true }
known_behind d k (reach.Word a) xs = record k { page = Some (a / 128) }
known_behind d k (reach.Constant w) xs = k

abbrev pub steps_code : ℕ → Known → List Step → List Instr
steps_code d k [] = []
steps_code d k (x ∷ xs) = row_code d k x.row x.reach xs ++ steps_code d (known_behind d k x.reach xs) xs

-- AR0 is the step where some access is left by it
abbrev pub index_code : ℕ → List Step → List Instr
index_code d xs = if moves_by_index d xs then Lark 0 d ∷ [] else []

abbrev pub all_steps_code : ℕ → List Step → List Instr
all_steps_code d xs = index_code d xs ++ steps_code d nothing_known xs

abbrev pub run_code : Places → List Operation → List Instr
run_code s os = all_steps_code s.step (steps_of s os)
