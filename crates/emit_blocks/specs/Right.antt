-- What is wanted of operations, and of where their operands lie, so that each instruction of a run is one of the machine's (docs/TRANSLATION.md,
-- "Runs").
use Rattle.std.specs.Prelude.{⊤, ℕ, ◌≡◌, ◌<◌, true, List, [], ◌∷◌}
use Rattle.c25_isa.specs.declared.instruction.Instr.{Instr}
use Rattle.c25_isa.specs.Table.{IsInstr}
use Rattle.acc_code.specs.declared.operation.AccOp.{AccOp}
use Rattle.acc_code.specs.declared.operation.AccOp.TheVariants as row
use Rattle.acc_code.specs.Operands.{taken_by, HasRange, IsTaken, has_13_bits}
use Rattle.emit_blocks.specs.declared.site.ScalarPlace.{ScalarPlace}
use Rattle.emit_blocks.specs.declared.step.Reach.{Reach}
use Rattle.emit_blocks.specs.declared.step.Reach.TheVariants as reach
use Rattle.emit_blocks.specs.declared.step.Step.{Step}
use Rattle.emit_blocks.specs.Places.{Places}
use Rattle.emit_blocks.specs.Steps.{Operation}

-- the constants of a row, where it doesn't take all words
abbrev pub IsConstantOf : AccOp → ℕ → Type 0
IsConstantOf row.Mpyk w = has_13_bits w ≡ true
IsConstantOf row.Lack w = w < 256
IsConstantOf row.Addk w = w < 256
IsConstantOf row.Subk w = w < 256
IsConstantOf o w = ⊤

-- the register of a scalar's list, and a constant of the row
abbrev pub IsReachOf : AccOp → Reach → Type 0
IsReachOf o (reach.Scalar p) = p.register < 8
IsReachOf o (reach.Constant w) = IsConstantOf o w
IsReachOf o r = ⊤

-- a step as its row takes it
pub record IsRightStep (x : Step) : Type 0 where
  pub range : HasRange x.row
  pub reached : IsReachOf x.row x.reach

-- a word each
abbrev pub HasWords : Reach → Type 0
HasWords (reach.Scalar p) = p.address < 65536
HasWords reach.Pointer = ⊤
HasWords (reach.Word a) = a < 65536
HasWords (reach.Constant w) = w < 65536

abbrev pub AreRightSteps : List Step → Type 0
AreRightSteps [] = ⊤
AreRightSteps (x ∷ xs) = IsRightStep x × AreRightSteps xs

abbrev pub HaveWords : List Step → Type 0
HaveWords [] = ⊤
HaveWords (x ∷ xs) = HasWords x.reach × HaveWords xs

-- an operation whose row takes its operand, with its shift or port in its range
pub record IsRight (o : Operation) : Type 0 where
  pub range : HasRange o.row
  pub taken : IsTaken (taken_by o.row) o.operand

abbrev pub AreRight : List Operation → Type 0
AreRight [] = ⊤
AreRight (o ∷ os) = IsRight o × AreRight os

abbrev pub HaveRegisters : List ScalarPlace → Type 0
HaveRegisters [] = ⊤
HaveRegisters (p ∷ ps) = (p.register < 8) × HaveRegisters ps

-- a run at a site: each operation is right, and the registers of the scalars' lists are among the machine's
pub record IsRightRun (s : Places) (os : List Operation) : Type 0 where
  pub operations : AreRight os
  pub registers : HaveRegisters s.scalars

-- instructions of the machine
abbrev pub AreInstrs : List Instr → Type 0
AreInstrs [] = ⊤
AreInstrs (i ∷ is) = IsInstr i × AreInstrs is
