-- Startups of items with marks: where they arrive from a reset.
use Rattle.std.specs.Prelude.{ℕ, List, [], ◌∷◌, ◌++◌}
use Rattle.word_base.specs.Ports.{Input}
use Rattle.c25_isa.specs.declared.instruction.Instr.TheVariants.{Rovm, Spm, Idle, Call}
use Rattle.c25_isa.specs.declared.piece.PieceItem.{PieceItem}
use Rattle.c25_isa.specs.declared.piece.PieceItem.TheVariants.{Do, CallTo}
use Rattle.c25_isa.specs.State.{Start}
use Rattle.c25_isa.specs.MachineRun.{reset}
use Rattle.c25_isa.specs.CodeAt.{CodeAt}
use Rattle.c25_isa.specs.Leads.{Leads}
use Rattle.c25_code.specs.Work.{Work, calm, work_of}
use Rattle.c25_code.specs.Items.{no_change}

-- a startup: it makes the state calm, whatever the modes, runs its own items, calls a function and ends
abbrev pub startup_items : List PieceItem → List ℕ → List PieceItem
startup_items init main = Do Rovm ∷ Do Spm ∷ (init ++ CallTo main no_change ∷ Do Idle ∷ [])

-- program memory makes the state calm, and leads in so many more steps to a call of an address, with this work, and to the end
-- behind it
pub record StartupArrives (b : Start) (input : Input) (entry steps : ℕ) (work : Work) : Type 0 where
  pub calms : CodeAt b.program 0 (Rovm ∷ Spm ∷ [])
  pub start : ℕ
  pub leads : Leads steps (calm b.program 2 (work_of (reset b input))) (calm b.program start work) []
  pub called : CodeAt b.program start (Call entry no_change ∷ Idle ∷ [])
