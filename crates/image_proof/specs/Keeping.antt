-- What the machine keeps of a run of accumulator code.
use Rattle.std.specs.Prelude.{◌≡◌, ◌≤◌, ℕ, ◌+◌, ◌*◌, List, slice_get, Some, ◌++◌}
use Rattle.word_base.specs.declared.outcome.Ending.{Ending}
use Rattle.word_base.specs.Ports.{Outputs, Prefix}
use Rattle.acc_code.specs.AccTree.{FunctionItems}
use Rattle.acc_code.specs.Emittable.{Throughout}
use Rattle.c25_isa.specs.Agrees.{Steps}
use Rattle.c25_isa.specs.MachineRun as machine
use Rattle.c25_isa.specs.MachineRun.{outputs_reached}
use Rattle.c25_isa.specs.Pieces.{Piece}
use Rattle.ir_semantics.specs.Keeps.{WorkOutcome, Ended, More, Undefined}
use Rattle.frame_emit.specs.Emitted.{emitted}
use Rattle.image_proof.specs.Emissions.{Emission}
use Rattle.image_proof.specs.Usable.{IsUsableItem}

-- where the run ends, the machine ends with the same outputs and ending, in at most 64 steps for each unit of work and some more; where a loop has a
-- turn too many, the machine still runs with the same outputs, behind as many steps as a loop may have turns or more; and where something is
-- undefined, the machine puts at least the outputs before
pub record MachineKeeps (run : WorkOutcome) (steps : Steps) (turns more_steps : ℕ) : Type 0 where
  pub ended : (outs : Outputs) (ending : Ending) (work : ℕ) → run ≡ Ended outs ending work → (m : ℕ) × (m ≤ more_steps + 64 * work) × (steps m ≡ machine.Ended outs ending)
  pub more : (outs : Outputs) → run ≡ More outs → (m : ℕ) × (turns ≤ m) × (steps m ≡ machine.Running outs)
  pub prefix : (outs : Outputs) → run ≡ Undefined outs → (m : ℕ) × Prefix outs (outputs_reached (steps m))

-- the pieces of a program, and with routines behind them
abbrev pub own_pieces : Emission → List Piece
own_pieces e = emitted e.code e.items e.plan e.arrangements e.step

abbrev pub all_pieces : Emission → List Piece → List Piece
all_pieces e routines = own_pieces e ++ routines

-- the operands of all its functions are usable
pub record AreUsable (e : Emission) : Type 0 where
  pub by : (k : ℕ) (g : FunctionItems) → slice_get e.items k ≡ Some g → Throughout IsUsableItem g.body
