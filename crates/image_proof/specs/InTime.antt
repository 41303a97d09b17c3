-- Images that end in time, by the work of the source.
use Rattle.std.specs.Prelude.{◌≡◌, ◌≤◌, ℕ, ◌+◌, ◌*◌, List}
use Rattle.word_base.specs.declared.outcome.Ending.{Ending}
use Rattle.word_base.specs.Ports.{Input, IsInput, Outputs}
use Rattle.c_tree.specs.TypedTree.{ProgramTree}
use Rattle.c25_isa.specs.State.{Start, IsStart, BeginsWith}
use Rattle.c25_isa.specs.MachineRun as machine
use Rattle.c25_isa.specs.MachineRun.{machine_run}
use Rattle.ir_semantics.specs.SourceWork.{worked_run}
use Rattle.ir_semantics.specs.WorkOutcomes.{Ended}
use Rattle.frame_emit.specs.StaticWords.{static_words}

-- where the program ends, the image does within 1,000 steps, 16 for each word of static objects and their spare words, and 64 for each unit of the
-- program's work
abbrev pub EndsInTime : ProgramTree → List ℕ → Type 0
EndsInTime t words =
    (b : Start) (input : Input) (n : ℕ) (outs : Outputs) (ending : Ending) (work : ℕ) → IsStart b → BeginsWith words b → IsInput input → worked_run t input n ≡ Ended outs ending work
    → (m : ℕ) × (m ≤ 1000 + 16 * static_words t.statics + 64 * work) × (machine_run b input m ≡ machine.Ended outs ending)
