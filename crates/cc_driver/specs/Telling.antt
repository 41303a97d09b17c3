-- What the status of an execution tells of the source.
use Rattle.std.specs.Prelude.{◌≡◌, ◌<◌, ◌⊎◌, ℕ, ◌+◌, ◌*◌}
use Rattle.word_base.specs.declared.outcome.Ending.{Ending}
use Rattle.word_base.specs.Ports.{Input, Outputs}
use Rattle.c_tree.specs.TypedTree.{ProgramTree}
use Rattle.c25_isa.specs.declared.event.Stop.{Stop}
use Rattle.c25_isa.specs.declared.event.Stop.TheVariants as stop
use Rattle.ir_semantics.specs.WorkOutcomes.{Ended}
use Rattle.ir_semantics.specs.SourceWork.{worked_run}
use Rattle.cc_files.specs.frame_emit.StaticWords.{static_words}
use Rattle.cc_files.specs.image_proof.Telling.{EndsSo, IsUndefined}

-- a run of so many steps that put these outputs and stands here was answered with this status: with 0 the program ends with the same outputs and ending, or
-- does something undefined; with 7 it does something undefined; and with 6, where the program ends with so much work, the steps are below 1,000, 16 for
-- each word of static objects and their spare words, and 64 for each unit of the work
pub record StatusTells (t : ProgramTree) (input : Input) (steps : ℕ) (outs : Outputs) (stands : Stop) (status : ℕ) : Type 0 where
  pub done : status ≡ 0 → (ending : Ending) × (stands ≡ stop.Ended ending) × (EndsSo t input outs ending ⊎ IsUndefined t input)
  pub undefined : status ≡ 7 → IsUndefined t input
  pub running : status ≡ 6 → (turns : ℕ) (others : Outputs) (other : Ending) (work : ℕ) → worked_run t input turns ≡ Ended others other work
      → steps < 1000 + 16 * static_words t.statics + 64 * work
