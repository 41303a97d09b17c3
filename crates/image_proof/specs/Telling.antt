-- What a run of an image tells of the source that it was compiled from.
use Rattle.std.specs.Prelude.{◌≡◌, ◌<◌, ◌⊎◌, ℕ, ◌+◌, ◌*◌}
use Rattle.word_base.specs.declared.outcome.Ending.{Ending}
use Rattle.word_base.specs.declared.outcome.Outcome.TheVariants as source
use Rattle.word_base.specs.declared.outcome.UndefinedKind.{UndefinedKind}
use Rattle.word_base.specs.Ports.{Input, Outputs}
use Rattle.c_tree.specs.SourceRun.{source_run}
use Rattle.c_tree.specs.TypedTree.{ProgramTree}
use Rattle.c25_isa.specs.declared.event.Stop.{Stop}
use Rattle.c25_isa.specs.declared.event.Stop.TheVariants as stop
use Rattle.c25_isa.specs.declared.trap.TrapKind.{TrapKind}
use Rattle.ir_semantics.specs.WorkOutcomes.{Ended}
use Rattle.ir_semantics.specs.SourceWork.{worked_run}
use Rattle.frame_emit.specs.StaticWords.{static_words}

-- the program does something undefined, where each execution of each loop has at most so many turns
pub record IsUndefined (t : ProgramTree) (input : Input) : Type 0 where
  pub turns : ℕ
  pub outs : Outputs
  pub kind : UndefinedKind
  pub place : ℕ
  pub is : source_run t input turns ≡ source.Undefined outs kind place

-- the program ends so, where each execution of each loop has at most so many turns
pub record EndsSo (t : ProgramTree) (input : Input) (outs : Outputs) (ending : Ending) : Type 0 where
  pub turns : ℕ
  pub is : source_run t input turns ≡ source.Ended outs ending

-- a run of so many steps that put these outputs and stands here: where it ended, the program ends with the same outputs and ending, or does something
-- undefined; it came to a trap only where the program does something undefined; and it still runs, where the program ends, only before 1,000 steps,
-- 16 for each word of static objects and their spare words, and 64 for each unit of the program's work
pub record TellsOf (t : ProgramTree) (input : Input) (steps : ℕ) (outs : Outputs) (stands : Stop) : Type 0 where
  pub ended : (ending : Ending) → stands ≡ stop.Ended ending → EndsSo t input outs ending ⊎ IsUndefined t input
  pub trapped : (kind : TrapKind) (at : ℕ) → stands ≡ stop.Trap kind at → IsUndefined t input
  pub running : stands ≡ stop.Running → (turns : ℕ) (others : Outputs) (other : Ending) (work : ℕ) → worked_run t input turns ≡ Ended others other work → steps < 1000 + 16 * static_words t.statics + 64 * work
