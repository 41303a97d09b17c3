-- What the executions of a source have to do with what it means.
use Rattle.std.specs.Prelude.{◌≡◌, ◌≤◌, ℕ, List}
use Rattle.word_base.specs.Outcome.{outputs_of}
use Rattle.word_base.specs.Ports.{Outputs, Prefix, input_of}
use Rattle.c_tree.specs.SourceRun.{source_run}
use Rattle.cc_answers.specs.Answers.{Answered}
use Rattle.cc_driver.specs.Exec.{ExecutesTo}
use Rattle.cc_driver.specs.Means.{MeansTo}

-- the outputs that an evaluation put
abbrev pub outputs_meant : (source ports : List ℕ) (turns : ℕ) (answer : Answered) → MeansTo source ports turns answer → Outputs
outputs_meant source ports turns answer m = outputs_of (source_run m.program (input_of m.lines) turns)

-- each execution of so many steps or more puts these outputs before any others
pub record PutsFirst (source ports : List ℕ) (outs : Outputs) (least : ℕ) : Type 0 where
  pub by : (steps : ℕ) (answer : Answered) (e : ExecutesTo source ports steps answer) → least ≤ steps → Prefix outs e.runs.outs

-- each execution of at most so many steps still runs then, and has put none but the first of these outputs
pub record RunsUntil (source ports : List ℕ) (outs : Outputs) (most : ℕ) : Type 0 where
  pub by : (steps : ℕ) (answer : Answered) (e : ExecutesTo source ports steps answer) → steps ≤ most → (answer.status ≡ 6) × Prefix e.runs.outs outs

-- executions where a loop of the source would take one turn more: behind so many steps, which are no fewer than the turns, each still runs and has put these outputs
pub record GoOnWith (source ports : List ℕ) (turns : ℕ) (outs : Outputs) : Type 0 where
  pub many : ℕ
  pub no_fewer : turns ≤ many
  pub until : RunsUntil source ports outs many
  pub first : PutsFirst source ports outs many

-- executions where a source does something undefined: each that is long enough puts these outputs before any others
pub record PutThese (source ports : List ℕ) (outs : Outputs) : Type 0 where
  pub many : ℕ
  pub first : PutsFirst source ports outs many

-- an execution of a source that ends: its answer is what the source means, or it still runs and has put none but the first of the outputs
pub data EndsOrRuns (source ports : List ℕ) (turns steps : ℕ) (executed meant : Answered) (e : ExecutesTo source ports steps executed) (m : MeansTo source ports turns meant) : Type 0 where
  IsMeant : executed ≡ meant → EndsOrRuns source ports turns steps executed meant e m
  StillRuns : executed.status ≡ 6 → Prefix e.runs.outs (outputs_meant source ports turns meant m) → EndsOrRuns source ports turns steps executed meant e m
