-- Straight code that may run: where it leads and what it puts, where it ends at an input (docs/MACHINE.md, "Ports"), and where a part of it runs.
use Rattle.std.specs.Prelude.{◌≡◌, List, [], ◌∷◌, ◌++◌, ℕ}
use Rattle.word_base.specs.declared.outcome.Ending.{Ending}
use Rattle.word_base.specs.declared.outcome.Ending.TheVariants.{InputEnded}
use Rattle.word_base.specs.Ports.{Outputs}
use Rattle.c25_isa.specs.declared.operand.Operand.{Operand}
use Rattle.c25_isa.specs.declared.instruction.Instr.{Instr}
use Rattle.c25_isa.specs.declared.instruction.Instr.TheVariants.{In}
use Rattle.c25_code.specs.Work.{Work}
use Rattle.c25_code.specs.Straight.{InRam, behind_code, outputs_of_code, CodeReady}

-- the code may run, leads to other work and puts this
pub record CodeRuns (code : List Instr) (w u : Work) (put : Outputs) : Type 0 where
  pub ready : CodeReady code w
  pub reaches : behind_code code w ≡ u
  pub outputs : outputs_of_code code w ≡ put

-- it comes to an input of a port that has no word left
pub record EndsAtInput (code : List Instr) (w : Work) (put : Outputs) (ending : Ending) : Type 0 where
  pub front : List Instr
  pub port : ℕ
  pub operand : Operand
  pub rest : List Instr
  pub is : code ≡ front ++ In port operand ∷ rest
  pub work : Work
  pub runs : CodeRuns front w work put
  pub ram : InRam operand work
  pub none : work.input port ≡ []
  pub ends : InputEnded port ≡ ending

-- a part of it runs, with these outputs
pub record RunsInPart (code : List Instr) (w : Work) (put : Outputs) : Type 0 where
  pub front : List Instr
  pub rest : List Instr
  pub is : code ≡ front ++ rest
  pub work : Work
  pub runs : CodeRuns front w work put
