-- What a run of operations does, and what its instructions have to do for it.
use Rattle.std.specs.Prelude.{◌≡◌, ◌≤◌, ⊤, ℕ, ◌+◌, ◌*◌, List, [], ◌∷◌, ◌++◌, length}
use Rattle.word_base.specs.declared.outcome.Ending.{Ending}
use Rattle.word_base.specs.Ports.{Outputs}
use Rattle.c25_isa.specs.declared.instruction.Instr.{Instr}
use Rattle.c25_code.specs.Work.{Work}
use Rattle.c25_code.specs.Accesses.{CodeMay}
use Rattle.c25_code.specs.CodeRuns.{CodeRuns, EndsAtInput, RunsInPart}
use Rattle.acc_code.specs.declared.operand.AccOperand.{AccOperand}
use Rattle.acc_code.specs.declared.operand.AccOperand.TheVariants as operand
use Rattle.acc_code.specs.declared.operation.AccOp.{AccOp}
use Rattle.acc_code.specs.declared.operation.AccOp.TheVariants as row
use Rattle.ir_semantics.specs.Parts.{Res, Gives, Finished, TooMany, Fails, Does, ◌>>=◌, give, Flow, Next, in_order}
use Rattle.ir_semantics.specs.TreeRun.{Addresses}
use Rattle.ir_semantics.specs.AccRows.{operation_weight}
use Rattle.ir_semantics.specs.AccRun.{Machine, tick, act}
use Rattle.emit_blocks.specs.Places.{object_address}
use Rattle.emit_blocks.specs.Steps.{Operation}
use Rattle.emit_proof.specs.Addressed.{IsWordOperand}
use Rattle.emit_proof.specs.Standing.{IsNamed}
use Rattle.emit_proof.specs.Accessing.{site_may}
use Rattle.emit_proof.specs.Sites.{Site, Beside}

-- operations one behind another, as the items of a list that they are
abbrev pub operate : Addresses → List Operation → Does Machine Flow
operate at [] = give Next
operate at (o ∷ os) = (tick (operation_weight o.row o.operand) >>= λ _. act at o.row o.operand) >>= λ flow. in_order flow (operate at os)

-- the function may name each operand
abbrev pub AreNamed : Site → List Operation → Type 0
AreNamed k [] = ⊤
AreNamed k (o ∷ os) = IsNamed k.places k.counts k.kept o.operand × AreNamed k os

-- the word of an object that is named lies in RAM
abbrev pub LiesInRam : Site → AccOperand → Type 0
LiesInRam k (operand.Direct v) = 0x300 ≤ object_address k.places v
LiesInRam k m = ⊤

-- an input of an object ends a run though nothing is stored, so its word has to lie in RAM
abbrev pub IsTakenIn : Site → AccOp → AccOperand → Type 0
IsTakenIn k (row.In port) m = LiesInRam k m
IsTakenIn k o m = ⊤

-- and numbers are words
abbrev pub IsUsable : Site → AccOp → AccOperand → Type 0
IsUsable k o m = IsWordOperand m × IsTakenIn k o m

abbrev pub AreUsable : Site → List Operation → Type 0
AreUsable k [] = ⊤
AreUsable k (o ∷ os) = IsUsable k o.row o.operand × AreUsable k os

-- behind the code the state is this one. Through address registers it accesses only scalars of the function and objects that live. Each instruction is
-- a step, and each unit of work is worth 64
pub record CodeDoes (k : Site) (code : List Instr) (v : Machine) (w : Work) (u : Machine) : Type 0 where
  pub work : Work
  pub put : Outputs
  pub runs : CodeRuns code w work put
  pub accesses : CodeMay (site_may k) code w
  pub beside : Beside k u work
  pub outputs : u.outside.outs ≡ v.outside.outs ++ put
  pub within : length code + 64 * v.work ≤ 64 * u.work

-- it ends at an input with these outputs and this work in all
pub record CodeEnds (k : Site) (code : List Instr) (v : Machine) (w : Work) (ending : Ending) (outs : Outputs) (total : ℕ) : Type 0 where
  pub put : Outputs
  pub ends : EndsAtInput code w put ending
  pub accesses : CodeMay (site_may k) ends.front w
  pub outputs : outs ≡ v.outside.outs ++ put
  pub within : length ends.front + 64 * v.work ≤ 64 * total

-- a part of it runs, with these outputs
pub record CodeStops (k : Site) (code : List Instr) (v : Machine) (w : Work) (outs : Outputs) : Type 0 where
  pub put : Outputs
  pub part : RunsInPart code w put
  pub accesses : CodeMay (site_may k) part.front w
  pub outputs : outs ≡ v.outside.outs ++ put

abbrev pub CodeMeets : Site → List Instr → Machine → Work → Res Machine Flow → Type 0
CodeMeets k code v w (Gives flow u) = (flow ≡ Next) × CodeDoes k code v w u
CodeMeets k code v w (Finished ending outs total) = CodeEnds k code v w ending outs total
CodeMeets k code v w (TooMany outs) = ⊥
CodeMeets k code v w (Fails outs) = CodeStops k code v w outs
