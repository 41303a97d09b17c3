-- What the steps of a run come to, each on the word at its address: as if each row had a direct operand, on a page of its own. The registers of
-- lists are no part of it.
use Rattle.std.specs.Prelude.{⊤, ℕ, ◌≡◌, ◌/◌, ◌%◌, Bool, true, false, List, [], ◌∷◌, ◌++◌}
use Rattle.word_base.specs.Ports.{Outputs}
use Rattle.c25_isa.specs.declared.operand.Operand.TheVariants.{Direct}
use Rattle.c25_isa.specs.declared.instruction.Instr.{Instr}
use Rattle.c25_isa.specs.declared.instruction.Instr.TheVariants.{Ldpk}
use Rattle.c25_code.specs.Work.{Work}
use Rattle.c25_code.specs.Straight.{behind_code, outputs_of_code, CodeReady}
use Rattle.c25_code.specs.CodeRuns.{CodeRuns}
use Rattle.acc_code.specs.declared.operation.AccOp.{AccOp}
use Rattle.acc_code.specs.declared.operation.AccOp.TheVariants as row
use Rattle.emit_blocks.specs.declared.step.Reach.{Reach}
use Rattle.emit_blocks.specs.declared.step.Reach.TheVariants as reach
use Rattle.emit_blocks.specs.declared.step.Step.{Step}
use Rattle.emit_blocks.specs.Instructions.{word_instr, constant_instr}
use Rattle.emit_blocks.specs.Right.{HaveWords}
use Rattle.emit_proof.specs.Reaching.{AreOverLists}

-- the rows that work on a word of data memory; Point loads AR1 from there
abbrev pub takes_word : AccOp → Bool
takes_word row.Point = true
takes_word (row.Add s) = true
takes_word (row.Sub s) = true
takes_word (row.Lac s) = true
takes_word row.Mpy = true
takes_word row.Lt = true
takes_word row.Zals = true
takes_word row.Lact = true
takes_word row.Subs = true
takes_word row.Adds = true
takes_word row.Xor = true
takes_word row.Or = true
takes_word row.And = true
takes_word (row.Sacl s) = true
takes_word (row.Sach s) = true
takes_word (row.In port) = true
takes_word (row.Out port) = true
takes_word o = false

-- a row takes a word where its step reaches one
abbrev pub TakesReach : AccOp → Reach → Type 0
TakesReach o (reach.Scalar p) = takes_word o ≡ true
TakesReach o reach.Pointer = takes_word o ≡ true
TakesReach o (reach.Word a) = takes_word o ≡ true
TakesReach o (reach.Constant c) = ⊤

abbrev pub TakeReaches : List Step → Type 0
TakeReaches [] = ⊤
TakeReaches (x ∷ xs) = TakesReach x.row x.reach × TakeReaches xs

-- a row on the word at an address
abbrev pub row_at : AccOp → ℕ → List Instr
row_at o a = Ldpk (a / 128) ∷ word_instr o (Direct (a % 128)) ∷ []

-- on what a step reaches
abbrev pub direct_row : AccOp → Reach → Work → List Instr
direct_row o (reach.Scalar p) w = row_at o p.address
direct_row o reach.Pointer w = row_at o (w.ar 1)
direct_row o (reach.Word a) w = row_at o a
direct_row o (reach.Constant c) w = constant_instr o c ∷ []

abbrev pub behind_step : Step → Work → Work
behind_step x w = behind_code (direct_row x.row x.reach w) w

abbrev pub behind_steps : List Step → Work → Work
behind_steps [] w = w
behind_steps (x ∷ xs) w = behind_steps xs (behind_step x w)

-- all steps may run, and what they put
abbrev pub StepsReady : List Step → Work → Type 0
StepsReady [] w = ⊤
StepsReady (x ∷ xs) w = CodeReady (direct_row x.row x.reach w) w × StepsReady xs (behind_step x w)

abbrev pub outputs_of_steps : List Step → Work → Outputs
outputs_of_steps [] w = []
outputs_of_steps (x ∷ xs) w = outputs_of_code (direct_row x.row x.reach w) w ++ outputs_of_steps xs (behind_step x w)

-- the same work but for address registers other than AR1, the current one and the page
pub record AlikeOutside (w v : Work) : Type 0 where
  pub acc : w.acc ≡ v.acc
  pub t : w.t ≡ v.t
  pub p : w.p ≡ v.p
  pub pointer : w.ar 1 ≡ v.ar 1
  pub sxm : w.sxm ≡ v.sxm
  pub stack : w.stack ≡ v.stack
  pub ram : w.ram ≡ v.ram
  pub input : w.input ≡ v.input

-- steps that may run, before others of the run: lists have registers of their own, addresses are words, and each row is ready on its word
pub record CanRun (front rest : List Step) (w : Work) : Type 0 where
  pub lists : AreOverLists front
  pub words : HaveWords (front ++ rest)
  pub takes : TakeReaches front
  pub ready : StepsReady front w

-- the code runs to work that is like this outside, and puts this
pub record RunsAlike (code : List Instr) (w v : Work) (put : Outputs) : Type 0 where
  pub work : Work
  pub runs : CodeRuns code w work put
  pub alike : AlikeOutside work v
