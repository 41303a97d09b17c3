-- What is wanted of the operations of a run so that its direct operands may be there: each word that they name, and scratch words where they are
-- read behind a store.
use Rattle.std.specs.Prelude.{◌≡◌, ⊤, ℕ, Bool, true, if◌then◌else◌, List, [], ◌∷◌}
use Rattle.c25_isa.specs.declared.operand.Operand.TheVariants.{Direct}
use Rattle.c25_isa.specs.Direct.{Words, is_store, may_name}
use Rattle.acc_code.specs.declared.operation.AccOp.{AccOp}
use Rattle.emit_blocks.specs.declared.step.Reach.{Reach}
use Rattle.emit_blocks.specs.declared.step.Reach.TheVariants as reach
use Rattle.emit_blocks.specs.declared.step.Step.{Step}
use Rattle.emit_blocks.specs.Instructions.{word_instr}

-- the row stores to its word
abbrev pub stores : AccOp → Bool
stores o = is_store (word_instr o (Direct 0))

-- the words to which steps stored
abbrev pub stored_behind : List ℕ → AccOp → Reach → List ℕ
stored_behind stored o (reach.Word a) = if stores o then a ∷ stored else stored
stored_behind stored o r = stored

abbrev pub StepNames : Words → List ℕ → AccOp → Reach → Type 0
StepNames w stored o (reach.Word a) = may_name w stored (stores o) a ≡ true
StepNames w stored o r = ⊤

abbrev pub StepsName : Words → List ℕ → List Step → Type 0
StepsName w stored [] = ⊤
StepsName w stored (x ∷ xs) = StepNames w stored x.row x.reach × StepsName w (stored_behind stored x.row x.reach) xs
