-- c = a + b by hand, where a and b are neighbours on one list and c is a word by itself; and a pointer's word, behind a scalar of another list.
use Rattle.std.proofs.Common.{◌≡◌, ℕ, ◌+◌, ◌*◌, ◌/◌, ◌%◌, ◌^◌, List, [], ◌∷◌, Some, None, refl, lit<, lit≤}
use Rattle.c25_isa.specs.declared.operand.Change.TheVariants.{Stay, Up}
use Rattle.c25_isa.specs.declared.operand.Operand.TheVariants as word
use Rattle.c25_isa.specs.declared.instruction.Instr.TheVariants as instr
use Rattle.c25_isa.specs.State.{write}
use Rattle.c25_isa.specs.Step.{wrap16, plus}
use Rattle.c25_code.specs.Work.{Work}
use Rattle.c25_code.specs.Straight.{scaled}
use Rattle.acc_code.specs.declared.operation.AccOp.TheVariants as row
use Rattle.emit_blocks.specs.declared.step.Reach.{Reach}
use Rattle.emit_blocks.specs.declared.step.Reach.TheVariants as reach
use Rattle.emit_blocks.specs.declared.step.Step.{Step}
use Rattle.emit_blocks.specs.Steps.{step}
use Rattle.emit_blocks.specs.Runs.{all_steps_code}
use Rattle.emit_proof.specs.Direct.{behind_steps, outputs_of_steps, CanRun, RunsAlike}
use Rattle.emit_proof.proofs.Directly.{alike_itself}
use Rattle.emit_proof.proofs.Whole.{steps_run}

abbrev on : ℕ → ℕ → Reach
on r a = reach.Scalar (record { register = r; address = a })

abbrev sum : List Step
sum = step (row.Lac 0) (on 2 0x332) ∷ step (row.Add 0) (on 2 0x333) ∷ step (row.Sacl 0) (reach.Word 0x400) ∷ []

sum_code : all_steps_code 1 sum ≡
    instr.Lrlk 2 0x332 ∷ instr.Mar (record { change = Stay; next = Some 2 }) ∷ instr.Lac 0 (word.Indirect (record { change = Up; next = None }))
    ∷ instr.Add 0 (word.Indirect (record { change = Stay; next = None })) ∷ instr.Ldpk 8 ∷ instr.Sacl 0 (word.Direct 0) ∷ []
sum_code = refl

-- what comes of it in memory
sum_stored : (w : Work) → (behind_steps sum w).ram ≡ write w.ram 0x400 (wrap16 (plus (scaled w (w.ram 0x332) 0) (scaled w (w.ram 0x333) 0) * 2 ^ 0))
sum_stored w = refl

sum_can : (w : Work) → CanRun sum [] w
sum_can w = record {
  lists = (lit≤ tt, (lit≤ tt, (tt, tt)));
  words = (lit< tt, (lit< tt, (lit< tt, tt)));
  takes = (refl, (refl, (refl, tt)));
  ready = ((tt, (lit≤ tt, tt)), ((tt, (lit≤ tt, tt)), ((tt, (lit≤ tt, tt)), tt)));
}

-- so its code comes to that
sum_runs : (w : Work) → RunsAlike (all_steps_code 1 sum) w (behind_steps sum w) []
sum_runs w = steps_run 1 sum w w (alike_itself w) (sum_can w)

-- *p, where p is on another list: AR1 becomes the word of p, and names the word that is put
abbrev pointed : List Step
pointed = step row.Point (on 3 0x340) ∷ step (row.Out 1) reach.Pointer ∷ []

pointed_puts : (w : Work) → outputs_of_steps pointed w ≡ (1, w.ram ((w.ram 0x340 / 128) * 128 + w.ram 0x340 % 128)) ∷ []
pointed_puts w = refl
