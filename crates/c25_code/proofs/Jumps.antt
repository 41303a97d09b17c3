-- One step of a jump, a call, a return and an end, at any modes; so from a calm state.
use Rattle.std.proofs.Common.{◌≡◌, ◌≢◌, ℕ, ◌+◌, ◌<◌, Bool, true, false, [], ◌∷◌, length, None, refl, ap, ◌∙◌, cond, arith}
use Rattle.std.proofs.lemmas.Bool.{ne_eqb}
use Rattle.word_base.specs.declared.outcome.Ending.TheVariants.{Returned}
use Rattle.c25_isa.specs.declared.operand.Indirect.{Indirect}
use Rattle.c25_isa.specs.declared.operand.Operand.TheVariants.{Indirect as Through}
use Rattle.c25_isa.specs.declared.instruction.JumpOp.{JumpOp}
use Rattle.c25_isa.specs.declared.instruction.JumpOp.TheVariants.{B, Bgz, Blez, Blz, Bgez, Bnz, Bz}
use Rattle.c25_isa.specs.declared.instruction.Instr.TheVariants.{Idle, Ret, Branch, Call}
use Rattle.c25_isa.specs.declared.trap.TrapKind.TheVariants.{StackFull, StackEmpty}
use Rattle.c25_isa.specs.State.{Memory}
use Rattle.c25_isa.specs.Step.{Ran, Over, wrap16, holds, jumps, returns, step, trap_where}
use Rattle.c25_isa.specs.CodeAt.{StandsAt}
use Rattle.c25_isa.specs.Leads.{Leads}
use Rattle.c25_isa.proofs.Leads.{ran_leads, runs, onward_pc}
use Rattle.c25_code.specs.Work.{Work, Modes, at_modes, calm_modes, calm}
use Rattle.c25_code.specs.Straight.{behind_operand, NonEmpty, first_of, rest_of, is_taken, branch_target}
use Rattle.c25_code.proofs.Rows.{non_empty_is, not_empty}

module _ (modes : Modes) (program : Memory) (pc : ℕ) (w : Work) where
  holds_is : (op : JumpOp) → holds op (at_modes modes program pc w) ≡ is_taken op w.acc
  holds_is B = refl
  holds_is Bgz = refl
  holds_is Blez = refl
  holds_is Blz = refl
  holds_is Bgez = refl
  holds_is Bnz = refl
  holds_is Bz = refl

  jumps_is : (i : Indirect) (to : ℕ) (b : Bool) → jumps 2 (at_modes modes program pc w) i to b ≡ Ran (at_modes modes program (cond b to (wrap16 (pc + 2))) (behind_operand (Through i) w))
  jumps_is i to true = refl
  jumps_is i to false = refl

  pub branch_steps_at : (op : JumpOp) (to : ℕ) (i : Indirect) → StandsAt program pc (Branch op to i) → (is_taken op w.acc ≡ false → pc + 2 < 65536) → step (at_modes modes program pc w) ≡ Ran (at_modes modes program (branch_target op w.acc to (pc + 2)) (behind_operand (Through i) w))
  branch_steps_at op to i at behind =
      runs (at_modes modes program pc w) (Branch op to i) refl at refl
      ∙ ap (jumps 2 (at_modes modes program pc w) i to) (holds_is op)
      ∙ jumps_is i to (is_taken op w.acc)
      ∙ ap (λ n. Ran (at_modes modes program n (behind_operand (Through i) w))) (passed (is_taken op w.acc) behind)
    where
      passed : (b : Bool) → (b ≡ false → pc + 2 < 65536) → cond b to (wrap16 (pc + 2)) ≡ cond b to (pc + 2)
      passed true f = refl
      passed false f = onward_pc pc 2 (f refl)

  pub branch_leads_at : (op : JumpOp) (to : ℕ) (i : Indirect) → StandsAt program pc (Branch op to i) → (is_taken op w.acc ≡ false → pc + 2 < 65536) → Leads 1 (at_modes modes program pc w) (at_modes modes program (branch_target op w.acc to (pc + 2)) (behind_operand (Through i) w)) []
  branch_leads_at op to i at behind = ran_leads _ _ (branch_steps_at op to i at behind)

  pub call_steps_at : (to : ℕ) (i : Indirect) → StandsAt program pc (Call to i) → length w.stack < 8 → pc + 2 < 65536 → step (at_modes modes program pc w) ≡ Ran (at_modes modes program to (behind_operand (Through i) (record w { stack = (pc + 2) ∷ w.stack })))
  call_steps_at to i at short behind =
      let n : length w.stack ≢ 8 = omega arith in
      runs (at_modes modes program pc w) (Call to i) refl at (ap (λ b. trap_where b StackFull None) (ne_eqb (length w.stack) 8 n))
      ∙ ap (λ m. Ran (at_modes modes program to (behind_operand (Through i) (record w { stack = m ∷ w.stack })))) (onward_pc pc 2 behind)

  pub call_leads_at : (to : ℕ) (i : Indirect) → StandsAt program pc (Call to i) → length w.stack < 8 → pc + 2 < 65536 → Leads 1 (at_modes modes program pc w) (at_modes modes program to (behind_operand (Through i) (record w { stack = (pc + 2) ∷ w.stack }))) []
  call_leads_at to i at short behind = ran_leads _ _ (call_steps_at to i at short behind)

  pub return_steps_at : StandsAt program pc Ret → NonEmpty w.stack → step (at_modes modes program pc w) ≡ Ran (at_modes modes program (first_of w.stack) (record w { stack = rest_of w.stack }))
  return_steps_at at has =
      runs (at_modes modes program pc w) Ret refl at (ap (λ b. trap_where b StackEmpty None) (not_empty w.stack has))
      ∙ ap (returns (at_modes modes program pc w)) (non_empty_is w.stack has)

  pub return_leads_at : StandsAt program pc Ret → NonEmpty w.stack → Leads 1 (at_modes modes program pc w) (at_modes modes program (first_of w.stack) (record w { stack = rest_of w.stack })) []
  return_leads_at at has = ran_leads _ _ (return_steps_at at has)

  pub idle_ends_at : StandsAt program pc Idle → step (at_modes modes program pc w) ≡ Over (Returned (wrap16 w.acc))
  idle_ends_at at = runs (at_modes modes program pc w) Idle refl at refl

-- from calm states
pub branch_leads : (program : Memory) (pc : ℕ) (w : Work) (op : JumpOp) (to : ℕ) (i : Indirect) → StandsAt program pc (Branch op to i) → (is_taken op w.acc ≡ false → pc + 2 < 65536) → Leads 1 (calm program pc w) (calm program (branch_target op w.acc to (pc + 2)) (behind_operand (Through i) w)) []
branch_leads = branch_leads_at calm_modes

pub call_leads : (program : Memory) (pc : ℕ) (w : Work) (to : ℕ) (i : Indirect) → StandsAt program pc (Call to i) → length w.stack < 8 → pc + 2 < 65536 → Leads 1 (calm program pc w) (calm program to (behind_operand (Through i) (record w { stack = (pc + 2) ∷ w.stack }))) []
call_leads = call_leads_at calm_modes

pub return_leads : (program : Memory) (pc : ℕ) (w : Work) → StandsAt program pc Ret → NonEmpty w.stack → Leads 1 (calm program pc w) (calm program (first_of w.stack) (record w { stack = rest_of w.stack })) []
return_leads = return_leads_at calm_modes

pub calm_idle_ends : (program : Memory) (pc : ℕ) (w : Work) → StandsAt program pc Idle → step (calm program pc w) ≡ Over (Returned (wrap16 w.acc))
calm_idle_ends = idle_ends_at calm_modes
