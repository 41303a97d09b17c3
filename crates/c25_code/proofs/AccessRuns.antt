-- Jumps, calls, returns and repeats access data memory only where their operands are.
use Rattle.std.proofs.Common.{◌≡◌, ℕ, zero, suc, ◌+◌, ◌<◌, Bool, true, false, List, [], ◌∷◌, ◌++◌, length, refl, sym, ap, ◌∙◌, subst, cond, arith}
use Rattle.std.proofs.lemmas.Bool.{true≢false}
use Rattle.word_base.specs.Ports.{Outputs}
use Rattle.c25_isa.specs.declared.operand.Operand.TheVariants.{Indirect as Through}
use Rattle.c25_isa.specs.declared.instruction.JumpOp.{JumpOp}
use Rattle.c25_isa.specs.declared.instruction.Instr.{Instr}
use Rattle.c25_isa.specs.declared.instruction.Instr.TheVariants.{Rptk, Ret, Branch, Call}
use Rattle.c25_isa.specs.declared.piece.PieceItem.{PieceItem}
use Rattle.c25_isa.specs.State.{Memory}
use Rattle.c25_isa.specs.Step.{Ran}
use Rattle.c25_isa.specs.StretchRuns.{DataAccess}
use Rattle.c25_isa.specs.CodeAt.{StandsAt, CodeAt}
use Rattle.c25_isa.specs.Pieces.{items_size}
use Rattle.c25_isa.proofs.Leads.{runs, onward_pc}
use Rattle.c25_code.specs.Work.{Work, calm}
use Rattle.c25_code.specs.Straight.{behind_operand, behind_instr, behind_repeats, RepeatsReady, NonEmpty, first_of, rest_of, is_taken}
use Rattle.c25_code.specs.CodeRuns.{CodeRuns}
use Rattle.c25_code.specs.Items.{no_change, plain_items}
use Rattle.c25_code.specs.ItemRuns.{ItemsRun, ItemsRunWithin}
use Rattle.c25_code.specs.Accesses.{Accesses, LeadsWithin, CodeMay, RepeatsMay}
use Rattle.c25_code.proofs.Accesses.{within_on, ran_within, allowed_at, runs_within}
use Rattle.c25_code.proofs.Items.{keeps_work, plain_items-size, items_size-append, items_front, items_back, code_of_items}
use Rattle.c25_code.proofs.Jumps.{branch_steps_at, call_steps_at, return_steps_at}
use Rattle.c25_code.proofs.Repeats.{MayRepeat, pending, once, ran_again}
use Rattle.c25_code.specs.Work.{calm_modes}

module _ (may : DataAccess → Bool) (program : Memory) where
  -- a jump, taken or not
  pub jump_taken_within : (pc : ℕ) (op : JumpOp) (to : ℕ) (w : Work) → StandsAt program pc (Branch op to no_change) → is_taken op w.acc ≡ true → LeadsWithin (Accesses may) 1 (calm program pc w) (calm program to w) []
  jump_taken_within pc op to w at e =
      subst (λ u. LeadsWithin (Accesses may) 1 (calm program pc w) (calm program to u) []) (keeps_work w) (
      subst (λ b. LeadsWithin (Accesses may) 1 (calm program pc w) (calm program (cond b to (pc + 2)) (behind_operand (Through no_change) w)) []) e (
      ran_within (Accesses may) _ _ (branch_steps_at calm_modes program pc w op to no_change at (λ f. absurd (true≢false (sym e ∙ f)))) (allowed_at may (calm program pc w) (Branch op to no_change) at tt)))

  pub jump_passed_within : (pc : ℕ) (op : JumpOp) (to : ℕ) (w : Work) → StandsAt program pc (Branch op to no_change) → pc + 2 < 65536 → is_taken op w.acc ≡ false → LeadsWithin (Accesses may) 1 (calm program pc w) (calm program (pc + 2) w) []
  jump_passed_within pc op to w at fits e =
      subst (λ u. LeadsWithin (Accesses may) 1 (calm program pc w) (calm program (pc + 2) u) []) (keeps_work w) (
      subst (λ b. LeadsWithin (Accesses may) 1 (calm program pc w) (calm program (cond b to (pc + 2)) (behind_operand (Through no_change) w)) []) e (
      ran_within (Accesses may) _ _ (branch_steps_at calm_modes program pc w op to no_change at (λ f. fits)) (allowed_at may (calm program pc w) (Branch op to no_change) at tt)))

  -- a call that changes no register, and a return
  pub call_within : (pc to : ℕ) (w : Work) → StandsAt program pc (Call to no_change) → length w.stack < 8 → pc + 2 < 65536 → LeadsWithin (Accesses may) 1 (calm program pc w) (calm program to (record w { stack = (pc + 2) ∷ w.stack })) []
  call_within pc to w at short fits =
      subst (λ u. LeadsWithin (Accesses may) 1 (calm program pc w) (calm program to u) []) (keeps_work (record w { stack = (pc + 2) ∷ w.stack }))
      (ran_within (Accesses may) _ _ (call_steps_at calm_modes program pc w to no_change at short fits) (allowed_at may (calm program pc w) (Call to no_change) at tt))

  pub return_within : (pc : ℕ) (w : Work) → StandsAt program pc Ret → NonEmpty w.stack → LeadsWithin (Accesses may) 1 (calm program pc w) (calm program (first_of w.stack) (record w { stack = rest_of w.stack })) []
  return_within pc w at has = ran_within (Accesses may) _ _ (return_steps_at calm_modes program pc w at has) (allowed_at may (calm program pc w) Ret at tt)

  -- a word that is repeated
  module _ (pc : ℕ) (i : Instr) (at : StandsAt program pc i) (again : MayRepeat i) (behind : pc + 1 < 65536) where
    times_within : (n : ℕ) (w : Work) → RepeatsReady (suc n) i w → RepeatsMay may (suc n) i w → LeadsWithin (Accesses may) (n + 1) (pending (suc n) program pc w) (calm program (pc + 1) (behind_repeats (suc n) i w)) []
    times_within zero w ready allowed = ran_within (Accesses may) _ _ (once program pc i at again behind 1 w ready.0) (allowed_at may (pending 1 program pc w) i at allowed.0)
    times_within (suc m) w ready allowed =
        let first : LeadsWithin (Accesses may) 1 (pending (suc (suc m)) program pc w) (pending (suc m) program pc (behind_instr i w)) [] =
        ran_within (Accesses may) _ _ (once program pc i at again behind (suc (suc m)) w ready.0 ∙ ap Ran (ran_again m pc (pc + 1) program (behind_instr i w))) (allowed_at may (pending (suc (suc m)) program pc w) i at allowed.0) in
        let rest = times_within m (behind_instr i w) ready.1 allowed.1 in
        let e : 1 + (m + 1) ≡ suc m + 1 = omega arith in
        subst (λ n. LeadsWithin (Accesses may) n (pending (suc (suc m)) program pc w) (calm program (pc + 1) (behind_repeats (suc (suc m)) i w)) []) e (within_on (Accesses may) 1 (m + 1) _ _ _ _ _ first rest)

  pub repeat_within : (pc n : ℕ) (i : Instr) (w : Work) → CodeAt program pc (Rptk n ∷ i ∷ []) → MayRepeat i → RepeatsReady (suc n) i w → RepeatsMay may (suc n) i w → pc + 2 < 65536
      → LeadsWithin (Accesses may) (n + 2) (calm program pc w) (calm program (pc + 2) (behind_repeats (suc n) i w)) []
  repeat_within pc n i w at again ready allowed behind =
      let k : n + 1 ≡ suc n = omega arith in
      let first : LeadsWithin (Accesses may) 1 (calm program pc w) (pending (suc n) program (pc + 1) w) [] =
      ran_within (Accesses may) _ _ (runs (calm program pc w) (Rptk n) refl at.0 refl ∙ ap (λ m. Ran (pending (n + 1) program m w)) (onward_pc pc 1 (omega arith)) ∙ ap (λ m. Ran (pending m program (pc + 1) w)) k)
      (allowed_at may (calm program pc w) (Rptk n) at.0 tt) in
      let rest = times_within (pc + 1) i at.1.0 again (omega arith) n w ready allowed in
      let e : 1 + (n + 1) ≡ n + 2 = omega arith in
      let f : pc + 1 + 1 ≡ pc + 2 = omega arith in
      subst (λ m. LeadsWithin (Accesses may) m (calm program pc w) (calm program (pc + 2) (behind_repeats (suc n) i w)) []) e (
      subst (λ a. LeadsWithin (Accesses may) (1 + (n + 1)) (calm program pc w) (calm program a (behind_repeats (suc n) i w)) []) f (
      within_on (Accesses may) 1 (n + 1) _ _ _ _ _ first rest))

-- straight code, and items behind items, wherever they stand
module _ (may : DataAccess → Bool) where
  pub runs_of : {items : List PieceItem} {n : ℕ} {w u : Work} {put : Outputs} → ItemsRunWithin may items n w u put → ItemsRun items n w u put
  runs_of r = record { by = λ program marks names pc at below. (r.by program marks names pc at below).leads }

  pub straight_runs_within : (code : List Instr) (w u : Work) (put : Outputs) → CodeRuns code w u put → CodeMay may code w → ItemsRunWithin may (plain_items code) (length code) w u put
  straight_runs_within code w u put g allowed = record {
    by = λ program marks names pc at below.
        subst (λ n. LeadsWithin (Accesses may) (length code) (calm program pc w) (calm program (pc + n) u) put) (sym (plain_items-size code))
        (runs_within may program code pc w u put (code_of_items program marks names code pc at) g allowed (omega (arith, below, plain_items-size code)));
  }

  pub items_run_within_on : (a b : List PieceItem) (n m : ℕ) (w v u : Work) (p q : Outputs) → ItemsRunWithin may a n w v p → ItemsRunWithin may b m v u q → ItemsRunWithin may (a ++ b) (n + m) w u (p ++ q)
  items_run_within_on a b n m w v u p q f g = record {
    by = λ program marks names pc at below.
        let end : pc + items_size a + items_size b ≡ pc + items_size (a ++ b) = omega (arith, items_size-append a b) in
        subst (λ k. LeadsWithin (Accesses may) (n + m) (calm program pc w) (calm program k u) (p ++ q)) end (
        within_on (Accesses may) n m _ _ _ p q
        (f.by program marks names pc (items_front program marks names a b pc at) (omega (arith, below, end)))
        (g.by program marks names (pc + items_size a) (items_back program marks names a b pc at) (omega (arith, below, end))));
  }
