-- The states on the way of straight code, of repeats, jumps, calls and returns, and where the steps there access data memory.
use Rattle.std.proofs.Common.{◌≡◌, ℕ, zero, suc, ◌+◌, ◌-◌, ◌<◌, Bool, List, [], ◌∷◌, ◌++◌, length, Option, Some, None, refl, sym, ap, ◌∙◌, subst, inr, arith, ⊎_elim}
use Rattle.std.specs.Prelude.{option_and_then, option_map}
use Rattle.std.proofs.lemmas.Bool.{cases_lt}
use Rattle.std.proofs.lemmas.Option.{same_Some}
use Rattle.word_base.specs.Ports.{Outputs}
use Rattle.c25_isa.specs.declared.operand.Operand.{Operand}
use Rattle.c25_isa.specs.declared.operand.Operand.TheVariants.{Direct, Indirect as Through}
use Rattle.c25_isa.specs.declared.instruction.Instr.{Instr}
use Rattle.c25_isa.specs.State.{State, Memory}
use Rattle.c25_isa.specs.Direct.{is_store}
use Rattle.c25_isa.specs.Step.{Ran, Put, wrap16, data_operand, step}
use Rattle.c25_isa.specs.StretchRuns.{accessed_by, DataAccess}
use Rattle.c25_isa.specs.Table.{second_word, length_of}
use Rattle.c25_isa.specs.CodeAt.{StandsAt, CodeAt}
use Rattle.c25_isa.specs.Leads.{state_behind}
use Rattle.c25_isa.proofs.CodeAt.{decode_at}
use Rattle.c25_isa.proofs.StretchWays.{access_with}
use Rattle.c25_isa.proofs.Leads.{leads_on, ran_leads, put_leads, states_on, onward_pc}
use Rattle.c25_code.specs.Work.{Work, Modes, at_modes, calm_modes, calm, work_of}
use Rattle.c25_code.specs.Straight.{operand_address, behind_instr, output_of, InstrReady, behind_code, outputs_of_code, CodeReady, code_size, minds_modes, code_minds_modes, FitModes}
use Rattle.c25_code.specs.CodeRuns.{CodeRuns}
use Rattle.c25_code.specs.Accesses.{Accesses, Allows, LeadsWithin, operand_register, InstrMay, CodeMay}
use Rattle.c25_code.proofs.Rows.{event_of}
use Rattle.c25_code.proofs.Straight.{as_outputs, prepended-listed, stays_here, fits_first, fits_rest, instr_event}

module _ (fine : State → Type 0) where
  pub within_on : (n m : ℕ) (s t u : State) (p q : Outputs) → LeadsWithin fine n s t p → LeadsWithin fine m t u q → LeadsWithin fine (n + m) s u (p ++ q)
  within_on n m s t u p q a b = record {
    leads = leads_on n m s t u p q a.leads b.leads;
    within = λ j v less there.
        ⊎_elim
        (λ early. a.within j v early there)
        (λ late.
        let e : j ≡ n + (j - n) = omega (arith, late) in
        b.within (j - n) v (omega (arith, late, less)) (sym (ap (λ i. state_behind i s) e ∙ states_on n (j - n) s ∙ ap (option_and_then (state_behind (j - n))) a.leads.reaches) ∙ there))
        (cases_lt j n);
  }

  first_alone : (s u : State) (m : ℕ) → fine s → m < 1 → state_behind m s ≡ Some u → fine u
  first_alone s u zero allowed less there = subst fine (same_Some s u there) allowed
  first_alone s u (suc m) allowed less there = absurd (omega (arith, less))

  pub ran_within : (s t : State) → step s ≡ Ran t → fine s → LeadsWithin fine 1 s t []
  ran_within s t e allowed = record {
    leads = ran_leads s t e;
    within = λ m u less there. first_alone s u m allowed less there;
  }

  pub put_within : (s t : State) (word : ℕ × ℕ) → step s ≡ Put word t → fine s → LeadsWithin fine 1 s t (word ∷ [])
  put_within s t word e allowed = record {
    leads = put_leads s t word e;
    within = λ m u less there. first_alone s u m allowed less there;
  }

  pub stays_within : (s : State) → LeadsWithin fine 0 s s []
  stays_within s = record { leads = stays_here s; within = λ m u less there. absurd (omega (arith, less)) }

-- where more may be
pub within_more : (fine other : State → Type 0) (n : ℕ) (s t : State) (put : Outputs) → ((u : State) → fine u → other u) → LeadsWithin fine n s t put → LeadsWithin other n s t put
within_more fine other n s t put more r = record { leads = r.leads; within = λ m u less there. more u (r.within m u less there) }

module _ (may : DataAccess → Bool) where
  -- the access of an instruction, at whatever modes and with whatever repeat is pending
  pub allowed_at : (s : State) (i : Instr) → StandsAt s.program s.pc i → InstrMay may i (work_of s) → Accesses may s
  allowed_at s i at allowed =
      subst (λ o. Allows may (option_and_then (λ (found : Instr × ℕ). accessed_by s found.0) o)) (sym (decode_at s i at)) (by (data_operand i) allowed)
    where
      by : (o : Option Operand) → Allows may (option_map (λ x. record { address = operand_address (work_of s) x; through = operand_register (work_of s) x; stores = is_store i }) o) → Allows may (option_map (access_with s (is_store i)) o)
      by None allowed = tt
      by (Some (Direct offset)) allowed = allowed
      by (Some (Through x)) allowed = allowed

  module _ (modes : Modes) (program : Memory) where
    instr_within : (pc : ℕ) (i : Instr) (w : Work) → FitModes modes (minds_modes i) → StandsAt program pc i → InstrReady i w → InstrMay may i w → pc + length_of (second_word i) < 65536
        → LeadsWithin (Accesses may) 1 (at_modes modes program pc w) (at_modes modes program (pc + length_of (second_word i)) (behind_instr i w)) (as_outputs (output_of i w))
    instr_within pc i w fits at ready allowed behind =
        subst (λ n. LeadsWithin (Accesses may) 1 (at_modes modes program pc w) (at_modes modes program n (behind_instr i w)) (as_outputs (output_of i w))) (onward_pc pc (length_of (second_word i)) behind)
        (by (output_of i w) (instr_event modes program pc i w fits at ready))
      where
        here : Accesses may (at_modes modes program pc w)
        here = allowed_at (at_modes modes program pc w) i at allowed

        next : ℕ
        next = wrap16 (pc + length_of (second_word i))

        by : (o : Option (ℕ × ℕ)) → step (at_modes modes program pc w) ≡ event_of o modes program next (behind_instr i w) → LeadsWithin (Accesses may) 1 (at_modes modes program pc w) (at_modes modes program next (behind_instr i w)) (as_outputs o)
        by None e = ran_within (Accesses may) _ _ e here
        by (Some word) e = put_within (Accesses may) _ _ word e here

    pub code_within_at : (code : List Instr) (pc : ℕ) (w : Work) → FitModes modes (code_minds_modes code) → CodeAt program pc code → CodeReady code w → CodeMay may code w → pc + code_size code < 65536
        → LeadsWithin (Accesses may) (length code) (at_modes modes program pc w) (at_modes modes program (pc + code_size code) (behind_code code w)) (outputs_of_code code w)
    code_within_at [] pc w fits at ready allowed behind =
        let e : pc ≡ pc + 0 = omega arith in
        subst (λ n. LeadsWithin (Accesses may) 0 (at_modes modes program pc w) (at_modes modes program n w) []) e (stays_within (Accesses may) (at_modes modes program pc w))
    code_within_at (i ∷ is) pc w fits at ready allowed behind =
        let len : ℕ = length_of (second_word i) in
        let first = instr_within pc i w (fits_first modes i is fits) at.0 ready.0 allowed.0 (omega arith) in
        let rest = code_within_at is (pc + len) (behind_instr i w) (fits_rest modes i is fits) at.1 ready.1 allowed.1 (omega arith) in
        let end : pc + len + code_size is ≡ pc + (len + code_size is) = omega arith in
        let e : 1 + length is ≡ suc (length is) = omega arith in
        let t : State = at_modes modes program (pc + (len + code_size is)) (behind_code is (behind_instr i w)) in
        subst (LeadsWithin (Accesses may) (suc (length is)) (at_modes modes program pc w) t) (prepended-listed (output_of i w) (outputs_of_code is (behind_instr i w))) (
        subst (λ m. LeadsWithin (Accesses may) m (at_modes modes program pc w) t (as_outputs (output_of i w) ++ outputs_of_code is (behind_instr i w))) e (
        within_on (Accesses may) 1 (length is) _ _ _ _ _ first
        (subst (λ a. LeadsWithin (Accesses may) (length is) (at_modes modes program (pc + len) (behind_instr i w)) (at_modes modes program a (behind_code is (behind_instr i w))) (outputs_of_code is (behind_instr i w))) end rest)))

  -- from calm states
  pub runs_within : (program : Memory) (code : List Instr) (pc : ℕ) (w u : Work) (put : Outputs) → CodeAt program pc code → CodeRuns code w u put → CodeMay may code w → pc + code_size code < 65536
      → LeadsWithin (Accesses may) (length code) (calm program pc w) (calm program (pc + code_size code) u) put
  runs_within program code pc w u put at g allowed behind =
      subst (LeadsWithin (Accesses may) (length code) (calm program pc w) (calm program (pc + code_size code) u)) g.outputs (
      subst (λ x. LeadsWithin (Accesses may) (length code) (calm program pc w) (calm program (pc + code_size code) x) (outputs_of_code code w)) g.reaches (
      code_within_at calm_modes program code pc w (inr refl) at g.ready allowed behind))
