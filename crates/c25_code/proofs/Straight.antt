-- Straight code leads on at modes that fit it, in one step an instruction; so it does from a calm state to a calm state.
use Rattle.std.proofs.Common.{◌≡◌, ℕ, suc, ◌+◌, ◌<◌, false, List, [], ◌∷◌, ◌++◌, length, Option, Some, None, refl, sym, ap, ◌∙◌, subst, inl, inr, arith, append-nil}
use Rattle.std.proofs.lemmas.Bool.{or_parts, or_from}
use Rattle.word_base.specs.Ports.{Outputs}
use Rattle.c25_isa.specs.declared.instruction.Instr.{Instr}
use Rattle.c25_isa.specs.State.{State, Memory}
use Rattle.c25_isa.specs.Table.{second_word, length_of}
use Rattle.c25_isa.specs.Step.{wrap16, step}
use Rattle.c25_isa.specs.MachineRun.{run_from}
use Rattle.c25_isa.specs.CodeAt.{StandsAt, CodeAt}
use Rattle.c25_isa.specs.Leads.{Leads}
use Rattle.c25_isa.proofs.CodeAt.{stands_below}
use Rattle.c25_isa.proofs.Leads.{leads_on, ran_leads, put_leads, runs, onward_pc}
use Rattle.c25_code.specs.Work.{Work, Modes, at_modes, calm_modes, calm}
use Rattle.c25_code.specs.Straight.{behind_instr, output_of, InstrReady, behind_code, outputs_of_code, CodeReady, code_size, prepended, minds_modes, code_minds_modes, FitModes}
use Rattle.c25_code.proofs.Rows.{event_of, no_trap, row}

-- what was put, behind what was put before
abbrev pub as_outputs : Option (ℕ × ℕ) → Outputs
as_outputs None = []
as_outputs (Some word) = word ∷ []

pub prepended-listed : (put : Option (ℕ × ℕ)) (outs : Outputs) → as_outputs put ++ outs ≡ prepended put outs
prepended-listed None outs = refl
prepended-listed (Some word) outs = refl

-- no instruction, no step
pub stays_here : (s : State) → Leads 0 s s []
stays_here s = record { by = λ k outs. ap (λ j. run_from j s outs) (let e : 0 + k ≡ k = omega arith in e) ∙ ap (run_from k s) (sym (append-nil outs)); reaches = refl }

-- code behind its first instruction, and code before other code
pub fits_first : (modes : Modes) (i : Instr) (is : List Instr) → FitModes modes (code_minds_modes (i ∷ is)) → FitModes modes (minds_modes i)
fits_first modes i is (inl e) = inl (or_parts (minds_modes i) (code_minds_modes is) e).0
fits_first modes i is (inr e) = inr e

pub fits_rest : (modes : Modes) (i : Instr) (is : List Instr) → FitModes modes (code_minds_modes (i ∷ is)) → FitModes modes (code_minds_modes is)
fits_rest modes i is (inl e) = inl (or_parts (minds_modes i) (code_minds_modes is) e).1
fits_rest modes i is (inr e) = inr e

minds_front : (a b : List Instr) → code_minds_modes (a ++ b) ≡ false → code_minds_modes a ≡ false
minds_front [] b e = refl
minds_front (i ∷ a) b e = let parts = or_parts (minds_modes i) (code_minds_modes (a ++ b)) e in or_from (minds_modes i) (code_minds_modes a) parts.0 (minds_front a b parts.1)

pub fits_front : (modes : Modes) (a b : List Instr) → FitModes modes (code_minds_modes (a ++ b)) → FitModes modes (code_minds_modes a)
fits_front modes a b (inl e) = inl (minds_front a b e)
fits_front modes a b (inr e) = inr e

listed_alone : (put : Option (ℕ × ℕ)) → as_outputs put ≡ prepended put []
listed_alone None = refl
listed_alone (Some word) = refl

module _ (modes : Modes) (program : Memory) where
  -- one instruction, behind which PC may wrap
  pub instr_event : (pc : ℕ) (i : Instr) (w : Work) → FitModes modes (minds_modes i) → StandsAt program pc i → InstrReady i w → step (at_modes modes program pc w) ≡ event_of (output_of i w) modes program (wrap16 (pc + length_of (second_word i))) (behind_instr i w)
  instr_event pc i w fits at ready =
      runs (at_modes modes program pc w) i refl at (no_trap modes program pc 0 w i fits ready)
      ∙ row modes program pc (length_of (second_word i)) w i fits ready

  event_leads : (s : State) (put : Option (ℕ × ℕ)) (pc : ℕ) (w : Work) → step s ≡ event_of put modes program pc w → Leads 1 s (at_modes modes program pc w) (as_outputs put)
  event_leads s None pc w e = ran_leads s _ e
  event_leads s (Some word) pc w e = put_leads s _ word e

  instr_goes : (pc : ℕ) (i : Instr) (w : Work) → FitModes modes (minds_modes i) → StandsAt program pc i → InstrReady i w → Leads 1 (at_modes modes program pc w) (at_modes modes program (wrap16 (pc + length_of (second_word i))) (behind_instr i w)) (as_outputs (output_of i w))
  instr_goes pc i w fits at ready = event_leads (at_modes modes program pc w) (output_of i w) _ _ (instr_event pc i w fits at ready)

  pub instr_leads_at : (pc : ℕ) (i : Instr) (w : Work) → FitModes modes (minds_modes i) → StandsAt program pc i → InstrReady i w → pc + length_of (second_word i) < 65536 → Leads 1 (at_modes modes program pc w) (at_modes modes program (pc + length_of (second_word i)) (behind_instr i w)) (as_outputs (output_of i w))
  instr_leads_at pc i w fits at ready behind =
      subst (λ n. Leads 1 (at_modes modes program pc w) (at_modes modes program n (behind_instr i w)) (as_outputs (output_of i w))) (onward_pc pc (length_of (second_word i)) behind) (instr_goes pc i w fits at ready)

  -- an instruction and what is behind it
  instr_then : (pc n : ℕ) (i : Instr) (is : List Instr) (w : Work) (t : State) → FitModes modes (minds_modes i) → StandsAt program pc i → InstrReady i w → pc + length_of (second_word i) < 65536
      → Leads n (at_modes modes program (pc + length_of (second_word i)) (behind_instr i w)) t (outputs_of_code is (behind_instr i w))
      → Leads (suc n) (at_modes modes program pc w) t (outputs_of_code (i ∷ is) w)
  instr_then pc n i is w t fits at ready behind rest =
      let both = leads_on 1 n _ _ _ _ _ (instr_leads_at pc i w fits at ready behind) rest in
      let e : 1 + n ≡ suc n = omega arith in
      let put : Outputs = as_outputs (output_of i w) ++ outputs_of_code is (behind_instr i w) in
      let counted = subst (λ m. Leads m (at_modes modes program pc w) t put) e both in
      subst (Leads (suc n) (at_modes modes program pc w) t) (prepended-listed (output_of i w) (outputs_of_code is (behind_instr i w))) counted

  -- straight code
  pub code_leads_at : (code : List Instr) (pc : ℕ) (w : Work) → FitModes modes (code_minds_modes code) → CodeAt program pc code → CodeReady code w → pc + code_size code < 65536 → Leads (length code) (at_modes modes program pc w) (at_modes modes program (pc + code_size code) (behind_code code w)) (outputs_of_code code w)
  code_leads_at [] pc w fits at ready behind =
      let e : pc ≡ pc + 0 = omega arith in
      subst (λ n. Leads 0 (at_modes modes program pc w) (at_modes modes program n w) []) e (stays_here (at_modes modes program pc w))
  code_leads_at (i ∷ is) pc w fits at ready behind =
      let len : ℕ = length_of (second_word i) in
      let rest = code_leads_at is (pc + len) (behind_instr i w) (fits_rest modes i is fits) at.1 ready.1 (omega arith) in
      let e : pc + len + code_size is ≡ pc + (len + code_size is) = omega arith in
      instr_then pc (length is) i is w _ (fits_first modes i is fits) at.0 ready.0 (omega arith)
      (subst (λ a. Leads (length is) (at_modes modes program (pc + len) (behind_instr i w)) (at_modes modes program a (behind_code is (behind_instr i w))) (outputs_of_code is (behind_instr i w))) e rest)

  -- the same to some state, where PC may wrap behind the code
  pub code_goes : (code : List Instr) (pc : ℕ) (w : Work) → FitModes modes (code_minds_modes code) → CodeAt program pc code → CodeReady code w → (t : State) × Leads (length code) (at_modes modes program pc w) t (outputs_of_code code w)
  code_goes [] pc w fits at ready = (at_modes modes program pc w, stays_here (at_modes modes program pc w))
  code_goes (i ∷ []) pc w fits at ready = (_, subst (Leads 1 (at_modes modes program pc w) (at_modes modes program (wrap16 (pc + length_of (second_word i))) (behind_instr i w))) (listed_alone (output_of i w)) (instr_goes pc i w (fits_first modes i [] fits) at.0 ready.0))
  code_goes (i ∷ j ∷ is) pc w fits at ready =
      let rest = code_goes (j ∷ is) (pc + length_of (second_word i)) (behind_instr i w) (fits_rest modes i (j ∷ is) fits) at.1 ready.1 in
      (rest.0, instr_then pc (length (j ∷ is)) i (j ∷ is) w rest.0 (fits_first modes i (j ∷ is) fits) at.0 ready.0 (stands_below program _ j at.1.0) rest.1)

pub code_leads : (program : Memory) (code : List Instr) (pc : ℕ) (w : Work) → CodeAt program pc code → CodeReady code w → pc + code_size code < 65536 → Leads (length code) (calm program pc w) (calm program (pc + code_size code) (behind_code code w)) (outputs_of_code code w)
code_leads program code pc w at ready behind = code_leads_at calm_modes program code pc w (inr refl) at ready behind
