-- Straight code that may run: code behind code, and what the machine does there.
use Rattle.std.proofs.Common.{◌≡◌, ℕ, ◌+◌, ◌<◌, List, [], ◌∷◌, ◌++◌, length, Option, Some, None, refl, sym, ap, ◌∙◌, subst, inr}
use Rattle.word_base.specs.Ports.{Outputs}
use Rattle.c25_isa.specs.declared.instruction.Instr.{Instr}
use Rattle.c25_isa.specs.declared.operand.Operand.{Operand}
use Rattle.c25_isa.specs.declared.instruction.Instr.TheVariants.{In}
use Rattle.word_base.specs.declared.outcome.Ending.{Ending}
use Rattle.word_base.specs.declared.outcome.Ending.TheVariants.{InputEnded}
use Rattle.c25_isa.specs.State.{State, Memory}
use Rattle.c25_isa.specs.Step.{Over, takes, step}
use Rattle.c25_isa.specs.CodeAt.{StandsAt, CodeAt}
use Rattle.c25_isa.specs.Leads.{Leads}
use Rattle.c25_isa.proofs.CodeAt.{stands_below}
use Rattle.c25_isa.proofs.Leads.{runs}
use Rattle.c25_code.specs.Work.{Work, Modes, at_modes, calm_modes, calm}
use Rattle.c25_code.specs.Straight.{behind_instr, output_of, prepended, behind_code, outputs_of_code, CodeReady, InRam, code_size, code_minds_modes, FitModes}
use Rattle.c25_code.specs.CodeRuns.{CodeRuns, EndsAtInput, RunsInPart}
use Rattle.c25_code.proofs.Rows.{has_ram}
use Rattle.c25_code.proofs.Pieces.{code_front, code_back}
use Rattle.c25_code.proofs.Straight.{code_leads_at, code_goes, fits_front}

pub behind_code-append : (a b : List Instr) (w : Work) → behind_code (a ++ b) w ≡ behind_code b (behind_code a w)
behind_code-append [] b w = refl
behind_code-append (i ∷ a) b w = behind_code-append a b (behind_instr i w)

prepended-append : (put : Option (ℕ × ℕ)) (p q : Outputs) → prepended put (p ++ q) ≡ prepended put p ++ q
prepended-append None p q = refl
prepended-append (Some word) p q = refl

pub outputs_of_code-append : (a b : List Instr) (w : Work) → outputs_of_code (a ++ b) w ≡ outputs_of_code a w ++ outputs_of_code b (behind_code a w)
outputs_of_code-append [] b w = refl
outputs_of_code-append (i ∷ a) b w = ap (prepended (output_of i w)) (outputs_of_code-append a b (behind_instr i w)) ∙ prepended-append (output_of i w) (outputs_of_code a (behind_instr i w)) (outputs_of_code b (behind_code a (behind_instr i w)))

pub ready-append : (a b : List Instr) (w : Work) → CodeReady a w → CodeReady b (behind_code a w) → CodeReady (a ++ b) w
ready-append [] b w f g = g
ready-append (i ∷ a) b w f g = (f.0, ready-append a b (behind_instr i w) f.1 g)

pub runs_on : (a b : List Instr) (w u v : Work) (p q : Outputs) → CodeRuns a w u p → CodeRuns b u v q → CodeRuns (a ++ b) w v (p ++ q)
runs_on a b w u v p q f g = record {
  ready = ready-append a b w f.ready (subst (CodeReady b) (sym f.reaches) g.ready);
  reaches = behind_code-append a b w ∙ ap (behind_code b) f.reaches ∙ g.reaches;
  outputs = outputs_of_code-append a b w ∙ ap (λ o. o ++ outputs_of_code b (behind_code a w)) f.outputs ∙ ap (λ x. p ++ outputs_of_code b x) f.reaches ∙ ap (λ o. p ++ o) g.outputs;
}

in_over : (modes : Modes) (program : Memory) (pc port : ℕ) (o : Operand) (w : Work) → StandsAt program pc (In port o) → InRam o w → w.input port ≡ [] → step (at_modes modes program pc w) ≡ Over (InputEnded port)
in_over modes program pc port o w at ram none =
    runs (at_modes modes program pc w) (In port o) refl at (has_ram modes program pc 0 w o ram)
    ∙ ap (takes 1 (at_modes modes program pc w) port o) none

module _ (modes : Modes) (program : Memory) where
  -- the machine goes there, in one step an instruction
  pub runs_lead_at : (code : List Instr) (pc : ℕ) (w u : Work) (put : Outputs) → FitModes modes (code_minds_modes code) → CodeAt program pc code → CodeRuns code w u put → pc + code_size code < 65536 → Leads (length code) (at_modes modes program pc w) (at_modes modes program (pc + code_size code) u) put
  runs_lead_at code pc w u put fits at g behind =
      subst (Leads (length code) (at_modes modes program pc w) (at_modes modes program (pc + code_size code) u)) g.outputs (
      subst (λ x. Leads (length code) (at_modes modes program pc w) (at_modes modes program (pc + code_size code) x) (outputs_of_code code w)) g.reaches (
      code_leads_at modes program code pc w fits at g.ready behind))

  -- a front of it
  fits_part : (code front rest : List Instr) → code ≡ front ++ rest → FitModes modes (code_minds_modes code) → FitModes modes (code_minds_modes front)
  fits_part code front rest is fits = fits_front modes front rest (subst (λ c. FitModes modes (code_minds_modes c)) is fits)

  pub input_ends_at : (code : List Instr) (pc : ℕ) (w : Work) (put : Outputs) (ending : Ending) → FitModes modes (code_minds_modes code) → CodeAt program pc code → (e : EndsAtInput code w put ending) → (t : State) × Leads (length e.front) (at_modes modes program pc w) t put × (step t ≡ Over ending)
  input_ends_at code pc w put ending fits at e =
      let at' = subst (CodeAt program pc) e.is at in
      let back = code_back program e.front (In e.port e.operand ∷ e.rest) pc at' in (
        at_modes modes program (pc + code_size e.front) e.work,
        runs_lead_at e.front pc w e.work put (fits_part code e.front (In e.port e.operand ∷ e.rest) e.is fits) (code_front program e.front (In e.port e.operand ∷ e.rest) pc at') e.runs (stands_below program _ _ back.0),
        in_over modes program (pc + code_size e.front) e.port e.operand e.work back.0 e.ram e.none ∙ ap Over e.ends,
      )

  pub part_leads_at : (code : List Instr) (pc : ℕ) (w : Work) (put : Outputs) → FitModes modes (code_minds_modes code) → CodeAt program pc code → (e : RunsInPart code w put) → (t : State) × Leads (length e.front) (at_modes modes program pc w) t put
  part_leads_at code pc w put fits at e =
      let goes = code_goes modes program e.front pc w (fits_part code e.front e.rest e.is fits) (code_front program e.front e.rest pc (subst (CodeAt program pc) e.is at)) e.runs.ready in
      (goes.0, subst (Leads (length e.front) (at_modes modes program pc w) goes.0) e.runs.outputs goes.1)

-- from calm states
pub runs_lead : (program : Memory) (code : List Instr) (pc : ℕ) (w u : Work) (put : Outputs) → CodeAt program pc code → CodeRuns code w u put → pc + code_size code < 65536 → Leads (length code) (calm program pc w) (calm program (pc + code_size code) u) put
runs_lead program code pc w u put at g behind = runs_lead_at calm_modes program code pc w u put (inr refl) at g behind

pub input_ends : (program : Memory) (code : List Instr) (pc : ℕ) (w : Work) (put : Outputs) (ending : Ending) → CodeAt program pc code → (e : EndsAtInput code w put ending) → (t : State) × Leads (length e.front) (calm program pc w) t put × (step t ≡ Over ending)
input_ends program code pc w put ending at e = input_ends_at calm_modes program code pc w put ending (inr refl) at e

pub part_leads : (program : Memory) (code : List Instr) (pc : ℕ) (w : Work) (put : Outputs) → CodeAt program pc code → (e : RunsInPart code w put) → (t : State) × Leads (length e.front) (calm program pc w) t put
part_leads program code pc w put at e = part_leads_at calm_modes program code pc w put (inr refl) at e
