-- A run of operations, and what stands behind it.
use Rattle.std.proofs.Common.{◌≡◌, ℕ, ◌+◌, ◌<◌, Bool, true, false, List, [], ◌∷◌, length, refl, sym, subst, arith}
use Rattle.c25_isa.specs.declared.instruction.Instr.{Instr}
use Rattle.c25_isa.specs.Table.{second_word, length_of}
use Rattle.c25_isa.specs.CodeAt.{CodeAt}
use Rattle.c25_isa.specs.Leads.{Leads}
use Rattle.c25_isa.specs.Pieces.{items_size, ItemsAt}
use Rattle.c25_isa.proofs.Leads.{leads_on}
use Rattle.word_base.specs.Ports.{Outputs}
use Rattle.c25_code.specs.Work.{Work, calm}
use Rattle.c25_code.specs.Straight.{code_size}
use Rattle.c25_code.specs.Items.{plain_items}
use Rattle.c25_code.proofs.Items.{plain_items-size, code_of_items}
use Rattle.c25_code.proofs.CodeRuns.{runs_lead, input_ends, part_leads}
use Rattle.ir_semantics.specs.Parts.{Res, Gives, Finished, TooMany, Fails, Does, after, Flow, in_order}
use Rattle.ir_semantics.specs.AccRun.{Machine}
use Rattle.emit_blocks.specs.Places.{Places}
use Rattle.emit_blocks.specs.Right.{AreRight, AreInstrs}
use Rattle.emit_blocks.specs.Runs.{run_code}
use Rattle.emit_blocks.specs.Steps.{Operation}
use Rattle.emit_control.specs.declared.state.Before.{Before}
use Rattle.emit_control.specs.declared.state.Before.TheVariants.{Open, Shut, Gone}
use Rattle.emit_control.specs.Entries.{Entry, Run, flushed}
use Rattle.emit_control.specs.Cuts.{State, behind_run, has_access, behind_entry}
use Rattle.emit_proof.specs.Arrivals.{Begun}
use Rattle.emit_proof.specs.Entries.{Passes}
use Rattle.emit_proof.specs.Operations.{operate, AreNamed, AreUsable, CodeMeets}
use Rattle.emit_proof.proofs.Grounds.{Ground, Exits, Founded, Standing, Arrived, begun_at, MeetsAt}
use Rattle.emit_proof.proofs.Arriving.{earlier}

pub run_passes : (access : Bool) (x : Before) → Passes (behind_run access x)
run_passes true x = tt
run_passes false Open = tt
run_passes false Shut = tt
run_passes false Gone = tt

module _ (g : Ground) where
  pub are_instrs : (code : List Instr) (pc : ℕ) → CodeAt g.program pc code → AreInstrs code
  are_instrs [] pc at = tt
  are_instrs (i ∷ is) pc at = (at.0.fits, are_instrs is (pc + length_of (second_word i)) at.1)

  -- what code does, with what stands behind it
  behind_run_meets : (code : List Instr) (pc : ℕ) (b : Begun) (e : Exits) (least slack : ℕ) (v : Machine) (w : Work) (rest : Does Machine Flow) → CodeAt g.program pc code → pc + code_size code < 65536 → Arrived g b pc v w
      → ((b' : Begun) (u : Machine) (w' : Work) → Arrived g b' (pc + code_size code) u w' → MeetsAt g b' e least slack (rest u))
      → (r : Res Machine Flow) → CodeMeets g.site code v w r → MeetsAt g b e least slack (after r (λ flow. in_order flow rest))
  behind_run_meets code pc b e least slack v w rest at room h onward (Gives flow u) meets =
      let d = meets.1 in
      let there : Arrived g (begun_at (b.steps + length code) u) (pc + code_size code) u d.work = record {
        came = subst (Leads_to d.work) (sym d.outputs) (leads_on b.steps (length code) _ _ _ v.outside.outs d.put h.came (runs_lead g.program code pc w d.work d.put at d.runs room));
        work = refl;
        beside = d.beside;
      } in
      subst (λ f. MeetsAt g b e least slack (in_order f rest u)) (sym meets.0) (
      earlier g b (begun_at (b.steps + length code) u) e least least slack slack (rest u) (omega arith) (omega arith) (omega (arith, d.within, h.work)) (onward (begun_at (b.steps + length code) u) u d.work there))
    where
      Leads_to : Work → Outputs → Type 0
      Leads_to work outs = Leads (b.steps + length code) g.start (calm g.program (pc + code_size code) work) outs
  behind_run_meets code pc b e least slack v w rest at room h onward (Finished ending outs total) meets =
      let t = input_ends g.program code pc w meets.put ending at meets.ends in
      record {
        steps = b.steps + length meets.ends.front;
        state = t.0;
        came = subst (Leads (b.steps + length meets.ends.front) g.start t.0) (sym meets.outputs) (leads_on b.steps (length meets.ends.front) _ _ _ v.outside.outs meets.put h.came t.1);
        over = t.2;
        within = omega (arith, meets.within, h.work);
      }
  behind_run_meets code pc b e least slack v w rest at room h onward (TooMany outs) meets = absurd meets
  behind_run_meets code pc b e least slack v w rest at room h onward (Fails outs) meets =
      let t = part_leads g.program code pc w meets.put at meets.part in
      record {
        steps = b.steps + length meets.part.front;
        state = t.0;
        came = subst (Leads (b.steps + length meets.part.front) g.start t.0) (sym meets.outputs) (leads_on b.steps (length meets.part.front) _ _ _ v.outside.outs meets.put h.came t.1);
        long = omega arith;
      }

  module _ (f : Founded g) (b : Begun) (e : Exits) (least slack : ℕ) (rest : Does Machine Flow) where
    run_meets : (os : List Operation) (p : Places) (pc : ℕ) (s : State) (es : List Entry) (v : Machine) (w : Work) → p ≡ g.site.places → ItemsAt g.program g.marks g.names pc (plain_items (run_code p os)) → pc + items_size (plain_items (run_code p os)) < 65536
        → AreRight os → AreNamed g.site os → AreUsable g.site os → ((u : Machine) → operate g.context.at os u ≡ operate g.site.at os u) → Arrived g b pc v w
        → ((b' : Begun) (u : Machine) (w' : Work) → Arrived g b' (pc + items_size (plain_items (run_code p os))) u w' → MeetsAt g b' e least slack (rest u))
        → MeetsAt g b e least slack (after (operate g.context.at os v) (λ flow. in_order flow rest))
    run_meets os p pc s es v w same at room right named usable alike h onward =
        let code : List Instr = run_code p os in
        let here = code_of_items g.program g.marks g.names code pc at in
        let does : CodeMeets g.site code v w (operate g.context.at os v) =
        subst (λ q. CodeMeets g.site (run_code q os) v w (operate g.context.at os v)) (sym same) (
        subst (CodeMeets g.site (run_code g.site.places os) v w) (sym (alike v)) (
        f.runs.by os v w right named usable (subst (λ q. AreInstrs (run_code q os)) same (are_instrs code pc here)) h.beside)) in
        behind_run_meets code pc b e least slack v w rest here (omega (arith, room, plain_items-size code)) h
        (λ b' u w' a. onward b' u w' (subst (λ n. Arrived g b' (pc + n) u w') (sym (plain_items-size code)) a))
        (operate g.context.at os v) does

    -- operations before entries, and those entries
    pub flush_meets : (os : List Operation) (es : List Entry) (pc : ℕ) (v : Machine) (w : Work) → AreRight os → AreNamed g.site os → AreUsable g.site os → ((u : Machine) → operate g.context.at os u ≡ operate g.site.at os u) → Standing g pc (flushed os es) → Arrived g b pc v w
        → ((pc' : ℕ) (b' : Begun) (u : Machine) (w' : Work) → Standing g pc' es → Arrived g b' pc' u w' → MeetsAt g b' e least slack (rest u))
        → MeetsAt g b e least slack (after (operate g.context.at os v) (λ flow. in_order flow rest))
    flush_meets [] es pc v w right named usable alike s h onward = onward pc b v w s h
    flush_meets (o ∷ os) es pc v w right named usable alike s h onward =
        let passes : Passes (behind_entry g.setting s.state (Run (o ∷ os))).before = run_passes (has_access (o ∷ os)) s.state.before in
        run_meets (o ∷ os) g.setting.places pc s.state es v w f.places s.at.0.items (s.at.0.room passes) right named usable alike h
        (λ b' u w' a. onward (pc + items_size (plain_items (run_code g.setting.places (o ∷ os)))) b' u w' (record { state = behind_entry g.setting s.state (Run (o ∷ os)); at = s.at.1; lead = s.lead.1; passes = passes }) a)
