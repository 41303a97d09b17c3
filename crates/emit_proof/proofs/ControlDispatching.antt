-- A Switch, wherever its code stands, whose body meets from each of its labels on.
use Rattle.std.proofs.Common.{◌≡◌, ℕ, ◌+◌, ◌*◌, ◌^◌, ◌<◌, ◌≤◌, List, [], ◌∷◌, length, Option, Some, None, refl, subst, arith}
use Rattle.acc_code.specs.declared.item.CaseLabel.{CaseLabel}
use Rattle.acc_code.specs.AccTree.{Switch, ItemList}
use Rattle.acc_code.specs.Emittable.{cases_in, counting}
use Rattle.c25_code.specs.Work.{Work}
use Rattle.ir_semantics.specs.Parts.{behind_switch}
use Rattle.ir_semantics.specs.AccRows.{whole_of}
use Rattle.ir_semantics.specs.AccRun.{Machine, run_item, run_from, switched, entered_at, label_of, labels_weight, without_acc, without_scratch}
use Rattle.emit_control.specs.declared.ways.Ways.{Ways}
use Rattle.emit_control.specs.Entries.{Entry, Dispatch}
use Rattle.emit_control.specs.Flow.{emit, switch_ways}
use Rattle.emit_proof.specs.Sites.{Site, Beside}
use Rattle.emit_proof.specs.Arrivals.{Begun}
use Rattle.emit_proof.specs.Code.{AreWordLabels, chosen}
use Rattle.emit_proof.proofs.Knowing.{without_acc_beside}
use Rattle.emit_proof.proofs.Grounds.{Ground, Founded, Standing, Arrived, begun_at, exit, exits, MeetsAt, Falls, jump_to}
use Rattle.emit_proof.proofs.Arriving.{earlier, earlier_comes, earlier_returns, earlier_returns, comes_here, goes_on, counted, scratch_forgotten, runs_here, follow}
use Rattle.emit_proof.proofs.Skipping.{somewhere, behind_first}
use Rattle.emit_proof.proofs.Between.{forgets}
use Rattle.emit_proof.proofs.Choosing.{whole_alike}
use Rattle.emit_proof.proofs.Labels.{case_is_there, jumps_behind}
use Rattle.emit_proof.proofs.Parts.{ListMeets}

acc_moved : (k : Site) (v : Machine) (w : Work) (acc : ℕ) → acc < 2 ^ 32 → Beside k v w → Beside k (without_acc v) (record w { acc = acc })
acc_moved k v w acc small h =
    let u = without_acc_beside k v w h in
    record {
      stands = u.stands;
      nowhere = u.nowhere;
      registers = record { acc = tt; t = h.registers.t; p = h.registers.p; sxm = h.registers.sxm };
      pointed = u.pointed;
      input = u.input;
      stack = u.stack;
      range = record { acc = small; t = h.range.t; p = h.range.p; ar = h.range.ar; arp = h.range.arp; dp = h.range.dp; stack = h.range.stack; room = h.range.room; ram = h.range.ram; input = h.range.input };
    }

module _ (g : Ground) (cs : List CaseLabel) (body : ItemList) (ways : Ways) (base next pc : ℕ) (rest : List Entry) (f : Founded g) (meets : ListMeets g body) (words : AreWordLabels cs) (all : cases_in body ≡ counting 0 (length cs)) (low : next < base + 1) (begins : Falls g next rest)
    (s : Standing g pc (Dispatch cs (base + 1) ways.onward ∷ emit body [] (switch_ways base ways) (base + 1 + length cs) next rest)) where
  abbrev Chosen : Option ℕ → ℕ
  Chosen o = chosen o (base + 1) ways.onward

  -- from the label of a word on
  enters : (b b' : Begun) (slack : ℕ) (u : Machine) (w : Work) (z : ℕ) (o : Option ℕ) → label_of z cs ≡ o → b.steps + 1 ≤ b'.steps → b'.steps + 64 * b.work + 4 ≤ b.steps + 64 * b'.work + slack → Arrived g b' (g.label (Chosen o)) u w → MeetsAt g b (exits g ways) 1 slack (entered_at (λ i. run_from g.context i body) o u)
  enters b b' slack u w z None e later few h = comes_here g b b' (exit g ways.onward) 1 slack u w (s.lead.0.jumps ways.onward (jumps_behind z cs (base + 1) ways.onward e)) later (omega (arith, few)) h
  enters b b' slack u w z (Some i) e later few h =
      follow g b b' (exits g ways) (exits g (switch_ways base ways)) 1 (jump_to ways.onward next) slack 4 behind_switch (omega (arith, later)) few
      (λ x c. earlier_comes g b b' (exit g ways.onward) 1 (jump_to ways.onward next) slack 4 x (omega (arith, later)) few c)
      (λ x c. earlier_comes g b b' (exit g ways.onward) 1 1 slack 4 x (omega (arith, later)) few c)
      (λ x c. earlier_comes g b b' (exit g ways.continued) 1 1 slack 4 x (omega (arith, later)) few c)
      (λ x c. earlier_returns g g.caller b b' g.back 1 1 slack 4 x (omega (arith, later)) few c)
      (run_from g.context i body u)
      (meets.from i [] (switch_ways base ways) (base + 1 + length cs) next rest b' u w (case_is_there z cs (cases_in body) i all e) (behind_first g _ _ (somewhere g pc _ s)) begins (omega (arith, low)) h)

  -- where a word isn't known the machine is where it was
  dispatches : (b : Begun) (u : Machine) (w : Work) (o : Option ℕ) → whole_of u.registers.acc ≡ o → Arrived g b pc u w → MeetsAt g b (exits g ways) 1 (5 + 64 * labels_weight cs) (switched cs (λ i. run_from g.context i body) o u)
  dispatches b u w None e h = runs_here g b pc u w h
  dispatches b u w (Some z) e h =
      let d = f.dispatch.by cs (base + 1) ways.onward pc w words h.beside.range s.at.0.items s.at.0.jumps in
      let b' : Begun = begun_at (b.steps + d.steps) (without_acc u) in
      let there = goes_on g b d.steps pc (g.label (Chosen (label_of w.acc cs))) u (without_acc u) w (record w { acc = d.acc }) h d.leads.leads refl (acc_moved g.site u w d.acc d.range h.beside) in
      enters b b' (5 + 64 * labels_weight cs) (without_acc u) (record w { acc = d.acc }) z (label_of z cs) refl (omega (arith, d.some)) (omega (arith, d.few, h.work))
      (subst (λ x. Arrived g b' (g.label (Chosen (label_of x cs))) (without_acc u) (record w { acc = d.acc })) (whole_alike u.registers.acc w.acc z e h.beside.registers.acc) there)

  pub switch_meets : (least : ℕ) (b : Begun) (v : Machine) (w : Work) → least ≤ 1 → Arrived g b pc v w → MeetsAt g b (exits g ways) least 0 (run_item g.context (Switch cs body) v)
  switch_meets least b v w small h =
      let n : ℕ = 4 + labels_weight cs in
      let v' : Machine = record v { work = v.work + n } in
      let u : Machine = without_scratch v' in
      let b' : Begun = begun_at b.steps v' in
      let there : Arrived g b' pc u w = scratch_forgotten g b' pc v' w (counted g b pc n v w h) in
      earlier g b b (exits g ways) least 1 0 0 (run_item g.context (Switch cs body) v) (omega arith) (omega (arith, small)) (omega arith)
      (forgets g b b' (exits g ways) 1 0 (5 + 64 * labels_weight cs) (switched cs (λ i. run_from g.context i body) (whole_of v.registers.acc) u) (omega arith) (omega (arith, h.work)) (dispatches b' u w (whole_of v.registers.acc) refl there))
