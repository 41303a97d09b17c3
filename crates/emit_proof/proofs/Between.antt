-- Items that are no operations: what they forget, the label behind them, and the rest of their list.
use Rattle.std.proofs.Common.{◌≡◌, ℕ, ◌+◌, ◌*◌, ◌<◌, ◌≤◌, List, [], refl, sym, subst, arith}
use Rattle.acc_code.specs.AccTree.{Item, ItemList, end, item}
use Rattle.c25_code.specs.Work.{Work}
use Rattle.ir_semantics.specs.Parts.{Res, Does, after, give, Flow, Next, in_order}
use Rattle.ir_semantics.specs.AccRun.{Machine, run, run_item, forgetting, without_scratch}
use Rattle.emit_control.specs.declared.ways.Ways.{Ways}
use Rattle.emit_control.specs.Entries.{Entry}
use Rattle.emit_control.specs.Flow.{is_end, inner, next_behind, behind_label, emit}
use Rattle.emit_proof.specs.Sites.{Site}
use Rattle.emit_proof.specs.Arrivals.{Begun, ComesTo}
use Rattle.emit_proof.proofs.Knowing.{without_scratch_beside}
use Rattle.emit_proof.proofs.Grounds.{Ground, Exit, Exits, Somewhere, Arrived, begun_at, Comes, exits, MeetsAt, Falls, jump_to}
use Rattle.emit_proof.proofs.Arriving.{earlier, earlier_comes, earlier_returns, arrival, follow}
use Rattle.emit_proof.proofs.Skipping.{placed}
use Rattle.emit_proof.proofs.Parts.{ListMeets}

module _ (g : Ground) where
  forgets_comes : (b b' : Begun) (x : Exit) (least slack slack' : ℕ) (v : Machine) → b.steps ≤ b'.steps → b'.steps + 64 * b.work + slack' ≤ b.steps + 64 * b'.work + slack → Comes g b' x least slack' v → Comes g b x least slack (without_scratch v)
  forgets_comes b b' x least slack slack' v later few h = record {
    steps = h.steps;
    work = h.work;
    came = h.came;
    beside = without_scratch_beside g.site v h.work h.beside;
    least_steps = omega (arith, later, h.least_steps);
    within = omega (arith, few, h.within);
    reached = h.reached;
  }

  forgets_returns : (k : Site) (b b' : Begun) (a least slack slack' : ℕ) (v : Machine) → b.steps ≤ b'.steps → b'.steps + 64 * b.work + slack' ≤ b.steps + 64 * b'.work + slack → ComesTo g.start g.program k b' a least slack' v → ComesTo g.start g.program k b a least slack (without_scratch v)
  forgets_returns k b b' a least slack slack' v later few h = record {
    steps = h.steps;
    work = h.work;
    came = h.came;
    beside = without_scratch_beside k v h.work h.beside;
    least_steps = omega (arith, later, h.least_steps);
    within = omega (arith, few, h.within);
  }

  pub forgets : (b b' : Begun) (e : Exits) (least slack slack' : ℕ) (r : Res Machine Flow) → b.steps ≤ b'.steps → b'.steps + 64 * b.work + slack' ≤ b.steps + 64 * b'.work + slack → MeetsAt g b' e least slack' r → MeetsAt g b e least slack (after r forgetting)
  forgets b b' e least slack slack' r later few h =
      follow g b b' e e least least slack slack' forgetting later few
      (λ v c. forgets_comes b b' e.onward least slack slack' v later few c)
      (λ v c. forgets_comes b b' e.broken 1 slack slack' v later few c)
      (λ v c. forgets_comes b b' e.continued 1 slack slack' v later few c)
      (λ v c. forgets_returns g.caller b b' e.back 1 slack slack' v later few c)
      r h

  -- the rest of a list behind an item that leaves nothing over
  pub rest_behind : (b : Begun) (e e' : Exits) (least least' : ℕ) (rest : Does Machine Flow) (r : Res Machine Flow) → e.broken ≡ e'.broken → e.continued ≡ e'.continued → e.back ≡ e'.back
      → ((v : Machine) (w : Work) (b' : Begun) → Arrived g b' e'.onward.address v w → MeetsAt g b' e least 4 (rest v)) → MeetsAt g b e' least' 0 r → MeetsAt g b e least 4 (after r (λ flow. in_order flow rest))
  rest_behind b e e' least least' rest r broken continued back onward h =
      follow g b b e e' least least' 4 0 (λ flow. in_order flow rest) (omega arith) (omega arith)
      (λ v c. earlier g b (begun_at c.steps v) e least least 4 4 (rest v) (omega (arith, c.least_steps)) (omega (arith, c.least_steps)) (omega (arith, c.within)) (onward v c.work (begun_at c.steps v) (arrival g b e'.onward least' 0 v c)))
      (λ v c. subst (λ a. Comes g b a 1 4 v) (sym broken) (earlier_comes g b b e'.broken 1 1 4 0 v (omega arith) (omega arith) c))
      (λ v c. subst (λ a. Comes g b a 1 4 v) (sym continued) (earlier_comes g b b e'.continued 1 1 4 0 v (omega arith) (omega arith) c))
      (λ v c. subst (λ a. ComesTo g.start g.program g.caller b a 1 4 v) (sym back) (earlier_returns g g.caller b b e'.back 1 1 4 0 v (omega arith) (omega arith) c))
      r h

  -- the last item of a list is what the list is
  pub last_item : (b : Begun) (e : Exits) (least : ℕ) (r : Res Machine Flow) → MeetsAt g b e least 0 r → MeetsAt g b e least 4 (after r (λ flow. in_order flow (give Next)))
  last_item b e least r h =
      follow g b b e e least least 4 0 (λ flow. in_order flow (give Next)) (omega arith) (omega arith)
      (λ v c. earlier_comes g b b e.onward least least 4 0 v (omega arith) (omega arith) c)
      (λ v c. earlier_comes g b b e.broken 1 1 4 0 v (omega arith) (omega arith) c)
      (λ v c. earlier_comes g b b e.continued 1 1 4 0 v (omega arith) (omega arith) c)
      (λ v c. earlier_returns g g.caller b b e.back 1 1 4 0 v (omega arith) (omega arith) c)
      r h

  -- an item with a label behind it, unless it is the last one
  pub labelled : (x : Item) (xs : ItemList) (ways : Ways) (base base' next : ℕ) (rest : List Entry) (b : Begun) (v : Machine) → ListMeets g xs → next < base → base ≤ base' → Falls g next rest
      → Somewhere g (behind_label (is_end xs) base (emit xs [] ways base' next rest) rest)
      → MeetsAt g b (exits g (inner xs ways base)) (jump_to (inner xs ways base).onward (next_behind xs base next)) 0 (run_item g.context x v)
      → MeetsAt g b (exits g ways) (jump_to ways.onward next) 4 (run g.context (item x xs) v)
  labelled x end ways base base' next rest b v meets low more begins s h = last_item b (exits g ways) (jump_to ways.onward next) (run_item g.context x v) h
  labelled x (item y ys) ways base base' next rest b v meets low more begins s h =
      let there = placed g base (emit (item y ys) [] ways base' next rest) s in
      rest_behind b (exits g ways) (exits g (inner (item y ys) ways base)) (jump_to ways.onward next) _ (run g.context (item y ys)) (run_item g.context x v) refl refl refl
      (λ u w b' a. meets.runs [] ways base' next (g.label base) rest b' u w tt there begins (omega (arith, low, more)) a)
      h
