-- Items that are no operations, each before the rest of its list.
use Rattle.std.proofs.Common.{◌≡◌, ℕ, ◌+◌, ◌<◌, ◌≤◌, Bool, List, [], length, refl, arith}
use Rattle.c_tree.specs.declared.program.VarRef.{VarRef}
use Rattle.acc_code.specs.declared.item.CaseLabel.{CaseLabel}
use Rattle.acc_code.specs.declared.operand.HelperName.{HelperName}
use Rattle.acc_code.specs.declared.operation.Test.{Test}
use Rattle.acc_code.specs.AccTree.{Item, If, Loop, Switch, Case, Clear, Call, Helper, Break, Continue, Return, ItemList, end, item}
use Rattle.acc_code.specs.Emittable.{cases_in, counting}
use Rattle.c25_code.specs.Work.{Work}
use Rattle.c25_code.specs.Items.{return_code}
use Rattle.c25_code.proofs.Items.{code_of_items}
use Rattle.ir_semantics.specs.AccRun.{Machine, run, run_item, without_scratch}
use Rattle.emit_control.specs.declared.ways.Ways.{Ways}
use Rattle.emit_control.specs.Entries.{Entry}
use Rattle.emit_control.specs.Flow.{emit, labels, item_labels, is_end, inner, next_behind, behind_label, first_ways, turn_ways, third_ways, switch_ways}
use Rattle.emit_proof.specs.Arrivals.{Begun}
use Rattle.emit_proof.specs.Code.{AreWordLabels, HelperStands, IsPresent}
use Rattle.emit_proof.proofs.Grounds.{Ground, Founded, Exit, Standing, Arrived, begun_at, exit, Comes, exits, MeetsAt, Falls, jump_to}
use Rattle.emit_proof.proofs.Arriving.{earlier, earlier_returns, earlier_returns, arrival, counted, scratch_forgotten}
use Rattle.emit_proof.proofs.Falling.{inner_reached, place_there, place_begins, goto_comes}
use Rattle.emit_proof.proofs.Skipping.{somewhere, behind_code, placed}
use Rattle.emit_proof.proofs.Parts.{PartMeets, ListMeets}
use Rattle.emit_proof.proofs.Between.{rest_behind, labelled}
use Rattle.emit_proof.proofs.Deciding.{jump_small, if_meets}
use Rattle.emit_proof.proofs.Looping.{loop_meets}
use Rattle.emit_proof.proofs.ControlDispatching.{switch_meets}
use Rattle.emit_proof.proofs.Calling.{going_on, behind_call, behind_helper_call, call_meets, helper_meets}
use Rattle.emit_proof.proofs.ControlClearing.{behind_clear, standing_behind, clear_meets}
use Rattle.emit_proof.proofs.Passing.{pass_if, pass_loop, pass_switch}

-- a list whose first item is no operation
abbrev pub Plain : Ground → ItemList → Type 0
Plain g xs =
    (ways : Ways) (base next pc : ℕ) (rest : List Entry) (b : Begun) (v : Machine) (w : Work) → Standing g pc (emit xs [] ways base next rest) → Falls g next rest → next < base → Arrived g b pc v w
    → MeetsAt g b (exits g ways) (jump_to ways.onward next) 4 (run g.context xs v)

module _ (g : Ground) (f : Founded g) where
  pub plain_part : (xs : ItemList) (ways : Ways) (base : ℕ) → ListMeets g xs → PartMeets g ways base (emit xs [] ways base) (run g.context xs)
  plain_part xs ways base m = record {
    by = λ next pc rest b v w s begins low h. m.runs [] ways base next pc rest b v w tt s begins low h;
    behind = λ next rest s. behind_code g xs [] ways base next rest s;
  }

  below_next : (xs : ItemList) (base next : ℕ) → next < base → next_behind xs base next < base + 1
  below_next end base next low = omega (arith, low)
  below_next (item x xs) base next low = omega arith

  begins_behind : (xs : ItemList) (base next : ℕ) (code rest : List Entry) → 1 ≤ base → Falls g next rest → Falls g (next_behind xs base next) (behind_label (is_end xs) base code rest)
  begins_behind end base next code rest first begins = begins
  begins_behind (item x xs) base next code rest first begins = place_begins g base code (inner_reached g.finished base first)

  pub if_list : (t : Test) (hit miss xs : ItemList) → ListMeets g hit → ListMeets g miss → ListMeets g xs → Plain g (item (If t hit miss) xs)
  if_list t hit miss xs mh mm m ways base next pc rest b v w s begins low h =
      let u : Ways = inner xs ways base in
      let base' : ℕ = base + item_labels (If t hit miss) in
      let next' : ℕ = next_behind xs base next in
      let behind : List Entry = behind_label (is_end xs) base (emit xs [] ways base' next rest) rest in
      let near : next' < base + 1 = below_next xs base next low in
      labelled g (If t hit miss) xs ways base base' next rest b v m low (omega arith) begins
      (pass_if g behind t _ _ hit miss u u (base + 2) (base + 2 + labels hit) (base + 1) next' behind (λ x. x) (somewhere g pc _ s))
      (if_meets g t hit miss u (emit hit [] u (base + 2)) (emit miss [] u (base + 2 + labels hit)) (base + 1) next' (base + 2) (base + 2 + labels hit) pc (jump_to u.onward next') behind b v w
      (plain_part hit u (base + 2) mh) (plain_part miss u (base + 2 + labels hit) mm) (omega arith) (omega (arith, near)) (omega (arith, near)) s (inner_reached g.finished (base + 1) (omega arith)) (begins_behind xs base next _ rest (omega (arith, low)) begins) h (jump_small u.onward next'))

  pub loop_list : (before body third : ItemList) (last : Bool) (xs : ItemList) → ListMeets g before → ListMeets g body → ListMeets g third → ListMeets g xs → Plain g (item (Loop before body third last) xs)
  loop_list before body third last xs mb mt mu m ways base next pc rest b v w s begins low h =
      let u : Ways = inner xs ways base in
      let base' : ℕ = base + item_labels (Loop before body third last) in
      let next' : ℕ = next_behind xs base next in
      let behind : List Entry = behind_label (is_end xs) base (emit xs [] ways base' next rest) rest in
      let near : next' < base + 1 = below_next xs base next low in
      let second : ℕ = base + 4 + labels before in
      let third' : ℕ = base + 4 + labels before + labels body in
      labelled g (Loop before body third last) xs ways base base' next rest b v m low (omega arith) begins
      (pass_loop g behind (is_end third) (base + 1) (base + 2) (base + 3) before body third (first_ways third base u) (turn_ways third base u) (third_ways base u) (base + 4) second third' next' behind (λ x. x) (somewhere g pc _ s))
      (earlier g b b (exits g u) (jump_to u.onward next') 1 0 0 (run_item g.context (Loop before body third last) v) (omega arith) (omega (arith, jump_small u.onward next')) (omega arith)
      (loop_meets g before body last u base next' (base + 4) second third' pc (emit before [] (first_ways third base u) (base + 4)) (emit body [] (turn_ways third base u) second) (emit third [] (third_ways base u) third') behind b v w
      (omega arith) (omega arith) (omega (arith, near)) near (begins_behind xs base next _ rest (omega (arith, low)) begins) h third
      (plain_part before (first_ways third base u) (base + 4) mb) (plain_part body (turn_ways third base u) second mt) (plain_part third (third_ways base u) third' mu) s))

  pub switch_list : (cs : List CaseLabel) (body xs : ItemList) → AreWordLabels cs → cases_in body ≡ counting 0 (length cs) → ListMeets g body → ListMeets g xs → Plain g (item (Switch cs body) xs)
  switch_list cs body xs words all mb m ways base next pc rest b v w s begins low h =
      let u : Ways = inner xs ways base in
      let base' : ℕ = base + item_labels (Switch cs body) in
      let next' : ℕ = next_behind xs base next in
      let behind : List Entry = behind_label (is_end xs) base (emit xs [] ways base' next rest) rest in
      labelled g (Switch cs body) xs ways base base' next rest b v m low (omega arith) begins
      (pass_switch g behind cs (base + 1) u.onward body (switch_ways base u) (base + 1 + length cs) next' behind (λ x. x) (somewhere g pc _ s))
      (switch_meets g cs body u base next' pc behind f mb words all (below_next xs base next low) (begins_behind xs base next _ rest (omega (arith, low)) begins) s (jump_to u.onward next') b v w (jump_small u.onward next') h)

  pub case_list : (n : ℕ) (xs : ItemList) → ListMeets g xs → Plain g (item (Case n) xs)
  case_list n xs m ways base next pc rest b v w s begins low h =
      let c = place_there g (ways.cases + n) pc (emit xs [] ways base next rest) b v w s h in
      let v' : Machine = record v { work = v.work + 1 } in
      let u : Machine = without_scratch v' in
      let a = g.label (ways.cases + n) in
      let b' : Begun = begun_at c.steps v' in
      let there : Arrived g b' a u c.work = scratch_forgotten g b' a v' c.work (counted g (begun_at c.steps v) a 1 v c.work (record { came = c.came; work = refl; beside = c.beside })) in
      earlier g b b' (exits g ways) (jump_to ways.onward next) (jump_to ways.onward next) 4 4 (run g.context xs u) (omega (arith, c.least_steps)) (omega (arith, c.least_steps)) (omega (arith, c.within))
      (m.runs [] ways base next a rest b' u c.work tt (placed g (ways.cases + n) (emit xs [] ways base next rest) (somewhere g pc _ s)) begins low there)

  -- what goes on behind itself
  goes_behind : (xs : ItemList) (ways : Ways) (base next behind least : ℕ) (rest : List Entry) (b : Begun) (x : Item) (v : Machine) → ListMeets g xs → Falls g next rest → next < base → Standing g behind (emit xs [] ways base next rest)
      → MeetsAt g b (going_on behind (exits g ways)) least 0 (run_item g.context x v) → MeetsAt g b (exits g ways) (jump_to ways.onward next) 4 (run g.context (item x xs) v)
  goes_behind xs ways base next behind least rest b x v m begins low s h =
      rest_behind g b (exits g ways) (going_on behind (exits g ways)) (jump_to ways.onward next) least (run g.context xs) (run_item g.context x v) refl refl refl
      (λ u w b' a. m.runs [] ways base next behind rest b' u w tt s begins low a) h

  pub clear_list : (o : VarRef) (from : ℕ) (xs : ItemList) → ListMeets g xs → Plain g (item (Clear o from) xs)
  clear_list o from xs m ways base next pc rest b v w s begins low h =
      goes_behind xs ways (base + 1) next (behind_clear g f o from base pc _ s) 0 rest b (Clear o from) v m begins (omega (arith, low)) (standing_behind g f o from base pc _ s) (clear_meets g f o from base pc _ s (exits g ways) b v w h)

  pub call_list : (q : ℕ) (xs : ItemList) → IsPresent (g.parameters q) → ListMeets g xs → Plain g (item (Call q) xs)
  call_list q xs there m ways base next pc rest b v w s begins low h =
      goes_behind xs ways base next (pc + 2) 1 rest b (Call q) v m begins low (behind_call g f q pc _ s) (call_meets g f q pc _ (exits g ways) b v w there s h)

  pub helper_list : (name : HelperName) (xs : ItemList) → HelperStands g.start g.program g.names g.setting g.site name → ListMeets g xs → Plain g (item (Helper name) xs)
  helper_list name xs stands m ways base next pc rest b v w s begins low h =
      goes_behind xs ways base next (pc + 2) 0 rest b (Helper name) v m begins low (behind_helper_call g f name pc _ s) (helper_meets g f name pc _ (exits g ways) b v w stands s h)

  -- what leaves a list
  leaves_comes : (b : Begun) (x : Exit) (n : ℕ) (v : Machine) → Comes g b x 1 1 v → Comes g b x 1 4 (without_scratch (record v { work = v.work + n }))
  leaves_comes b x n v c =
      let v' : Machine = record v { work = v.work + n } in
      let there = scratch_forgotten g (begun_at c.steps v') x.address v' c.work (counted g (begun_at c.steps v) x.address n v c.work (arrival g b x 1 1 v c)) in
      record { steps = c.steps; work = c.work; came = there.came; beside = there.beside; least_steps = c.least_steps; within = omega (arith, c.within); reached = c.reached }

  pub break_list : (xs : ItemList) → Plain g (item Break xs)
  break_list xs ways base next pc rest b v w s begins low h = leaves_comes b (exit g ways.broken) 2 v (goto_comes g ways.broken pc _ b v w s h)

  pub continue_list : (xs : ItemList) → Plain g (item Continue xs)
  continue_list xs ways base next pc rest b v w s begins low h = leaves_comes b (exit g ways.continued) 2 v (goto_comes g ways.continued pc _ b v w s h)

  pub return_list : (xs : ItemList) → Plain g (item Return xs)
  return_list xs ways base next pc rest b v w s begins low h =
      let v' : Machine = record v { work = v.work + 3 } in
      let here = scratch_forgotten g (begun_at b.steps v') pc v' w (counted g b pc 3 v w h) in
      earlier_returns g g.caller b (begun_at b.steps v') g.back 1 1 4 3 (without_scratch v') (omega arith) (omega (arith, h.work))
      (f.returns.by (begun_at b.steps v') (without_scratch v') w pc (code_of_items g.program g.marks g.names (return_code g.setting.back) pc s.at.0.items) here.came here.work here.beside)
