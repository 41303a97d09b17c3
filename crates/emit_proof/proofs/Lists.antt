-- Lists of items do what they mean, from their beginning and from each of their labels.
use Rattle.std.proofs.Common.{◌≡◌, ◌≢◌, ◌⊎◌, ℕ, ◌+◌, ◌<◌, ◌≤◌, Bool, true, false, inl, inr, List, [], ◌∷◌, ◌++◌, length, Option, Some, None, refl, sym, subst, arith}
use Rattle.std.specs.Prelude.{◌==◌}
use Rattle.std.proofs.lemmas.Bool.Decides.{eqb_tells}
use Rattle.acc_code.specs.declared.item.CaseLabel.{CaseLabel}
use Rattle.acc_code.specs.declared.operand.AccOperand.{AccOperand}
use Rattle.acc_code.specs.declared.operation.AccOp.{AccOp}
use Rattle.acc_code.specs.declared.operation.Test.{Test}
use Rattle.acc_code.specs.AccTree.{Item, Op, If, Loop, Switch, Case, Clear, Call, Helper, Break, Continue, Return, ItemList, end, item}
use Rattle.acc_code.specs.Emittable.{IsThereFor, cases_in}
use Rattle.c25_code.specs.Work.{Work}
use Rattle.ir_semantics.specs.Parts.{after, choose, in_order}
use Rattle.ir_semantics.specs.AccRun.{Machine, run, run_from}
use Rattle.emit_blocks.specs.Steps.{Operation, operation}
use Rattle.emit_control.specs.declared.ways.Ways.{Ways}
use Rattle.emit_control.specs.Entries.{Entry, Place, flushed}
use Rattle.emit_control.specs.Flow.{emit, labels, item_labels, inner, first_ways, turn_ways, third_ways, switch_ways}
use Rattle.emit_proof.specs.Arrivals.{Begun}
use Rattle.emit_proof.specs.Operations.{operate}
use Rattle.emit_proof.specs.Code.{IsPresent}
use Rattle.emit_proof.proofs.Grounds.{Ground, Founded, Standing, Somewhere, Arrived, exit, exits, MeetsAt, Falls, jump_to, Suits}
use Rattle.emit_proof.proofs.Arriving.{earlier_comes}
use Rattle.emit_proof.proofs.Falling.{goes}
use Rattle.emit_proof.proofs.Skipping.{behind_first, placed}
use Rattle.emit_proof.proofs.ControlRunning.{flush_meets}
use Rattle.emit_proof.proofs.ControlOperating.{AreFit, are_right, are_named, are_usable, fit_more, operate_alike, is_fit, operate_more}
use Rattle.emit_proof.proofs.Parts.{ListMeets, IsAmong}
use Rattle.emit_proof.proofs.Passing.{pass_run, pass_if, pass_loop, pass_switch}
use Rattle.emit_proof.proofs.Suiting.{suits_rest, suits_hit, suits_miss, suits_before, suits_body, suits_third, suits_switch}
use Rattle.emit_proof.proofs.Items.{Plain, if_list, loop_list, switch_list, case_list, clear_list, call_list, helper_list, break_list, continue_list, return_list}

-- items are given by what stands behind the operations before them
abbrev IsFlushed : ItemList → Type 0
IsFlushed xs = (os : List Operation) (ways : Ways) (base next : ℕ) (rest : List Entry) → emit xs os ways base next rest ≡ flushed os (emit xs [] ways base next rest)

-- the rest of a list stands behind the code of its first item, where a label stands in it
abbrev Passed : Ground → ItemList → ItemList → Type 0
Passed g ys xs =
    (i : ℕ) (ways : Ways) (base next : ℕ) (rest : List Entry) → IsAmong i (cases_in xs) → Somewhere g (emit ys [] ways base next rest)
    → (base' : ℕ) × (base ≤ base') × Somewhere g (emit xs [] ways base' next rest)

module _ (g : Ground) (f : Founded g) where
  is_there : (q : ℕ) → IsThereFor (length g.site.places.scalars) g.cells g.parameters g.helps (g.parameters q) → IsPresent (g.parameters q)
  is_there q h = by (g.parameters q) h
    where
      by : (o : Option ℕ) → IsThereFor (length g.site.places.scalars) g.cells g.parameters g.helps o → IsPresent o
      by None h = h
      by (Some n) h = h

  behind_operations : (xs : ItemList) → IsFlushed xs → Plain g xs → (os : List Operation) (ways : Ways) (base next pc : ℕ) (rest : List Entry) (b : Begun) (v : Machine) (w : Work) → AreFit g os → Standing g pc (emit xs os ways base next rest) → Falls g next rest → next < base → Arrived g b pc v w
      → MeetsAt g b (exits g ways) (jump_to ways.onward next) 4 (after (operate g.context.at os v) (λ flow. in_order flow (run g.context xs)))
  behind_operations xs is plain os ways base next pc rest b v w fit s begins low h =
      flush_meets g f b (exits g ways) (jump_to ways.onward next) 4 (run g.context xs) os (emit xs [] ways base next rest) pc v w (are_right g os fit) (are_named g os fit) (are_usable g os fit) (operate_alike g os fit)
      (subst (Standing g pc) (is os ways base next rest) s) h
      (λ pc' b' u w' s' h'. plain ways base next pc' rest b' u w' s' begins low h')

  -- a list whose first item is neither an operation nor a label
  listed : (x : Item) (xs : ItemList) → IsFlushed (item x xs) → Plain g (item x xs) → ((i : ℕ) → IsAmong i (cases_in (item x xs)) → IsAmong i (cases_in xs)) → ((i : ℕ) (v : Machine) → run_from g.context i (item x xs) v ≡ run_from g.context i xs v) → Passed g (item x xs) xs
      → ListMeets g xs → ListMeets g (item x xs)
  listed x xs is plain among same pass m = record {
    runs = behind_operations (item x xs) is plain;
    from = λ i os ways base next rest b v w h s begins low a.
        let p = pass i ways base next rest (among i h) (pass_run g (emit (item x xs) [] ways base next rest) os _ (λ t. t) (subst (Somewhere g) (is os ways base next rest) s)) in
        subst (MeetsAt g b (exits g ways) (jump_to ways.onward next) 4) (sym (same i v)) (m.from i [] ways p.0 next rest b v w (among i h) p.2 begins (omega (arith, low, p.1)) a);
  }

  pass_if_item : (t : Test) (hit miss xs : ItemList) → Passed g (item (If t hit miss) xs) xs
  pass_if_item t hit miss end i ways base next rest h s = absurd h
  pass_if_item t hit miss (item y ys) i ways base next rest h s =
      let xs : ItemList = item y ys in
      let u : Ways = inner xs ways base in
      let base' : ℕ = base + item_labels (If t hit miss) in
      (base', omega arith, pass_if g (emit xs [] ways base' next rest) t _ _ hit miss u u (base + 2) (base + 2 + labels hit) (base + 1) base _ (λ q. behind_first g (Place base) _ q) s)

  pass_loop_item : (before body third : ItemList) (last : Bool) (xs : ItemList) → Passed g (item (Loop before body third last) xs) xs
  pass_loop_item before body third last end i ways base next rest h s = absurd h
  pass_loop_item before body third last (item y ys) i ways base next rest h s =
      let xs : ItemList = item y ys in
      let u : Ways = inner xs ways base in
      let base' : ℕ = base + item_labels (Loop before body third last) in
      (base', omega arith, pass_loop g (emit xs [] ways base' next rest) _ (base + 1) (base + 2) (base + 3) before body third (first_ways third base u) (turn_ways third base u) (third_ways base u) (base + 4) (base + 4 + labels before) (base + 4 + labels before + labels body) base _ (λ q. behind_first g (Place base) _ q) s)

  pass_switch_item : (cs : List CaseLabel) (body xs : ItemList) → Passed g (item (Switch cs body) xs) xs
  pass_switch_item cs body end i ways base next rest h s = absurd h
  pass_switch_item cs body (item y ys) i ways base next rest h s =
      let xs : ItemList = item y ys in
      let u : Ways = inner xs ways base in
      let base' : ℕ = base + item_labels (Switch cs body) in
      (base', omega arith, pass_switch g (emit xs [] ways base' next rest) cs (base + 1) u.onward body (switch_ways base u) (base + 1 + length cs) base _ (λ q. behind_first g (Place base) _ q) s)

  pass_break : (xs : ItemList) → Passed g (item Break xs) xs
  pass_break end i ways base next rest h s = absurd h
  pass_break (item y ys) i ways base next rest h s = (base, omega arith, behind_first g _ _ s)

  pass_continue : (xs : ItemList) → Passed g (item Continue xs) xs
  pass_continue end i ways base next rest h s = absurd h
  pass_continue (item y ys) i ways base next rest h s = (base, omega arith, behind_first g _ _ s)

  pass_return : (xs : ItemList) → Passed g (item Return xs) xs
  pass_return end i ways base next rest h s = absurd h
  pass_return (item y ys) i ways base next rest h s = (base, omega arith, behind_first g _ _ s)

  -- no items, an operation, and a label
  end_meets : ListMeets g end
  end_meets = record {
    runs = behind_operations end (λ os ways base next rest. refl) (λ ways base next pc rest b v w s begins low h. earlier_comes g b b (exit g ways.onward) (jump_to ways.onward next) (jump_to ways.onward next) 4 1 v (omega arith) (omega arith) (goes g ways.onward next pc rest b v w s begins h));
    from = λ i os ways base next rest b v w h s begins low a. absurd h;
  }

  operation_meets : (o : AccOp) (m : AccOperand) (xs : ItemList) → Suits g (item (Op o m) xs) → ListMeets g xs → ListMeets g (item (Op o m) xs)
  operation_meets o m xs suits more = record {
    runs = λ os ways base next pc rest b v w fit s begins low h.
        subst (MeetsAt g b (exits g ways) (jump_to ways.onward next) 4) (operate_more g.context.at (operation o m) (run g.context xs) os v)
        (more.runs (os ++ operation o m ∷ []) ways base next pc rest b v w (fit_more g os (operation o m) fit (is_fit g f o m suits.refers.0 suits.stands.0)) s begins low h);
    from = λ i os ways base next rest b v w h s begins low a. more.from i (os ++ operation o m ∷ []) ways base next rest b v w h s begins low a;
  }

  label_meets : (n : ℕ) (xs : ItemList) → ListMeets g xs → ListMeets g (item (Case n) xs)
  label_meets n xs m = record {
    runs = behind_operations (item (Case n) xs) (λ os ways base next rest. refl) (case_list g f n xs m);
    from = λ i os ways base next rest b v w h s begins low a.
        let s' : Somewhere g (Place (ways.cases + n) ∷ emit xs [] ways base next rest) = pass_run g (Place (ways.cases + n) ∷ emit xs [] ways base next rest) os _ (λ t. t) s in
        by i ways base next rest b v w h s' begins low a (eqb_tells n i);
  }
    where
      by : (i : ℕ) (ways : Ways) (base next : ℕ) (rest : List Entry) (b : Begun) (v : Machine) (w : Work) → (n ≡ i) ⊎ IsAmong i (cases_in xs) → Somewhere g (Place (ways.cases + n) ∷ emit xs [] ways base next rest) → Falls g next rest → next < base → Arrived g b (g.label (ways.cases + i)) v w
          → ((n == i) ≡ true) × (n ≡ i) ⊎ ((n == i) ≡ false) × (n ≢ i) → MeetsAt g b (exits g ways) (jump_to ways.onward next) 4 (choose (n == i) (run g.context xs) (run_from g.context i xs) v)
      by i ways base next rest b v w h s begins low a (inl q) =
          subst (λ x. MeetsAt g b (exits g ways) (jump_to ways.onward next) 4 (choose x (run g.context xs) (run_from g.context i xs) v)) (sym q.0)
          (m.runs [] ways base next (g.label (ways.cases + i)) rest b v w tt (subst (λ j. Standing g (g.label (ways.cases + j)) (emit xs [] ways base next rest)) q.1 (placed g (ways.cases + n) _ s)) begins low a)
      by i ways base next rest b v w (inl same) s begins low a (inr q) = absurd (q.1 same)
      by i ways base next rest b v w (inr h) s begins low a (inr q) =
          subst (λ x. MeetsAt g b (exits g ways) (jump_to ways.onward next) 4 (choose x (run g.context xs) (run_from g.context i xs) v)) (sym q.0)
          (m.from i [] ways base next rest b v w h (behind_first g _ _ s) begins low a)

  pub list_meets : (xs : ItemList) → Suits g xs → ListMeets g xs
  list_meets end s = end_meets
  list_meets (item (Op o m) xs) s = operation_meets o m xs s (list_meets xs (suits_rest g _ xs s))
  list_meets (item (If t hit miss) xs) s =
      let m = list_meets xs (suits_rest g _ xs s) in
      listed (If t hit miss) xs (λ os ways base next rest. refl) (if_list g f t hit miss xs (list_meets hit (suits_hit g t hit miss xs s)) (list_meets miss (suits_miss g t hit miss xs s)) m) (λ i h. h) (λ i v. refl) (pass_if_item t hit miss xs) m
  list_meets (item (Loop before body third last) xs) s =
      let m = list_meets xs (suits_rest g _ xs s) in
      listed (Loop before body third last) xs (λ os ways base next rest. refl)
      (loop_list g f before body third last xs (list_meets before (suits_before g before body third last xs s)) (list_meets body (suits_body g before body third last xs s)) (list_meets third (suits_third g before body third last xs s)) m)
      (λ i h. h) (λ i v. refl) (pass_loop_item before body third last xs) m
  list_meets (item (Switch cs body) xs) s =
      let m = list_meets xs (suits_rest g _ xs s) in
      listed (Switch cs body) xs (λ os ways base next rest. refl) (switch_list g f cs body xs s.stands.0 s.placed.0.1 (list_meets body (suits_switch g cs body xs s)) m) (λ i h. h) (λ i v. refl) (pass_switch_item cs body xs) m
  list_meets (item (Case n) xs) s = label_meets n xs (list_meets xs (suits_rest g _ xs s))
  list_meets (item (Clear o from) xs) s =
      let m = list_meets xs (suits_rest g _ xs s) in
      listed (Clear o from) xs (λ os ways base next rest. refl) (clear_list g f o from xs m) (λ i h. h) (λ i v. refl) (λ i ways base next rest h t. (base + 1, omega arith, behind_first g _ _ t)) m
  list_meets (item (Call q) xs) s =
      let m = list_meets xs (suits_rest g _ xs s) in
      listed (Call q) xs (λ os ways base next rest. refl) (call_list g f q xs (is_there q s.refers.0) m) (λ i h. h) (λ i v. refl) (λ i ways base next rest h t. (base, omega arith, behind_first g _ _ t)) m
  list_meets (item (Helper name) xs) s =
      let m = list_meets xs (suits_rest g _ xs s) in
      listed (Helper name) xs (λ os ways base next rest. refl) (helper_list g f name xs s.stands.0 m) (λ i h. h) (λ i v. refl) (λ i ways base next rest h t. (base, omega arith, behind_first g _ _ t)) m
  list_meets (item Break xs) s =
      let m = list_meets xs (suits_rest g _ xs s) in
      listed Break xs (λ os ways base next rest. refl) (break_list g f xs) (λ i h. h) (λ i v. refl) (pass_break xs) m
  list_meets (item Continue xs) s =
      let m = list_meets xs (suits_rest g _ xs s) in
      listed Continue xs (λ os ways base next rest. refl) (continue_list g f xs) (λ i h. h) (λ i v. refl) (pass_continue xs) m
  list_meets (item Return xs) s =
      let m = list_meets xs (suits_rest g _ xs s) in
      listed Return xs (λ os ways base next rest. refl) (return_list g f xs) (λ i h. h) (λ i v. refl) (pass_return xs) m
