-- Loops: a test breaks where it doesn't hold, and each turn pays for the next test.
use Rattle.std.proofs.Common.{◌≡◌, ℕ, zero, suc, ◌+◌, ◌≤◌, Bool, true, false, [], refl, sym, ap, ◌∙◌, subst, arith}
use Rattle.std.specs.Prelude.{not, ◌==◌, if◌then◌else◌}
use Rattle.tree_code.specs.WordTree as code
use Rattle.tree_code.specs.WordTree.{ExprCode, Node}
use Rattle.acc_code.specs.AccTree.{Loop, Break, ItemList, end, ◌▸◌}
use Rattle.acc_select.specs.Conditions.{Nothing, Breaks, Branch}
use Rattle.acc_select.specs.Selected.{code_of, test_items}
use Rattle.ir_semantics.specs.Parts.{Gives, Does, after, ◌>>=◌, give, choose, Flow, Next, Broke, Continued, Returned}
use Rattle.ir_semantics.specs.Outside.{Outside}
use Rattle.ir_semantics.specs.TreeRun as tree
use Rattle.ir_semantics.specs.TreeRun.{Tree, Calls, decide, constant_does, as_truth, after_turn}
use Rattle.ir_semantics.specs.AccRun as acc
use Rattle.ir_semantics.specs.AccRun.{Machine, without_scratch, behind_part, behind_turn, turns, run_item, run}
use Rattle.acc_select_proof.proofs.Rules.{Ground, Rel, Keeps, rel_after, last_item, Grows, part_grows, turn_grows, turns_grow, too_many_grows, tick_grows, bind_grows, run_grows}
use Rattle.acc_select_proof.proofs.Sides.{Side, went, paid, spared}
use Rattle.acc_select_proof.proofs.Valuing.{after_give, after_same, Stable, rel_forget, same_meaning, BranchKeeps}
use Rattle.acc_select_proof.proofs.Flows.{FlowPost, without_word, flow_stable, flow_spared, by_flow, Onward, by_onward, branch_here}

abbrev goes_on : Bool → Flow
goes_on true = Next
goes_on false = Broke

chosen : (t : Bool) (w : Tree) → choose t (give true) (give false) w ≡ give t w
chosen true w = refl
chosen false w = refl

module _ (base : ℕ) where
  -- a test goes on where it is true, and breaks where it isn't
  pub record Tested (s : ℕ) (t : Bool) (flow : Flow) (w : Tree) (v : Machine) : Type 0 where
    pub same : goes_on t ≡ flow
    pub side : Side base [] s w v

  tested_stable : (s : ℕ) → Stable (Tested s)
  tested_stable s t flow w v p = record { same = p.same; side = went base [] s s 0 w v _ p.side refl refl p.side.sxm (omega arith) (omega arith) }

module _ (n : Ground) (base : ℕ) where
  -- tests
  pub asked_keeps : (f : Does Tree Bool) (c : ℕ → Branch) → BranchKeeps n base 6 0 f c → (s : ℕ) → Keeps n (Side base [] (8 + s)) f (c base true Nothing Breaks) (Tested base s)
  asked_keeps f c k s =
      same_meaning n base (λ w. after_same (f w) (λ t. choose t (give true) (give false)) give chosen ∙ after_give (f w))
      (branch_here n base f c k (8 + s) (2 + s) (omega arith) Nothing Breaks (give true) (give false) (Tested base s) (tested_stable base s)
      (record { by = λ w v h. record { same = refl; side = spared base [] (2 + s) s w v h (omega arith) } })
      (record { by = λ w v h. record { same = refl; side = went base [] (2 + s) s 2 w v (without_scratch (record v { work = v.work + 2 })) h refl refl h.sxm (omega arith) (omega arith) } }))

  -- of a constant nothing is asked
  constant_test : (x : ℕ) (b : Bool) → (x == 0) ≡ b → (s : ℕ) → Keeps n (Side base [] (8 + s)) (as_truth (constant_does x)) (if b then Break ▸ end else end) (Tested base s)
  constant_test x true is s = record {
    by = λ w v h. record {
      same = ap (λ b. goes_on (not b)) is;
      side = went base [] (2 + (8 + s)) s 2 _ v (without_scratch (record v { work = v.work + 2 })) (paid base [] (8 + s) 2 w v h) refl refl h.sxm (omega arith) (omega arith);
    };
  }
  constant_test x false is s = record {
    by = λ w v h. record { same = ap (λ b. goes_on (not b)) is; side = spared base [] (2 + (8 + s)) s _ v (paid base [] (8 + s) 2 w v h) (omega arith) };
  }

  pub test_keeps : (calls : Calls) (e : ExprCode) → BranchKeeps n base 6 0 (decide calls n.context.at e) (λ t. (code_of e t).branch) → (s : ℕ)
      → Keeps n (Side base [] (8 + s)) (decide calls n.context.at e) (test_items e base) (Tested base s)
  test_keeps calls (Node (code.Const x) at) k s = constant_test x (x == 0) refl s
  test_keeps calls e k s = asked_keeps (decide calls n.context.at e) (λ t. (code_of e t).branch) k s

module _ (n : Ground) (base : ℕ) where
  -- what follows a test
  test_step : (r s : ℕ) → s ≤ r → (g : Does Tree Flow) (h : Does Machine Flow) → ((w : Tree) (v : Machine) → Side base [] r w v → Rel (FlowPost base s) (g w) (h v)) → (t : Bool) (flow : Flow) (w : Tree) (v : Machine)
      → Tested base r t flow w v → Rel (FlowPost base s) (choose t g (give Next) w) (behind_part flow h v)
  test_step r s le g h k true flow w v p = subst (λ b. Rel (FlowPost base s) (g w) (behind_part b h v)) p.same (k w v p.side)
  test_step r s le g h k false flow w v p = subst (λ b. Rel (FlowPost base s) (Gives Next w) (behind_part b h v)) p.same (without_word base s Next w v (λ e. absurd cc) (spared base [] r s w v p.side le))

  asked_rel : (r s : ℕ) → s ≤ r → (f : Does Tree Bool) (xs : ItemList) (g : Does Tree Flow) (h : Does Machine Flow) → Keeps n (Side base [] (8 + r)) f xs (Tested base r) → Grows h
      → ((w : Tree) (v : Machine) → Side base [] r w v → Rel (FlowPost base s) (g w) (h v)) → (w : Tree) (v : Machine) → Side base [] (8 + r) w v
      → Rel (FlowPost base s) (after (f w) (λ t. choose t g (give Next))) (after (run n.context xs v) (λ flow. behind_part flow h))
  asked_rel r s le f xs g h kt grows k w v p =
      rel_after (Tested base r) (FlowPost base s) (f w) (run n.context xs v) (λ t. choose t g (give Next)) (λ flow. behind_part flow h) (kt.by w v p) (λ flow. part_grows flow h grows) (test_step r s le g h k)

  -- what follows a turn
  turn_step : (r s : ℕ) → s ≤ r → (again : Does Tree Flow) (h : Does Machine Flow) → ((w : Tree) (v : Machine) → Side base [] r w v → Rel (FlowPost base s) (again w) (h v)) → (a : Flow) (w : Tree) (v : Machine)
      → FlowPost base r a a w v → Rel (FlowPost base s) (after_turn a again w) (behind_turn a h v)
  turn_step r s le again h k Next w v p = k w v p.side
  turn_step r s le again h k Broke w v p = without_word base s Next w v (λ e. absurd cc) (spared base [] r s w v p.side le)
  turn_step r s le again h k Continued w v p = k w v p.side
  turn_step r s le again h k Returned w v p = flow_spared base r s le Returned Returned w v p

  turn_rel : (r s : ℕ) → s ≤ r → (each : Does Tree Flow) (body : ItemList) (again : Does Tree Flow) (h : Does Machine Flow) → Keeps n (Side base [] r) each body (FlowPost base r) → Grows h
      → ((w : Tree) (v : Machine) → Side base [] r w v → Rel (FlowPost base s) (again w) (h v)) → (w : Tree) (v : Machine) → Side base [] r w v
      → Rel (FlowPost base s) (after (each w) (λ flow. after_turn flow again)) (after (run n.context body v) (λ flow. behind_turn flow h))
  turn_rel r s le each body again h kb grows k w v p =
      rel_after (FlowPost base r) (FlowPost base s) (each w) (run n.context body v) (λ flow. after_turn flow again) (λ flow. behind_turn flow h) (kb.by w v p) (λ flow. turn_grows flow h grows)
      (by_flow base r (FlowPost base s) (λ flow. after_turn flow again) (λ flow. behind_turn flow h) (turn_step r s le again h k))

  no_more_turns : (s r : ℕ) (w : Tree) (v : Machine) → Side base [] r w v → Rel (FlowPost base s) (tree.too_many w) (acc.too_many v)
  no_more_turns s r w v h = ap (λ (o : Outside). o.outs) (sym h.outside)

  turns_keep : (s m : ℕ) (f : Does Tree Bool) (each : Does Tree Flow) (last : Does Tree (Unit {0})) (before body third : ItemList) → Keeps n (Side base [] (8 + s)) f before (Tested base s) → Keeps n (Side base [] (8 + s)) each body (FlowPost base (8 + s))
      → Keeps n (Side base [] (8 + s)) last third (Onward base (8 + s)) → (w : Tree) (v : Machine) → Side base [] (8 + s) w v → Rel (FlowPost base s) (tree.turns m f each last w) (turns m (run n.context before) (run n.context body) (run n.context third) v)
  turns_keep s zero f each last before body third kt kb kl w v h = asked_rel s s (omega arith) f before tree.too_many acc.too_many kt too_many_grows (λ w v p. no_more_turns s s w v p) w v h
  turns_keep s (suc m) f each last before body third kt kb kl w v h =
      let rest : Does Machine Flow = turns m (run n.context before) (run n.context body) (run n.context third) in
      let rest_grows : Grows rest = turns_grow m (run n.context before) (run n.context body) (run n.context third) (run_grows n before) (run_grows n body) (run_grows n third) in
      let again : Does Tree Flow = tree.turns m f each last in
      let behind_third : Does Machine Flow = run n.context third >>= λ flow. behind_part flow rest in
      let third_grows : Grows behind_third = bind_grows (run n.context third) (λ flow. behind_part flow rest) (run_grows n third) (λ flow. part_grows flow rest rest_grows) in
      asked_rel s s (omega arith) f before (tree.tick 14 >>= λ _. each >>= λ flow. after_turn flow (last >>= λ _. again)) (acc.tick 6 >>= λ _. run n.context body >>= λ flow. behind_turn flow behind_third) kt
      (bind_grows (acc.tick 6) (λ _. run n.context body >>= λ flow. behind_turn flow behind_third) (tick_grows 6) (λ _. bind_grows (run n.context body) (λ flow. behind_turn flow behind_third) (run_grows n body) (λ flow. turn_grows flow behind_third third_grows)))
      (λ w v p.
      turn_rel (8 + s) s (omega arith) each body (last >>= λ _. again) behind_third kb third_grows
      (λ w v p. rel_after (Onward base (8 + s)) (FlowPost base s) (last w) (run n.context third v) (λ _. again) (λ flow. behind_part flow rest) (kl.by w v p) (λ flow. part_grows flow rest rest_grows)
      (by_onward base (8 + s) (FlowPost base s) (λ _. again) (λ flow. behind_part flow rest) (λ _. turns_keep s m f each last before body third kt kb kl)))
      (record w { work = w.work + 14 }) (record v { work = v.work + 6 })
      (went base [] (14 + s) (8 + s) 6 (record w { work = w.work + 14 }) v (record v { work = v.work + 6 }) (paid base [] s 14 w v p) refl refl p.sxm (omega arith) (omega arith)))
      w v h

  -- the test stands behind each turn
  turns_first_keep : (s m : ℕ) (f : Does Tree Bool) (each : Does Tree Flow) (body third : ItemList) → Keeps n (Side base [] (8 + (8 + s))) f third (Tested base (8 + s)) → Keeps n (Side base [] (8 + (8 + s))) each body (FlowPost base (8 + (8 + s)))
      → (w : Tree) (v : Machine) → Side base [] (8 + s) w v → Rel (FlowPost base s) (tree.turns_first m each f w) (turns m (run n.context end) (run n.context body) (run n.context third) v)
  turns_first_keep s zero f each body third kt kb w v h = no_more_turns s (8 + s) w v h
  turns_first_keep s (suc m) f each body third kt kb w v h =
      let rest : Does Machine Flow = turns m (run n.context end) (run n.context body) (run n.context third) in
      let rest_grows : Grows rest = turns_grow m (run n.context end) (run n.context body) (run n.context third) (run_grows n end) (run_grows n body) (run_grows n third) in
      let again : Does Tree Flow = tree.turns_first m each f in
      let behind_third : Does Machine Flow = run n.context third >>= λ flow. behind_part flow rest in
      let third_grows : Grows behind_third = bind_grows (run n.context third) (λ flow. behind_part flow rest) (run_grows n third) (λ flow. part_grows flow rest rest_grows) in
      turn_rel (8 + (8 + s)) s (omega arith) each body (f >>= λ t. choose t again (give Next)) behind_third kb third_grows
      (asked_rel (8 + s) s (omega arith) f third again rest kt rest_grows (turns_first_keep s m f each body third kt kb))
      (record w { work = w.work + 14 }) (record v { work = v.work + 6 })
      (went base [] (14 + (8 + s)) (8 + (8 + s)) 6 (record w { work = w.work + 14 }) v (record v { work = v.work + 6 }) (paid base [] (8 + s) 14 w v h) refl refl h.sxm (omega arith) (omega arith))

  -- a loop as an item
  loop_item : (s : ℕ) (f : Does Tree Flow) (before body third : ItemList) (b : Bool) → ((w : Tree) (v : Machine) → Side base [] (8 + s) w v → Rel (FlowPost base s) (f w) (turns n.context.limit (run n.context before) (run n.context body) (run n.context third) v))
      → Keeps n (Side base [] (14 + s)) f (Loop before body third b ▸ end) (FlowPost base s)
  loop_item s f before body third b k = record {
    by = λ w v h.
        let u : Machine = without_scratch (record v { work = v.work + 6 }) in
        subst (Rel (FlowPost base s) (f w)) (last_item (run_item n.context (Loop before body third b) v))
        (rel_forget (FlowPost base s) (f w) (turns n.context.limit (run n.context before) (run n.context body) (run n.context third) u) (flow_stable base s)
        (k w u (went base [] (14 + s) (8 + s) 6 w v u h refl refl h.sxm (omega arith) (omega arith))));
  }

  pub loop_keeps : (f : Does Tree Bool) (each : Does Tree Flow) (last : Does Tree (Unit {0})) (before body third : ItemList) (b : Bool) → ((s : ℕ) → Keeps n (Side base [] (8 + s)) f before (Tested base s)) → ((s : ℕ) → Keeps n (Side base [] s) each body (FlowPost base s))
      → ((s : ℕ) → Keeps n (Side base [] s) last third (Onward base s)) → (s : ℕ) → Keeps n (Side base [] (14 + s)) (tree.turns n.context.limit f each last) (Loop before body third b ▸ end) (FlowPost base s)
  loop_keeps f each last before body third b kt kb kl s =
      loop_item s (tree.turns n.context.limit f each last) before body third b (turns_keep s n.context.limit f each last before body third (kt s) (kb (8 + s)) (kl (8 + s)))

  pub loop_first_keeps : (f : Does Tree Bool) (each : Does Tree Flow) (body third : ItemList) (b : Bool) → ((s : ℕ) → Keeps n (Side base [] (8 + s)) f third (Tested base s)) → ((s : ℕ) → Keeps n (Side base [] s) each body (FlowPost base s)) → (s : ℕ)
      → Keeps n (Side base [] (14 + s)) (tree.turns_first n.context.limit each f) (Loop end body third b ▸ end) (FlowPost base s)
  loop_first_keeps f each body third b kt kb s =
      loop_item s (tree.turns_first n.context.limit each f) end body third b (turns_first_keep s n.context.limit f each body third (kt (8 + s)) (kb (8 + (8 + s))))
