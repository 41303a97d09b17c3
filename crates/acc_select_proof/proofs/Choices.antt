-- Switches: both sides enter at the same label, whose number counts those before it.
use Rattle.std.proofs.Common.{◌≡◌, ℕ, suc, ◌+◌, ◌≤◌, Bool, true, false, [], Option, Some, None, refl, sym, ap, ◌∙◌, subst, ⊎_elim, arith}
use Rattle.std.specs.Prelude.{◌==◌, ◌||◌, cond}
use Rattle.std.proofs.lemmas.Bool.{cases_eq, eq-eqb, ne_eqb}
use Rattle.tree_code.specs.WordLabels.{has_word_case}
use Rattle.tree_code.specs.WordTree as code
use Rattle.tree_code.specs.WordTree.{ChoicesCode}
use Rattle.acc_code.specs.AccTree.{Switch, Case, ItemList, end, item, ◌▸◌, ◌⧺◌}
use Rattle.acc_code.specs.Emittable.{cases_in}
use Rattle.acc_select.specs.acc_operations.Words.{Word, loaded, high, clear_high}
use Rattle.acc_select.specs.Selected.{labels_of, choices_items}
use Rattle.ir_semantics.specs.Parts.{Res, Gives, Does, after, ◌>>=◌, choose, Flow, Next, Broke, Continued, Returned, behind_switch}
use Rattle.ir_semantics.specs.Outside.{Places}
use Rattle.ir_semantics.specs.TreeRun as tree
use Rattle.ir_semantics.specs.TreeRun.{Tree, Calls, label_weights}
use Rattle.ir_semantics.specs.AccRows.{Whole, whole_of}
use Rattle.ir_semantics.specs.AccRun.{Machine, Context, without_scratch, without_acc, value_label, default_label, or_else, labels_weight, entered_at, switched, run_item, run, run_from}
use Rattle.acc_select_proof.proofs.Rules.{Ground, Rel, Keeps, seq, rel_after, last_item, behind_switch_grows}
use Rattle.acc_select_proof.proofs.Sides.{Side, on, straight, went, spared, some_is}
use Rattle.acc_select_proof.proofs.Comparing.{cleared_high}
use Rattle.acc_select_proof.proofs.Valuing.{rel_forget, WordKeeps}
use Rattle.acc_select_proof.proofs.Flows.{FlowPost, without_word, flow_stable, by_flow, node, loaded_here}

-- items without a label directly among them are passed by
pub passed : (c : Context) (i : ℕ) (xs ys : ItemList) (v : Machine) → cases_in xs ≡ [] → run_from c i (xs ⧺ ys) v ≡ run_from c i ys v
passed c i end ys v h = refl
passed c i (item (Case k) xs) ys v h = absurd cc
passed c i (item x xs) ys v h = passed c i xs ys v h

-- how many labels
abbrev pub label_count : ChoicesCode → ℕ
label_count code.no_more = 0
label_count (code.case x rest) = 1 + label_count rest
label_count (code.default rest) = 1 + label_count rest
label_count (code.body s rest) = label_count rest

-- each label pays for its item
weights_are : (cs : ChoicesCode) → label_weights cs ≡ labels_weight (labels_of cs) + label_count cs
weights_are code.no_more = refl
weights_are (code.case x rest) = omega (arith, weights_are rest)
weights_are (code.default rest) = omega (arith, weights_are rest)
weights_are (code.body s rest) = weights_are rest

pub eq_turned : (a b : ℕ) → (a == b) ≡ (b == a)
eq_turned a b = ⊎_elim (λ e. eq-eqb a b e ∙ sym (eq-eqb b a (sym e))) (λ ne. ne_eqb a b ne ∙ sym (ne_eqb b a (λ e. ne (sym e)))) (cases_eq a b)

-- numbers of labels only grow
some_past : (b : Bool) (i j : ℕ) (o : Option ℕ) → (o ≡ Some j → suc i ≤ j) → cond b (Some i) o ≡ Some j → i ≤ j
some_past true i j o h e = omega (arith, some_is e)
some_past false i j o h e = omega (arith, h e)

pub value_past : (x : ℕ) (cs : ChoicesCode) (i j : ℕ) → value_label x (labels_of cs) i ≡ Some j → i ≤ j
value_past x code.no_more i j e = absurd cc
value_past x (code.case y rest) i j e = some_past (y == x) i j (value_label x (labels_of rest) (suc i)) (value_past x rest (suc i) j) e
value_past x (code.default rest) i j e = omega (arith, value_past x rest (suc i) j e)
value_past x (code.body s rest) i j e = value_past x rest i j e

pub default_past : (cs : ChoicesCode) (i j : ℕ) → default_label (labels_of cs) i ≡ Some j → i ≤ j
default_past code.no_more i j e = absurd cc
default_past (code.case y rest) i j e = omega (arith, default_past rest (suc i) j e)
default_past (code.default rest) i j e = omega (arith, some_is e)
default_past (code.body s rest) i j e = default_past rest i j e

-- a value has a label just where the tree has its case
there_by : (b : Bool) (i j : ℕ) (o : Option ℕ) (c : Bool) → (o ≡ Some j → c ≡ true) → cond b (Some i) o ≡ Some j → (b || c) ≡ true
there_by true i j o c h e = refl
there_by false i j o c h e = h e

case_there : (x : ℕ) (cs : ChoicesCode) (i j : ℕ) → value_label x (labels_of cs) i ≡ Some j → has_word_case x cs ≡ true
case_there x code.no_more i j e = absurd cc
case_there x (code.case y rest) i j e =
    ap (λ b. b || has_word_case x rest) (eq_turned x y) ∙ there_by (y == x) i j (value_label x (labels_of rest) (suc i)) (has_word_case x rest) (case_there x rest (suc i) j) e
case_there x (code.default rest) i j e = case_there x rest (suc i) j e
case_there x (code.body s rest) i j e = case_there x rest i j e

absent_by : (b : Bool) (i : ℕ) (o : Option ℕ) (c : Bool) → (o ≡ None → c ≡ false) → cond b (Some i) o ≡ None → (b || c) ≡ false
absent_by true i o c h e = absurd cc
absent_by false i o c h e = h e

case_absent : (x : ℕ) (cs : ChoicesCode) (i : ℕ) → value_label x (labels_of cs) i ≡ None → has_word_case x cs ≡ false
case_absent x code.no_more i e = refl
case_absent x (code.case y rest) i e =
    ap (λ b. b || has_word_case x rest) (eq_turned x y) ∙ absent_by (y == x) i (value_label x (labels_of rest) (suc i)) (has_word_case x rest) (case_absent x rest (suc i)) e
case_absent x (code.default rest) i e = case_absent x rest (suc i) e
case_absent x (code.body s rest) i e = case_absent x rest i e

module _ (n : Ground) (base : ℕ) (calls : Calls) (q : Places) where
  -- the statements of a switch, in a function of this context
  abbrev pub from_case : ℕ → ChoicesCode → Does Tree Flow
  from_case x cs = tree.from_case calls n.context.at q n.context.locals n.context.limit x cs

  abbrev pub from_default : ChoicesCode → Does Tree Flow
  from_default cs = tree.from_default calls n.context.at q n.context.locals n.context.limit cs

  abbrev pub all_from : ChoicesCode → Does Tree Flow
  all_from cs = tree.run_choices calls n.context.at q n.context.locals n.context.limit cs

  abbrev pub Items : ChoicesCode → ℕ → ItemList
  Items cs i = choices_items n.context.locals base cs i

  no_default : (cs : ChoicesCode) (i : ℕ) (w : Tree) → default_label (labels_of cs) i ≡ None → from_default cs w ≡ Gives Next w
  no_default code.no_more i w e = refl
  no_default (code.case y rest) i w e = no_default rest (suc i) w e
  no_default (code.default rest) i w e = absurd cc
  no_default (code.body s rest) i w e = no_default rest i w e

  -- a break leaves the switch alone
  switch_step : (s : ℕ) (a : Flow) (w : Tree) (v : Machine) → FlowPost base s a a w v → Rel (FlowPost base s) (behind_switch a w) (behind_switch a v)
  switch_step s Next w v p = p
  switch_step s Broke w v p = without_word base s Next w v (λ e. absurd cc) p.side
  switch_step s Continued w v p = p
  switch_step s Returned w v p = p

  left_switch : (s : ℕ) (x : Res Tree Flow) (y : Res Machine Flow) → Rel (FlowPost base s) x y → Rel (FlowPost base s) (after x behind_switch) (after y behind_switch)
  left_switch s x y h = rel_after (FlowPost base s) (FlowPost base s) x y behind_switch behind_switch h behind_switch_grows (by_flow base s (FlowPost base s) behind_switch behind_switch (switch_step s))

  -- a label that is reached, or passed by
  reached : (s i j : ℕ) (b : Bool) (o : Option ℕ) (f g : Does Tree Flow) (hit miss : Does Machine Flow) (w : Tree) (v : Machine) → cond b (Some i) o ≡ Some j → (o ≡ Some j → suc i ≤ j) → Rel (FlowPost base s) (f w) (hit v)
      → (o ≡ Some j → Rel (FlowPost base s) (g w) (miss v)) → Rel (FlowPost base s) (choose b f g w) (choose (i == j) hit miss v)
  reached s i j true o f g hit miss w v e le x y = subst (λ b. Rel (FlowPost base s) (f w) (choose b hit miss v)) (sym (eq-eqb i j (some_is e))) x
  reached s i j false o f g hit miss w v e le x y = subst (λ b. Rel (FlowPost base s) (g w) (choose b hit miss v)) (sym (ne_eqb i j (λ q. omega (arith, le e, q)))) (y e)

  -- t is what the tree asks, and b what the machine does: behind the label all statements follow, else g does what a later label is for
  pub label_by : (s i j : ℕ) (b t : Bool) → b ≡ t → (o : Option ℕ) (rest : ChoicesCode) (g : Does Tree Flow) (w : Tree) (v : Machine) → cond b (Some i) o ≡ Some j → (o ≡ Some j → suc i ≤ j)
      → Rel (FlowPost base s) (all_from rest w) (run n.context (Items rest (suc i)) v) → (o ≡ Some j → Rel (FlowPost base s) (g w) (run_from n.context j (Items rest (suc i)) v))
      → Rel (FlowPost base s) (choose t (all_from rest) g w) (choose (i == j) (run n.context (Items rest (suc i))) (run_from n.context j (Items rest (suc i))) v)
  label_by s i j b t same o rest g w v e le x y =
      subst (λ c. Rel (FlowPost base s) (choose c (all_from rest) g w) (choose (i == j) (run n.context (Items rest (suc i))) (run_from n.context j (Items rest (suc i))) v)) same
      (reached s i j b o (all_from rest) g (run n.context (Items rest (suc i))) (run_from n.context j (Items rest (suc i))) w v e le x y)

  -- what is to be known of entering at a case and at the default
  abbrev pub EntersCase : ℕ → ℕ → ChoicesCode → ℕ → Type 0
  EntersCase s r cs i = (x j : ℕ) → value_label x (labels_of cs) i ≡ Some j → (w : Tree) (v : Machine) → Side base [] r w v → Rel (FlowPost base s) (from_case x cs w) (run_from n.context j (Items cs i) v)

  abbrev pub EntersDefault : ℕ → ℕ → ChoicesCode → ℕ → Type 0
  EntersDefault s r cs i = (j : ℕ) → default_label (labels_of cs) i ≡ Some j → (w : Tree) (v : Machine) → Side base [] r w v → Rel (FlowPost base s) (from_default cs w) (run_from n.context j (Items cs i) v)

  -- the statements that are entered for a value
  abbrev pub entered : ℕ → ChoicesCode → Does Tree Flow
  entered x cs = choose (has_word_case x cs) (from_case x cs) (from_default cs) >>= behind_switch

  enter_keeps : (r s x : ℕ) → s ≤ r → (cs : ChoicesCode) (w : Tree) (v : Machine) (o p : Option ℕ) → value_label x (labels_of cs) 0 ≡ o → default_label (labels_of cs) 0 ≡ p → Side base [] r w v → EntersCase s r cs 0 → EntersDefault s r cs 0
      → Rel (FlowPost base s) (entered x cs w) (entered_at (λ i. run_from n.context i (Items cs 0)) (or_else o p) v)
  enter_keeps r s x le cs w v (Some j) p e d h kc kd =
      subst (λ b. Rel (FlowPost base s) (after (choose b (from_case x cs) (from_default cs) w) behind_switch) (after (run_from n.context j (Items cs 0) v) behind_switch)) (sym (case_there x cs 0 j e))
      (left_switch s (from_case x cs w) (run_from n.context j (Items cs 0) v) (kc x j e w v h))
  enter_keeps r s x le cs w v None (Some j) e d h kc kd =
      subst (λ b. Rel (FlowPost base s) (after (choose b (from_case x cs) (from_default cs) w) behind_switch) (after (run_from n.context j (Items cs 0) v) behind_switch)) (sym (case_absent x cs 0 e))
      (left_switch s (from_default cs w) (run_from n.context j (Items cs 0) v) (kd j d w v h))
  enter_keeps r s x le cs w v None None e d h kc kd =
      subst (λ b. Rel (FlowPost base s) (after (choose b (from_case x cs) (from_default cs) w) behind_switch) (Gives Next v)) (sym (case_absent x cs 0 e))
      (subst (λ z. Rel (FlowPost base s) (after z behind_switch) (Gives Next v)) (sym (no_default cs 0 w d)) (without_word base s Next w v (λ e. absurd cc) (spared base [] r s w v h le)))

  pub switch_keeps : (f : Does Tree ℕ) (c : ℕ → Word) → WordKeeps n base f c → (s : ℕ) (cs : ChoicesCode) → EntersCase s (label_count cs + s) cs 0 → EntersDefault s (label_count cs + s) cs 0
      → Keeps n (Side base [] s) (tree.tick (8 + label_weights cs) >>= λ _. f >>= λ x. entered x cs) (loaded (c base) ⧺ clear_high (high (c base).found) ⧺ Switch (labels_of cs) (Items cs 0) ▸ end) (FlowPost base s)
  switch_keeps f c k s cs kc kd = node n base (8 + label_weights cs) s (8 + (label_weights cs + s)) (omega arith) (seq n (loaded_here n base f c k (8 + (label_weights cs + s))) (λ x. record {
    by = λ w v p.
        let labels = labels_of cs in
        let z = cleared_high n.context (high (c base).found) x v p.has p.side.sxm p.word in
        let h = straight base n [] (8 + (label_weights cs + s)) (6 + (label_weights cs + s)) 2 w v (clear_high (high (c base).found)) (λ u. u.registers.acc ≡ Whole x) p.side z (omega arith) in
        let u : Machine = without_scratch (record z.to { work = z.to.work + (4 + labels_weight labels) }) in
        let from : ℕ → Does Machine Flow = λ i. run_from n.context i (Items cs 0) in
        on n (FlowPost base s) (entered x cs w) (clear_high (high (c base).found)) (Switch labels (Items cs 0) ▸ end) v 2 (λ u. u.registers.acc ≡ Whole x) z
        (subst (Rel (FlowPost base s) (entered x cs w)) (last_item (run_item n.context (Switch labels (Items cs 0)) z.to))
        (rel_forget (FlowPost base s) (entered x cs w) (switched labels from (whole_of z.to.registers.acc) u) (flow_stable base s)
        (subst (λ a. Rel (FlowPost base s) (entered x cs w) (switched labels from (whole_of a) u)) (sym z.then_so)
        (enter_keeps (label_count cs + s) s x (omega arith) cs w (without_acc u) (value_label x labels 0) (default_label labels 0) refl refl
        (went base [] (6 + (label_weights cs + s)) (label_count cs + s) (4 + labels_weight labels) w z.to (without_acc u) h refl refl h.sxm (omega arith) (omega (arith, weights_are cs))) kc kd))));
  }))
