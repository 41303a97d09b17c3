-- The items of each statement keep what it does.
use Rattle.std.proofs.Common.{Bool, ◌≡◌, ℕ, suc, ◌+◌, ◌≤◌, true, false, [], Option, Some, None, refl, sym, ◌∙◌, subst, arith}
use Rattle.std.specs.Prelude.{◌==◌, slice_get}
use Rattle.tree_code.specs.WordTree as code
use Rattle.tree_code.specs.WordTree.{ExprCode, StmtCode, StmtsCode, ChoicesCode}
use Rattle.acc_code.specs.AccTree.{ItemList, end}
use Rattle.acc_select.proofs.acc_operations.ItemLemmas.{no_items_behind}
use Rattle.acc_select.specs.Conditions.{part_items}
use Rattle.acc_select.specs.Selected.{code_of, test_items, optional_test, optional_effect, labels_of, part_of, statement_items, statements_items}
use Rattle.ir_semantics.specs.Parts.{Does, give, Flow, Next}
use Rattle.ir_semantics.specs.Outside.{Places}
use Rattle.ir_semantics.specs.TreeRun as tree
use Rattle.ir_semantics.specs.TreeRun.{Tree, Calls, decide, value, effect, exec, exec_all}
use Rattle.ir_semantics.specs.AccRun.{Machine, without_scratch, value_label, default_label}
use Rattle.acc_select_proof.specs.FitStatements.{IsFitOptional, IsFitStatement, AreFitStatements, AreFitChoices}
use Rattle.acc_select_proof.proofs.Rules.{Ground, Rel, Keeps, seq}
use Rattle.acc_select_proof.proofs.Sides.{Side, went, spared}
use Rattle.acc_select_proof.proofs.Valuing.{CodeKeeps}
use Rattle.acc_select_proof.proofs.Flows.{FlowPost, without_word, flow_stable, Onward, node, next, nothing_keeps, branch_here, effect_here, expression_keeps, break_keeps, continue_keeps, return_keeps, return_word_keeps}
use Rattle.acc_select_proof.proofs.Loops.{Tested, test_keeps, loop_keeps, loop_first_keeps}
use Rattle.acc_select_proof.proofs.Choices as choices
use Rattle.acc_select_proof.proofs.Choices.{passed, label_count, value_past, default_past, from_case, from_default, all_from, label_by, eq_turned, EntersCase, EntersDefault, switch_keeps}
use Rattle.acc_select_proof.proofs.Filling.{fill_keeps}
use Rattle.acc_select_proof.proofs.Unlabelled.{statement_none}

module _ (n : Ground) (base : ℕ) (calls : Calls) (q : Places) (IsFit : ExprCode → Type 0)
    (code_keeps : (e : ExprCode) → IsFit e → CodeKeeps n base (decide calls n.context.at e) (value calls n.context.at e) (effect calls n.context.at e) (code_of e)) where
  -- in this function
  abbrev Items : StmtCode → ItemList
  Items a = statement_items n.context.locals base a

  abbrev Runs : StmtCode → Does Tree Flow
  Runs a = exec calls n.context.at q n.context.locals n.context.limit a

  abbrev IsFitHere : StmtCode → Type 0
  IsFitHere a = IsFitStatement IsFit n.context.at q n.context.locals a

  abbrev AreFitHere : ChoicesCode → Type 0
  AreFitHere cs = AreFitChoices IsFit n.context.at q n.context.locals cs

  abbrev Runs_all : StmtsCode → Does Tree Flow
  Runs_all ss = exec_all calls n.context.at q n.context.locals n.context.limit ss

  abbrev Optional_effect : Option ExprCode → Does Tree (Unit {0})
  Optional_effect e = tree.optional_effect calls n.context.at q n.context.locals n.context.limit e

  abbrev Optional_test : Option ExprCode → Does Tree Bool
  Optional_test e = tree.optional_test calls n.context.at q n.context.locals n.context.limit e

  abbrev IsFitOption : Option ExprCode → Type 0
  IsFitOption e = IsFitOptional IsFit n.context.at q n.context.locals e

  -- a part has the items of its statement
  part_same : (a : StmtCode) (xs : ItemList) → xs ≡ Items a → part_items (part_of a xs) ≡ Items a
  part_same code.Break xs is = refl
  part_same code.Continue xs is = refl
  part_same (code.Block declared code.done) xs is = refl
  part_same (code.Block declared (code.both a code.done)) xs is = part_same a xs (is ∙ no_items_behind (Items a)) ∙ sym (no_items_behind (Items a))
  part_same a xs is = is

  part_keeps : (a : StmtCode) (s : ℕ) → Keeps n (Side base [] s) (Runs a) (Items a) (FlowPost base s) → Keeps n (Side base [] s) (Runs a) (part_items (part_of a (Items a))) (FlowPost base s)
  part_keeps a s k = subst (λ xs. Keeps n (Side base [] s) (Runs a) xs (FlowPost base s)) (sym (part_same a (Items a) refl)) k

  -- parts of `for` that may not be there
  optional_effect_keeps : (e : Option ExprCode) → IsFitOption e → (s : ℕ) → Keeps n (Side base [] s) (Optional_effect e) (optional_effect e base) (Onward base s)
  optional_effect_keeps None fits s = record { by = λ w v h. h }
  optional_effect_keeps (Some e) fits s = effect_here n base (effect calls n.context.at e) (λ t. (code_of e t).effect) (code_keeps e fits).effect_too s

  test_of_keeps : (e : ExprCode) → IsFit e → (s : ℕ) → Keeps n (Side base [] (8 + s)) (decide calls n.context.at e) (test_items e base) (Tested base s)
  test_of_keeps e fits s = test_keeps n base calls e (code_keeps e fits).branch s

  optional_test_keeps : (e : Option ExprCode) → IsFitOption e → (s : ℕ) → Keeps n (Side base [] (8 + s)) (Optional_test e) (optional_test e base) (Tested base s)
  optional_test_keeps None fits s = record { by = λ w v h. record { same = refl; side = spared base [] (8 + s) s w v h (omega arith) } }
  optional_test_keeps (Some e) fits s = test_of_keeps e fits s

  -- a label is passed in a run
  label_passed : (r s : ℕ) → 1 + s ≤ r → (w : Tree) (v : Machine) → Side base [] r w v → Side base [] s w (without_scratch (record v { work = v.work + 1 }))
  label_passed r s le w v h = went base [] r s 1 w v (without_scratch (record v { work = v.work + 1 })) h refl refl h.sxm (omega arith) le

  mutual
    pub statement_keeps : (a : StmtCode) → IsFitHere a → (s : ℕ) → Keeps n (Side base [] s) (Runs a) (Items a) (FlowPost base s)
    statement_keeps (code.Block declared ss) fits s = node n base 1 s s (omega arith) (statements_keep ss fits s)
    statement_keeps (code.Fill k) fits s = fill_keeps n base q k (slice_get n.context.locals k) refl fits s
    statement_keeps (code.Do_expr e) fits s = expression_keeps n base (effect calls n.context.at e) (λ t. (code_of e t).effect) (code_keeps e fits).effect_too s
    statement_keeps (code.If e a b) fits s =
        node n base 6 s (6 + s) (omega arith)
        (branch_here n base (decide calls n.context.at e) (λ t. (code_of e t).branch) (code_keeps e fits.0).branch (6 + s) s (omega arith) (part_of a (Items a)) (part_of b (Items b)) (Runs a) (Runs b) (FlowPost base s) (flow_stable base s)
        (part_keeps a s (statement_keeps a fits.1 s)) (part_keeps b s (statement_keeps b fits.2 s)))
    statement_keeps (code.While e a) fits s =
        node n base 14 s (14 + s) (omega arith)
        (loop_keeps n base (decide calls n.context.at e) (Runs a) (give tt) (test_items e base) (Items a) end false (test_of_keeps e fits.0) (statement_keeps a fits.1) (λ s. record { by = λ w v h. h }) s)
    statement_keeps (code.Do_while a e) fits s =
        node n base 14 s (14 + s) (omega arith) (loop_first_keeps n base (decide calls n.context.at e) (Runs a) (Items a) (test_items e base) true (test_of_keeps e fits.1) (statement_keeps a fits.0) s)
    statement_keeps (code.For x y z a) fits s =
        node n base 14 s (14 + s) (omega arith) (seq n (optional_effect_keeps x fits.0 (14 + s)) (λ _.
        loop_keeps n base (Optional_test y) (Runs a) (Optional_effect z) (optional_test y base) (Items a) (optional_effect z base) false
        (optional_test_keeps y fits.1) (statement_keeps a fits.3) (optional_effect_keeps z fits.2) s))
    statement_keeps (code.Switch e cs) fits s =
        switch_keeps n base calls q (value calls n.context.at e) (λ t. (code_of e t).word) (code_keeps e fits.0).word s cs
        (cases_keep cs fits.1 s 0 (label_count cs + s) (omega arith)) (defaults_keep cs fits.1 s 0 (label_count cs + s) (omega arith))
    statement_keeps code.Break fits s = break_keeps n base s
    statement_keeps code.Continue fits s = continue_keeps n base s
    statement_keeps (code.Return None) fits s = return_keeps n base s
    statement_keeps (code.Return (Some e)) fits s = return_word_keeps n base (value calls n.context.at e) (λ t. (code_of e t).word) (code_keeps e fits).word s

    pub statements_keep : (ss : StmtsCode) → AreFitStatements IsFit n.context.at q n.context.locals ss → (s : ℕ)
        → Keeps n (Side base [] s) (Runs_all ss) (statements_items n.context.locals base ss) (FlowPost base s)
    statements_keep code.done fits s = nothing_keeps n base s
    statements_keep (code.both a rest) fits s =
        next n base s s (omega arith) (Runs a) (Runs_all rest) (Items a) (statements_items n.context.locals base rest) (statement_keeps a fits.0 s) (statements_keep rest fits.1 s)

    -- all statements of a switch, past the labels
    choices_keep : (cs : ChoicesCode) → AreFitHere cs → (s i r : ℕ) → label_count cs + s ≤ r → Keeps n (Side base [] r) (all_from n base calls q cs) (choices.Items n base calls q cs i) (FlowPost base s)
    choices_keep code.no_more fits s i r le = record { by = λ w v h. without_word base s Next w v (λ e. absurd cc) (spared base [] r s w v h (omega (arith, le))) }
    choices_keep (code.case y rest) fits s i r le = record {
      by = λ w v h. (choices_keep rest fits s (suc i) (label_count rest + s) (omega arith)).by w (without_scratch (record v { work = v.work + 1 })) (label_passed r (label_count rest + s) (omega (arith, le)) w v h);
    }
    choices_keep (code.default rest) fits s i r le = record {
      by = λ w v h. (choices_keep rest fits s (suc i) (label_count rest + s) (omega arith)).by w (without_scratch (record v { work = v.work + 1 })) (label_passed r (label_count rest + s) (omega (arith, le)) w v h);
    }
    choices_keep (code.body a rest) fits s i r le =
        next n base r s (omega (arith, le)) (Runs a) (all_from n base calls q rest) (Items a) (choices.Items n base calls q rest i) (statement_keeps a fits.0 r) (choices_keep rest fits.1 s i r le)

    -- those from a case on
    cases_keep : (cs : ChoicesCode) → AreFitHere cs → (s i r : ℕ) → label_count cs + s ≤ r → EntersCase n base calls q s r cs i
    cases_keep code.no_more fits s i r le x j e w v h = absurd cc
    cases_keep (code.case y rest) fits s i r le x j e w v h =
        label_by n base calls q s i j (y == x) (x == y) (eq_turned y x) (value_label x (labels_of rest) (suc i)) rest (from_case n base calls q x rest) w v e (value_past x rest (suc i) j)
        ((choices_keep rest fits s (suc i) r (omega (arith, le))).by w v h) (λ e. cases_keep rest fits s (suc i) r (omega (arith, le)) x j e w v h)
    cases_keep (code.default rest) fits s i r le x j e w v h =
        label_by n base calls q s i j false false refl (value_label x (labels_of rest) (suc i)) rest (from_case n base calls q x rest) w v e (value_past x rest (suc i) j)
        ((choices_keep rest fits s (suc i) r (omega (arith, le))).by w v h) (λ e. cases_keep rest fits s (suc i) r (omega (arith, le)) x j e w v h)
    cases_keep (code.body a rest) fits s i r le x j e w v h =
        subst (Rel (FlowPost base s) (from_case n base calls q x rest w)) (sym (passed n.context j (Items a) (choices.Items n base calls q rest i) v (statement_none n.context.locals base a).none))
        (cases_keep rest fits.1 s i r le x j e w v h)

    -- those from the default on
    defaults_keep : (cs : ChoicesCode) → AreFitHere cs → (s i r : ℕ) → label_count cs + s ≤ r → EntersDefault n base calls q s r cs i
    defaults_keep code.no_more fits s i r le j e w v h = absurd cc
    defaults_keep (code.case y rest) fits s i r le j e w v h =
        label_by n base calls q s i j false false refl (default_label (labels_of rest) (suc i)) rest (from_default n base calls q rest) w v e (default_past rest (suc i) j)
        ((choices_keep rest fits s (suc i) r (omega (arith, le))).by w v h) (λ e. defaults_keep rest fits s (suc i) r (omega (arith, le)) j e w v h)
    defaults_keep (code.default rest) fits s i r le j e w v h =
        label_by n base calls q s i j true true refl None rest (from_default n base calls q rest) w v e (λ e. absurd cc) ((choices_keep rest fits s (suc i) r (omega (arith, le))).by w v h) (λ e. absurd cc)
    defaults_keep (code.body a rest) fits s i r le j e w v h =
        subst (Rel (FlowPost base s) (from_default n base calls q rest w)) (sym (passed n.context j (Items a) (choices.Items n base calls q rest i) v (statement_none n.context.locals base a).none))
        (defaults_keep rest fits.1 s i r le j e w v h)
