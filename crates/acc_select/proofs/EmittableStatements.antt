-- Emission takes the items of statements that are ready for it.
use Rattle.std.proofs.Common.{◌≡◌, refl, ap, ◌∙◌, ℕ, suc, ◌+◌, Bool, true, false, List, [], ◌∷◌, length, ◌≤◌, arith, Option, Some, None}
use Rattle.std.specs.Prelude.{⊤, ◌≢◌, ◌==◌, slice_get, AllPairs}
use Rattle.std.specs.List.{AllByRecursion}
use Rattle.std.proofs.lemmas.Bool.{both_ways, eq-eqb, or_parts}
use Rattle.std.proofs.lemmas.List.Elements.{All-from_recursion}
use Rattle.std.proofs.lemmas.List.Kept.{AllPairs-cons}
use Rattle.c_tree.specs.TypedTree.{ObjectTree}
use Rattle.c_tree.specs.declared.program.Initial.{Initial}
use Rattle.c_tree.specs.declared.program.VarRef.TheVariants.{Local}
use Rattle.tree_code.specs.WordTree as tree
use Rattle.tree_code.specs.WordTree.{ExprCode, Node, StmtCode, StmtsCode, ChoicesCode}
use Rattle.tree_code.specs.WordLabels.{has_word_case, has_word_default, repeats_word_label}
use Rattle.tree_code.specs.WordTemporaries.{word_temporaries, optional_word_temporaries, word_statement_temporaries, word_statements_temporaries, word_choices_temporaries}
use Rattle.acc_code.specs.AccTree.{Op, Loop, Switch, Case, Helper, Break, Return, ItemList, end, item, ◌▸◌, ◌⧺◌}
use Rattle.acc_code.specs.Emittable as emitted
use Rattle.acc_code.specs.Emittable.{Stored, nothing_stored, cases_in, counting}
use Rattle.acc_code.specs.declared.item.CaseLabel.{CaseLabel}
use Rattle.acc_code.specs.declared.item.CaseLabel.TheVariants.{Value, Default}
use Rattle.acc_code.specs.declared.operand.AccOperand.TheVariants as operand
use Rattle.acc_select.specs.Conditions as condition
use Rattle.acc_select.specs.Conditions.{Part}
use Rattle.acc_operations.specs.Constants.{initial_constant}
use Rattle.acc_select.specs.Selected.{code_of, optional_effect, test_items, optional_test, labels_of, cell_items, fill_items, part_of, statement_items, statements_items, choices_items}
use Rattle.acc_operations.specs.Words.{high}
use Rattle.acc_operations.specs.declared.constant.Constant.TheVariants.{Address}
use Rattle.acc_select.proofs.EmittableRuns.{Frame, Place, inside, Has, Passes, passes_joined, Steps, both, nothing_done, either, pointed_written}
use Rattle.acc_select.proofs.EmittableWords.{RightConstant, constant_step, sacl_step, clear_step, loaded_right}
use Rattle.acc_select.proofs.EmittableForms.{RightPart, runs_right, nothing_right, point_first}
use Rattle.acc_select.proofs.EmittableExpressions.{Ready, left_room, right_room, right_code}

module _ (F : Frame) where
  -- the cells of an object from one on
  abbrev pub ReadyFill : ℕ → Option ObjectTree → Type 0
  ReadyFill n None = ⊤
  ReadyFill n (Some o) = AllByRecursion (λ x. RightConstant F (initial_constant x)) o.initial × Place F (operand.Address (Local n) (length o.initial))

  abbrev pub ReadyOptional : Option ExprCode → Type 0
  ReadyOptional None = ⊤
  ReadyOptional (Some e) = Ready F e

  -- statements whose expressions are ready, whose labels differ, and whose jumps have something to leave
  module _ (locals : List ObjectTree) where
    abbrev mutual
      pub ReadyStatement : Bool → Bool → StmtCode → Type 0
      ReadyStatement b c (tree.Block declared ss) = ReadyStatements b c ss
      ReadyStatement b c (tree.Fill n) = ReadyFill n (slice_get locals n)
      ReadyStatement b c (tree.Do_expr e) = Ready F e
      ReadyStatement b c (tree.If e x y) = Ready F e × ReadyStatement b c x × ReadyStatement b c y
      ReadyStatement b c (tree.While e x) = Ready F e × ReadyStatement true true x
      ReadyStatement b c (tree.Do_while x e) = ReadyStatement true true x × Ready F e
      ReadyStatement b c (tree.For d e f x) = ReadyOptional d × ReadyOptional e × ReadyOptional f × ReadyStatement true true x
      ReadyStatement b c (tree.Switch e cs) = Ready F e × (repeats_word_label cs ≡ false) × ReadyChoices true c cs
      ReadyStatement b c tree.Break = b ≡ true
      ReadyStatement b c tree.Continue = c ≡ true
      ReadyStatement b c (tree.Return e) = ReadyOptional e

      pub ReadyStatements : Bool → Bool → StmtsCode → Type 0
      ReadyStatements b c tree.done = ⊤
      ReadyStatements b c (tree.both s rest) = ReadyStatement b c s × ReadyStatements b c rest

      pub ReadyChoices : Bool → Bool → ChoicesCode → Type 0
      ReadyChoices b c tree.no_more = ⊤
      ReadyChoices b c (tree.case w rest) = ReadyChoices b c rest
      ReadyChoices b c (tree.default rest) = ReadyChoices b c rest
      ReadyChoices b c (tree.body s rest) = ReadyStatement b c s × ReadyChoices b c rest

-- labels that differ
other_values : (w : ℕ) (cs : ChoicesCode) → has_word_case w cs ≡ false → AllByRecursion (λ k. Value w ≢ k) (labels_of cs)
other_values w tree.no_more is = tt
other_values w (tree.case v rest) is =
    let parts = or_parts (w == v) (has_word_case w rest) is in ((λ same. both_ways (w == v) parts.0 (eq-eqb w v (cc same))), other_values w rest parts.1)
other_values w (tree.default rest) is = ((λ same. absurd (cc same)), other_values w rest is)
other_values w (tree.body s rest) is = other_values w rest is

no_default : (cs : ChoicesCode) → has_word_default cs ≡ false → AllByRecursion (λ k. Default ≢ k) (labels_of cs)
no_default tree.no_more is = tt
no_default (tree.case v rest) is = ((λ same. absurd (cc same)), no_default rest is)
no_default (tree.default rest) is = absurd (cc is)
no_default (tree.body s rest) is = no_default rest is

labels_differ : (cs : ChoicesCode) → repeats_word_label cs ≡ false → AllPairs (λ k m. k ≢ m) (labels_of cs)
labels_differ tree.no_more is = λ i j d lt within. absurd (omega arith)
labels_differ (tree.case w rest) is =
    let parts = or_parts (has_word_case w rest) (repeats_word_label rest) is in
    AllPairs-cons (λ k m. k ≢ m) (Value w) (labels_of rest) (All-from_recursion (λ k. Value w ≢ k) (labels_of rest) (other_values w rest parts.0)) (labels_differ rest parts.1)
labels_differ (tree.default rest) is =
    let parts = or_parts (has_word_default rest) (repeats_word_label rest) is in
    AllPairs-cons (λ k m. k ≢ m) Default (labels_of rest) (All-from_recursion (λ k. Default ≢ k) (labels_of rest) (no_default rest parts.0)) (labels_differ rest parts.1)
labels_differ (tree.body s rest) is = labels_differ rest is

-- items without labels before others
cases_behind : (F : Frame) (xs ys : ItemList) (w : Stored) (Q : Stored → Type 0) → Passes F false w xs Q → cases_in (xs ⧺ ys) ≡ cases_in ys
cases_behind F end ys w Q h = refl
cases_behind F (item (Op o m) xs) ys w Q h = cases_behind F xs ys _ Q h.2
cases_behind F (item (Helper name) xs) ys w Q h = cases_behind F xs ys _ Q h.3
cases_behind F (item (Case n) xs) ys w Q h = absurd (cc h.0)
cases_behind F (item x xs) ys w Q h = cases_behind F xs ys _ Q h.1

-- cells of lists
fewer_cells : (F : Frame) (n i k : ℕ) → i ≤ k → Place F (operand.Address (Local n) k) → Place F (operand.Address (Local n) i)
fewer_cells F n i k le there = (tt, fewer (F.cells (Local n)) there.1)
  where
    fewer : (cells : Option ℕ) → emitted.AtMostCells F.scalars F.cells F.parameters F.helps k cells → emitted.AtMostCells F.scalars F.cells F.parameters F.helps i cells
    fewer None h = h
    fewer (Some m) h = omega arith

cells_right : (F : Frame) (b c : Bool) (n i k : ℕ) (xs : List Initial) → i + length xs ≡ k → Place F (operand.Address (Local n) k)
    → AllByRecursion (λ x. RightConstant F (initial_constant x)) xs → Steps (inside F b c) [] (cell_items n i xs) []
cells_right F b c n i k [] is there each =
    let from : Place F (operand.Address (Local n) i) = fewer_cells F n i k (omega (arith, is)) there in
    record { at = λ l w p. ((tt, from.0, from.1), tt) }
cells_right F b c n i k (x ∷ xs) is there each =
    constant_step (Address (Local n) i) (fewer_cells F n i k (omega (arith, is)) there)
    (point_first (constant_step (initial_constant x) each.0 (sacl_step pointed_written (cells_right F b c n (suc i) k xs (omega (arith, is)) there each.1))))

fill_right : (F : Frame) (b c : Bool) (n : ℕ) (o : Option ObjectTree) → ReadyFill F n o → Steps (inside F b c) [] (fill_items n o) []
fill_right F b c n None ready = nothing_done
fill_right F b c n (Some o) ready = cells_right F b c n 0 (length o.initial) o.initial (omega arith) ready.1 ready.0

-- parts that jump
breaks_right : (F : Frame) → F.breaks ≡ true → RightPart F condition.Breaks
breaks_right F is = record { at = (is, tt) }

continues_right : (F : Frame) → F.continues ≡ true → RightPart F condition.Continues
continues_right F is = record { at = (is, tt) }

break_step : (F : Frame) → F.breaks ≡ true → Steps F [] (Break ▸ end) []
break_step F is = record { at = λ l w p. (is, tt) }

pub return_step : (F : Frame) → Steps F [] (Return ▸ end) []
return_step F = record { at = λ l w p. (tt, tt) }

loop_step : (F : Frame) (b c : Bool) (before body behind : ItemList) (last : Bool) → Steps (inside F true false) [] before [] → Steps (inside F true true) [] body []
    → Steps (inside F true false) [] behind [] → Steps (inside F b c) [] (Loop before body behind last ▸ end) []
loop_step F b c before body behind last first turn third =
    record { at = λ l w p. ((first.at false nothing_stored tt, turn.at false nothing_stored tt, third.at false nothing_stored tt), tt) }

switch_step : (F : Frame) (b c : Bool) (labels : List CaseLabel) (body : ItemList) → AllPairs (λ k m. k ≢ m) labels → cases_in body ≡ counting 0 (length labels)
    → Passes (inside F true c) true nothing_stored body (Has []) → Steps (inside F b c) [] (Switch labels body ▸ end) []
switch_step F b c labels body differ counted passes = record { at = λ l w p. ((differ, counted, passes), tt) }

module _ (F : Frame) (locals : List ObjectTree) (t : ℕ) where
  effect_right : (b c : Bool) (e : ExprCode) → Ready F e → t + word_temporaries e ≤ F.scalars → Steps (inside F b c) [] (code_of e t).effect []
  effect_right b c e ready room = (right_code F b c e ready t room).effect

  optional_right : (b c : Bool) (e : Option ExprCode) → ReadyOptional F e → t + optional_word_temporaries e ≤ F.scalars → Steps (inside F b c) [] (optional_effect e t) []
  optional_right b c None ready room = nothing_done
  optional_right b c (Some e) ready room = effect_right b c e ready room

  asked_right : (e : ExprCode) → Ready F e → t + word_temporaries e ≤ F.scalars
      → Steps (inside F true false) [] ((code_of e t).branch true condition.Nothing condition.Breaks) []
  asked_right e ready room = (right_code F true false e ready t room).branch.at true condition.Nothing condition.Breaks nothing_right (breaks_right (inside F true false) refl)

  test_right : (e : ExprCode) → Ready F e → t + word_temporaries e ≤ F.scalars → Steps (inside F true false) [] (test_items e t) []
  test_right (Node (tree.Const w) at) ready room = either (w == 0) (λ is. break_step (inside F true false) refl) (λ is. nothing_done)
  test_right e ready room = asked_right e ready room

  optional_test_right : (e : Option ExprCode) → ReadyOptional F e → t + optional_word_temporaries e ≤ F.scalars → Steps (inside F true false) [] (optional_test e t) []
  optional_test_right None ready room = nothing_done
  optional_test_right (Some e) ready room = test_right e ready room

  -- where the statement's jumps have something to leave, its part has too
  part_right : (b c : Bool) (s : StmtCode) (xs : ItemList) → ReadyStatement F locals b c s → Steps (inside F b c) [] xs [] → RightPart (inside F b c) (part_of s xs)
  part_right b c tree.Break xs ready h = breaks_right (inside F b c) ready
  part_right b c tree.Continue xs ready h = continues_right (inside F b c) ready
  part_right b c (tree.Block declared tree.done) xs ready h = nothing_right
  part_right b c (tree.Block declared (tree.both s tree.done)) xs ready h = part_right b c s xs ready.0 h
  part_right b c s xs ready h = runs_right h

  abbrev Items : StmtCode → ItemList
  Items s = statement_items locals t s

  mutual
    pub right_statement : (s : StmtCode) (b c : Bool) → ReadyStatement F locals b c s → t + word_statement_temporaries s ≤ F.scalars
        → Steps (inside F b c) [] (statement_items locals t s) []
    right_statement (tree.Block declared ss) b c ready room = right_statements ss b c ready room
    right_statement (tree.Fill n) b c ready room = fill_right F b c n (slice_get locals n) ready
    right_statement (tree.Do_expr e) b c ready room = effect_right b c e ready room
    right_statement (tree.If e x y) b c ready room =
        (right_code F b c e ready.0 t (left_room t _ _ _ room)).branch.at true (part_of x (Items x)) (part_of y (Items y))
        (part_right b c x (Items x) ready.1 (right_statement x b c ready.1 (left_room t _ _ _ (right_room t _ _ _ room))))
        (part_right b c y (Items y) ready.2 (right_statement y b c ready.2 (right_room t _ _ _ (right_room t _ _ _ room))))
    right_statement (tree.While e x) b c ready room =
        loop_step F b c (test_items e t) (Items x) end false (test_right e ready.0 (left_room t _ _ _ room)) (right_statement x true true ready.1 (right_room t _ _ _ room)) nothing_done
    right_statement (tree.Do_while x e) b c ready room =
        loop_step F b c end (Items x) (test_items e t) true nothing_done (right_statement x true true ready.0 (left_room t _ _ _ room)) (test_right e ready.1 (right_room t _ _ _ room))
    right_statement (tree.For d e f x) b c ready room =
        both (optional_right b c d ready.0 (left_room t _ _ _ room))
        (loop_step F b c (optional_test e t) (Items x) (optional_effect f t) false
        (optional_test_right e ready.1 (left_room t _ _ _ (right_room t _ _ _ room)))
        (right_statement x true true ready.3 (right_room t _ _ _ (right_room t _ _ _ (right_room t _ _ _ room))))
        (optional_right true false f ready.2 (left_room t _ _ _ (right_room t _ _ _ (right_room t _ _ _ room)))))
    right_statement (tree.Switch e cs) b c ready room =
        both (loaded_right (right_code F b c e ready.0 t (left_room t _ _ _ room)).word)
        (both (clear_step (high (code_of e t).word.found))
        (switch_step F b c (labels_of cs) (choices_items locals t cs 0) (labels_differ cs ready.1) (choices_counted cs 0 true c ready.2 (right_room t _ _ _ room))
        (right_choices cs 0 true c ready.2 (right_room t _ _ _ room) nothing_stored)))
    right_statement tree.Break b c ready room = break_step (inside F b c) ready
    right_statement tree.Continue b c ready room = record { at = λ l w p. (ready, tt) }
    right_statement (tree.Return None) b c ready room = return_step (inside F b c)
    right_statement (tree.Return (Some e)) b c ready room = both (loaded_right (right_code F b c e ready t room).word) (return_step (inside F b c))

    right_statements : (ss : StmtsCode) (b c : Bool) → ReadyStatements F locals b c ss → t + word_statements_temporaries ss ≤ F.scalars
        → Steps (inside F b c) [] (statements_items locals t ss) []
    right_statements tree.done b c ready room = nothing_done
    right_statements (tree.both s rest) b c ready room =
        both (right_statement s b c ready.0 (left_room t _ _ _ room)) (right_statements rest b c ready.1 (right_room t _ _ _ room))

    right_choices : (cs : ChoicesCode) (i : ℕ) (b c : Bool) → ReadyChoices F locals b c cs → t + word_choices_temporaries cs ≤ F.scalars → (w : Stored)
        → Passes (inside F b c) true w (choices_items locals t cs i) (Has [])
    right_choices tree.no_more i b c ready room w = tt
    right_choices (tree.case v rest) i b c ready room w = (refl, right_choices rest (suc i) b c ready room nothing_stored)
    right_choices (tree.default rest) i b c ready room w = (refl, right_choices rest (suc i) b c ready room nothing_stored)
    right_choices (tree.body s rest) i b c ready room w =
        passes_joined (inside F b c) true (Items s) (choices_items locals t rest i) w (Has []) (Has [])
        ((right_statement s b c ready.0 (left_room t _ _ _ room)).at true w tt) (λ u q. right_choices rest i b c ready.1 (right_room t _ _ _ room) u)

    choices_counted : (cs : ChoicesCode) (i : ℕ) (b c : Bool) → ReadyChoices F locals b c cs → t + word_choices_temporaries cs ≤ F.scalars
        → cases_in (choices_items locals t cs i) ≡ counting i (length (labels_of cs))
    choices_counted tree.no_more i b c ready room = refl
    choices_counted (tree.case v rest) i b c ready room = ap (λ ns. i ∷ ns) (choices_counted rest (suc i) b c ready room)
    choices_counted (tree.default rest) i b c ready room = ap (λ ns. i ∷ ns) (choices_counted rest (suc i) b c ready room)
    choices_counted (tree.body s rest) i b c ready room =
        cases_behind (inside F b c) (Items s) (choices_items locals t rest i) nothing_stored (Has []) ((right_statement s b c ready.0 (left_room t _ _ _ room)).at false nothing_stored tt)
        ∙ choices_counted rest i b c ready.1 (right_room t _ _ _ room)
