-- Each routine that a function's items name is called by its piece.
use Rattle.std.proofs.Common.{◌≡◌, ℕ, zero, suc, ◌+◌, Bool, true, false, ◌||◌, ◌⊎◌, inl, inr, List, [], ◌∷◌, ◌++◌, length, Option, Some, None, refl, sym, ap, ◌∙◌, subst}
use Rattle.std.specs.Prelude.{◌==◌, slice_get}
use Rattle.std.specs.List.{list_any}
use Rattle.std.proofs.lemmas.Option.{same_Some}
use Rattle.tree_code.specs.WordTree.{FunctionCode}
use Rattle.acc_code.specs.declared.operand.HelperName.{HelperName}
use Rattle.acc_code.specs.declared.operation.Test.{Test}
use Rattle.acc_code.specs.AccTree.{Item, Op, If, Loop, Switch, Case, Clear, Call, Helper, Break, Continue, Return, ItemList, end, item, FunctionItems}
use Rattle.mem_plan.specs.declared.data_plan.DataPlan.{DataPlan}
use Rattle.mem_plan.specs.declared.data_plan.FramePlan.{FramePlan}
use Rattle.c25_isa.specs.declared.piece.PieceItem.{PieceItem}
use Rattle.c25_isa.specs.Pieces.{Piece}
use Rattle.c25_code.specs.Items.{plain_items, entry_code}
use Rattle.c25_helper.specs.Calls.{item_calls, items_call, pieces_call}
use Rattle.emit_blocks.specs.Steps.{Operation, operation}
use Rattle.frame_emit.specs.emit_control.declared.ways.Ways.{Ways}
use Rattle.frame_emit.specs.emit_control.Entries.{Entry, Run, Head, Place, Close, Branch, Goto, Dispatch, CallTo, CallHelper, Wipe, Ret, Finish, flushed}
use Rattle.frame_emit.specs.emit_control.Flow.{Part, labels, item_labels, is_end, target, if_code, loop_code, behind_label, behind_jump, inner, next_behind, first_ways, turn_ways, third_ways, switch_ways, emit, body_entries}
use Rattle.frame_emit.specs.emit_control.Cuts.{State, begun, cut, entry_items, behind_entry, function_items}
use Rattle.frame_emit.specs.emit_control.Settings.{Setting, helper_name}
use Rattle.frame_emit.specs.Emitted.{setting_of, function_piece, function_pieces}
use Rattle.emit_proof.specs.Calls.{StandsIn, StandsWithin}
use Rattle.emit_proof.proofs.Anywhere.{Later, PartKeeps, kept_anywhere, flush_keeps, if_keeps, loop_keeps}
use Rattle.image_proof.proofs.Finding.{same_name}

-- an entry that calls a routine
abbrev pub IsCallOf : HelperName → Entry → Type 0
IsCallOf h (Run os) = ⊥
IsCallOf h (Head l) = ⊥
IsCallOf h (Place l) = ⊥
IsCallOf h (Close x l) = ⊥
IsCallOf h (Branch t l) = ⊥
IsCallOf h (Goto l) = ⊥
IsCallOf h (Dispatch cs l b) = ⊥
IsCallOf h (CallTo f) = ⊥
IsCallOf h (CallHelper name) = name ≡ h
IsCallOf h (Wipe v from l) = ⊥
IsCallOf h Ret = ⊥
IsCallOf h (Finish l) = ⊥

module _ (h : HelperName) where
  abbrev Called : List Entry → Type 0
  Called = Later (IsCallOf h)

  more : (e : Entry) (es : List Entry) → Called es → Called (e ∷ es)
  more e es later = inr later

  passed : (xs : ItemList) (os : List Operation) (w : Ways) (base : ℕ) → PartKeeps Called (emit xs os w base)
  passed xs os w base = kept_anywhere Called more xs os w base

  -- a list that is a jump alone names no routine
  no_target : (w : Ways) (xs : ItemList) (a : ℕ) → target w xs ≡ Some a → StandsIn (Helper h) xs → ⊥
  no_target w end a is s = s
  no_target w (item Break end) a is (inl e) = cc
  no_target w (item Break end) a is (inr (inl s)) = s
  no_target w (item Break end) a is (inr (inr s)) = s
  no_target w (item Continue end) a is (inl e) = cc
  no_target w (item Continue end) a is (inr (inl s)) = s
  no_target w (item Continue end) a is (inr (inr s)) = s
  no_target w xs a is s = cc

  -- a part in which the routine is called
  pub record Part_calls (p : Part) : Type 0 where
    pub by : (next : ℕ) (rest : List Entry) → Called (p next rest)

  hit_calls : (a b : Option ℕ) (t : Test) (hit miss : Part) (l next : ℕ) (rest : List Entry) → ((k : ℕ) → a ≡ Some k → ⊥) → Part_calls hit → Called (if_code t a b hit miss l next rest)
  hit_calls (Some k) b t hit miss l next rest none p = absurd (none k refl)
  hit_calls None (Some b) t hit miss l next rest none p = inr (p.by next rest)
  hit_calls None None t hit miss l next rest none p = inr (p.by l (Place l ∷ miss next rest))

  miss_calls : (a b : Option ℕ) (t : Test) (hit miss : Part) (l next : ℕ) (rest : List Entry) → ((k : ℕ) → b ≡ Some k → ⊥) → PartKeeps Called hit → Part_calls miss → Called (if_code t a b hit miss l next rest)
  miss_calls a (Some k) t hit miss l next rest none ph p = absurd (none k refl)
  miss_calls (Some a) None t hit miss l next rest none ph p = inr (p.by next rest)
  miss_calls None None t hit miss l next rest none ph p = inr (ph.by l (Place l ∷ miss next rest) (inr (p.by next rest)))

  first_calls : (none : Bool) (head start go : ℕ) (first body third : Part) (next : ℕ) (rest : List Entry) → Part_calls first → Called (loop_code none head start go first body third next rest)
  first_calls none head start go first body third next rest p = inr (p.by start _)

  turn_calls : (none : Bool) (head start go : ℕ) (first body third : Part) (next : ℕ) (rest : List Entry) → PartKeeps Called first → Part_calls body → Called (loop_code none head start go first body third next rest)
  turn_calls none head start go first body third next rest pf p = inr (pf.by start _ (inr (p.by _ _)))

  third_calls : (head start go : ℕ) (first body third : Part) (next : ℕ) (rest : List Entry) → PartKeeps Called first → PartKeeps Called body → Part_calls third → Called (loop_code false head start go first body third next rest)
  third_calls head start go first body third next rest pf pb p = inr (pf.by start _ (inr (pb.by go _ (inr (p.by next _)))))

  label_calls : (xs : ItemList) (base : ℕ) (code rest : List Entry) → StandsIn (Helper h) xs → Called code → Called (behind_label (is_end xs) base code rest)
  label_calls end base code rest s c = absurd s
  label_calls (item x xs) base code rest s c = inr c

  jump_calls : (xs : ItemList) (code rest : List Entry) → StandsIn (Helper h) xs → Called code → Called (behind_jump (is_end xs) code rest)
  jump_calls end code rest s c = absurd s
  jump_calls (item x xs) code rest s c = c

  pub emit_calls : (xs : ItemList) (os : List Operation) (w : Ways) (base : ℕ) → StandsIn (Helper h) xs → Part_calls (emit xs os w base)
  emit_calls end os w base s = absurd s
  emit_calls (item (Op o m) xs) os w base (inl e) = cc
  emit_calls (item (Op o m) xs) os w base (inr (inl s)) = absurd s
  emit_calls (item (Op o m) xs) os w base (inr (inr s)) = record { by = λ next rest. (emit_calls xs (os ++ operation o m ∷ []) w base s).by next rest }
  emit_calls (item (If t hit miss) xs) os w base (inl e) = cc
  emit_calls (item (If t hit miss) xs) os w base (inr (inl (inl s))) = record {
    by = λ next rest. flush_keeps Called more os _ (hit_calls (target (inner xs w base) hit) (target (inner xs w base) miss) t (emit hit [] (inner xs w base) (base + 2)) (emit miss [] (inner xs w base) (base + 2 + labels hit)) (base + 1) (next_behind xs base next) (behind_label (is_end xs) base (emit xs [] w (base + item_labels (If t hit miss)) next rest) rest) (λ k e. no_target (inner xs w base) hit k e s) (emit_calls hit [] (inner xs w base) (base + 2) s));
  }
  emit_calls (item (If t hit miss) xs) os w base (inr (inl (inr s))) = record {
    by = λ next rest. flush_keeps Called more os _ (miss_calls (target (inner xs w base) hit) (target (inner xs w base) miss) t (emit hit [] (inner xs w base) (base + 2)) (emit miss [] (inner xs w base) (base + 2 + labels hit)) (base + 1) (next_behind xs base next) (behind_label (is_end xs) base (emit xs [] w (base + item_labels (If t hit miss)) next rest) rest) (λ k e. no_target (inner xs w base) miss k e s)
        (passed hit [] (inner xs w base) (base + 2)) (emit_calls miss [] (inner xs w base) (base + 2 + labels hit) s));
  }
  emit_calls (item (If t hit miss) xs) os w base (inr (inr s)) = record {
    by = λ next rest. flush_keeps Called more os _ (if_keeps Called more (target (inner xs w base) hit) (target (inner xs w base) miss) t (emit hit [] (inner xs w base) (base + 2)) (emit miss [] (inner xs w base) (base + 2 + labels hit)) (base + 1) (next_behind xs base next) (behind_label (is_end xs) base (emit xs [] w (base + item_labels (If t hit miss)) next rest) rest) (passed hit [] (inner xs w base) (base + 2)) (passed miss [] (inner xs w base) (base + 2 + labels hit))
        (label_calls xs base _ rest s ((emit_calls xs [] w (base + item_labels (If t hit miss)) s).by next rest)));
  }
  emit_calls (item (Loop before body third last) xs) os w base (inl e) = cc
  emit_calls (item (Loop before body third last) xs) os w base (inr (inl (inl s))) = record {
    by = λ next rest. flush_keeps Called more os _ (first_calls (is_end third) (base + 1) (base + 2) (base + 3) (emit before [] (first_ways third base (inner xs w base)) (base + 4)) (emit body [] (turn_ways third base (inner xs w base)) (base + 4 + labels before)) (emit third [] (third_ways base (inner xs w base)) (base + 4 + labels before + labels body)) (next_behind xs base next) (behind_label (is_end xs) base (emit xs [] w (base + item_labels (Loop before body third last)) next rest) rest) (emit_calls before [] (first_ways third base (inner xs w base)) (base + 4) s));
  }
  emit_calls (item (Loop before body third last) xs) os w base (inr (inl (inr (inl s)))) = record {
    by = λ next rest. flush_keeps Called more os _ (turn_calls (is_end third) (base + 1) (base + 2) (base + 3) (emit before [] (first_ways third base (inner xs w base)) (base + 4)) (emit body [] (turn_ways third base (inner xs w base)) (base + 4 + labels before)) (emit third [] (third_ways base (inner xs w base)) (base + 4 + labels before + labels body)) (next_behind xs base next) (behind_label (is_end xs) base (emit xs [] w (base + item_labels (Loop before body third last)) next rest) rest) (passed before [] (first_ways third base (inner xs w base)) (base + 4)) (emit_calls body [] (turn_ways third base (inner xs w base)) (base + 4 + labels before) s));
  }
  emit_calls (item (Loop before body end last) xs) os w base (inr (inl (inr (inr s)))) = absurd s
  emit_calls (item (Loop before body (item y ys) last) xs) os w base (inr (inl (inr (inr s)))) = record {
    by = λ next rest. flush_keeps Called more os _ (third_calls (base + 1) (base + 2) (base + 3) (emit before [] (first_ways (item y ys) base (inner xs w base)) (base + 4)) (emit body [] (turn_ways (item y ys) base (inner xs w base)) (base + 4 + labels before)) (emit (item y ys) [] (third_ways base (inner xs w base)) (base + 4 + labels before + labels body)) (next_behind xs base next) (behind_label (is_end xs) base (emit xs [] w (base + item_labels (Loop before body (item y ys) last)) next rest) rest) (passed before [] (first_ways (item y ys) base (inner xs w base)) (base + 4)) (passed body [] (turn_ways (item y ys) base (inner xs w base)) (base + 4 + labels before))
        (emit_calls (item y ys) [] (third_ways base (inner xs w base)) (base + 4 + labels before + labels body) s));
  }
  emit_calls (item (Loop before body third last) xs) os w base (inr (inr s)) = record {
    by = λ next rest. flush_keeps Called more os _ (loop_keeps Called more (is_end third) (base + 1) (base + 2) (base + 3) (emit before [] (first_ways third base (inner xs w base)) (base + 4)) (emit body [] (turn_ways third base (inner xs w base)) (base + 4 + labels before)) (emit third [] (third_ways base (inner xs w base)) (base + 4 + labels before + labels body)) (next_behind xs base next) (behind_label (is_end xs) base (emit xs [] w (base + item_labels (Loop before body third last)) next rest) rest) (passed before [] (first_ways third base (inner xs w base)) (base + 4))
        (passed body [] (turn_ways third base (inner xs w base)) (base + 4 + labels before)) (passed third [] (third_ways base (inner xs w base)) (base + 4 + labels before + labels body))
        (label_calls xs base _ rest s ((emit_calls xs [] w (base + item_labels (Loop before body third last)) s).by next rest)));
  }
  emit_calls (item (Switch cases body) xs) os w base (inl e) = cc
  emit_calls (item (Switch cases body) xs) os w base (inr (inl s)) = record { by = λ next rest. flush_keeps Called more os _ (inr ((emit_calls body [] (switch_ways base (inner xs w base)) (base + 1 + length cases) s).by _ _)) }
  emit_calls (item (Switch cases body) xs) os w base (inr (inr s)) = record {
    by = λ next rest. flush_keeps Called more os _ (inr ((passed body [] (switch_ways base (inner xs w base)) (base + 1 + length cases)).by _ _
        (label_calls xs base _ rest s ((emit_calls xs [] w (base + item_labels (Switch cases body)) s).by next rest))));
  }
  emit_calls (item (Case n) xs) os w base (inl e) = cc
  emit_calls (item (Case n) xs) os w base (inr (inl s)) = absurd s
  emit_calls (item (Case n) xs) os w base (inr (inr s)) = record { by = λ next rest. flush_keeps Called more os _ (inr ((emit_calls xs [] w base s).by next rest)) }
  emit_calls (item (Clear v from) xs) os w base (inl e) = cc
  emit_calls (item (Clear v from) xs) os w base (inr (inl s)) = absurd s
  emit_calls (item (Clear v from) xs) os w base (inr (inr s)) = record { by = λ next rest. flush_keeps Called more os _ (inr ((emit_calls xs [] w (base + 1) s).by next rest)) }
  emit_calls (item (Call f) xs) os w base (inl e) = cc
  emit_calls (item (Call f) xs) os w base (inr (inl s)) = absurd s
  emit_calls (item (Call f) xs) os w base (inr (inr s)) = record { by = λ next rest. flush_keeps Called more os _ (inr ((emit_calls xs [] w base s).by next rest)) }
  emit_calls (item (Helper name) xs) os w base (inl e) = record { by = λ next rest. flush_keeps Called more os _ (inl (helper_same e)) }
    where
      helper_same : Helper name ≡ Helper h → name ≡ h
      helper_same q = cc
  emit_calls (item (Helper name) xs) os w base (inr (inl s)) = absurd s
  emit_calls (item (Helper name) xs) os w base (inr (inr s)) = record { by = λ next rest. flush_keeps Called more os _ (inr ((emit_calls xs [] w base s).by next rest)) }
  emit_calls (item Break xs) os w base (inl e) = cc
  emit_calls (item Break xs) os w base (inr (inl s)) = absurd s
  emit_calls (item Break xs) os w base (inr (inr s)) = record { by = λ next rest. flush_keeps Called more os _ (inr (jump_calls xs _ rest s ((emit_calls xs [] w base s).by next rest))) }
  emit_calls (item Continue xs) os w base (inl e) = cc
  emit_calls (item Continue xs) os w base (inr (inl s)) = absurd s
  emit_calls (item Continue xs) os w base (inr (inr s)) = record { by = λ next rest. flush_keeps Called more os _ (inr (jump_calls xs _ rest s ((emit_calls xs [] w base s).by next rest))) }
  emit_calls (item Return xs) os w base (inl e) = cc
  emit_calls (item Return xs) os w base (inr (inl s)) = absurd s
  emit_calls (item Return xs) os w base (inr (inr s)) = record { by = λ next rest. flush_keeps Called more os _ (inr (jump_calls xs _ rest s ((emit_calls xs [] w base s).by next rest))) }

  -- so the name is called by the items
  any_front : (a b : List PieceItem) → items_call (helper_name h) a ≡ true → items_call (helper_name h) (a ++ b) ≡ true
  any_front [] b e = cc
  any_front (x ∷ a) b e = by (item_calls (helper_name h) x) e (any_front a b)
    where
      by : (c : Bool) → (c || items_call (helper_name h) a) ≡ true → (items_call (helper_name h) a ≡ true → items_call (helper_name h) (a ++ b) ≡ true) → (c || items_call (helper_name h) (a ++ b)) ≡ true
      by true q rest = refl
      by false q rest = rest q

  any_back : (a b : List PieceItem) → items_call (helper_name h) b ≡ true → items_call (helper_name h) (a ++ b) ≡ true
  any_back [] b e = e
  any_back (x ∷ a) b e = by (item_calls (helper_name h) x) (any_back a b e)
    where
      by : (c : Bool) → items_call (helper_name h) (a ++ b) ≡ true → (c || items_call (helper_name h) (a ++ b)) ≡ true
      by true q = refl
      by false q = q

  module _ (m : Setting) where
    entry_calls : (e : Entry) (s : State) → IsCallOf h e → items_call (helper_name h) (entry_items m s e) ≡ true
    entry_calls (Run os) s q = absurd q
    entry_calls (Head l) s q = absurd q
    entry_calls (Place l) s q = absurd q
    entry_calls (Close x l) s q = absurd q
    entry_calls (Branch t l) s q = absurd q
    entry_calls (Goto l) s q = absurd q
    entry_calls (Dispatch cs l b) s q = absurd q
    entry_calls (CallTo f) s q = absurd q
    entry_calls (CallHelper name) s q = ap (λ b. b || false) (same_name (helper_name name) (helper_name h) (ap helper_name q))
    entry_calls (Wipe v from l) s q = absurd q
    entry_calls Ret s q = absurd q
    entry_calls (Finish l) s q = absurd q

    cut_calls : (es : List Entry) (s : State) → Called es → items_call (helper_name h) (cut m s es) ≡ true
    cut_calls [] s c = absurd c
    cut_calls (e ∷ es) s (inl q) = any_front (entry_items m s e) _ (entry_calls e s q)
    cut_calls (e ∷ es) s (inr c) = any_back (entry_items m s e) _ (cut_calls es (behind_entry m s e) c)

    pub body_calls : (body : ItemList) → StandsIn (Helper h) body → items_call (helper_name h) (function_items m body) ≡ true
    body_calls body s = any_back (plain_items (entry_code m.back)) _ (cut_calls (body_entries body) begun ((emit_calls body [] _ 1 s).by 0 (Finish 0 ∷ [])))

  -- and by the pieces
  any_piece : (p : Piece) (ps : List Piece) → pieces_call (helper_name h) ps ≡ true → pieces_call (helper_name h) (p ∷ ps) ≡ true
  any_piece p ps e = by (items_call (helper_name h) p.items)
    where
      by : (c : Bool) → (c || pieces_call (helper_name h) ps) ≡ true
      by true = refl
      by false = e

  pub functions_call : (plan : DataPlan) (step : ℕ) (parameters names : List (List ℕ)) (fs : List FunctionCode) (gs : List FunctionItems) (frames : List FramePlan) (arrangements : List (List (List ℕ))) (k : ℕ) (f : FunctionCode) (g : FunctionItems) (frame : FramePlan) (lists : List (List ℕ))
      → slice_get fs k ≡ Some f → slice_get gs k ≡ Some g → slice_get frames k ≡ Some frame → slice_get arrangements k ≡ Some lists → StandsIn (Helper h) g.body
      → pieces_call (helper_name h) (function_pieces plan step parameters names fs gs frames arrangements) ≡ true
  functions_call plan step parameters names [] gs frames arrangements k f g frame lists at_f at_g at_frame at_lists s = cc
  functions_call plan step parameters names (x ∷ fs) [] frames arrangements k f g frame lists at_f at_g at_frame at_lists s = cc
  functions_call plan step parameters names (x ∷ fs) (y ∷ gs) [] arrangements k f g frame lists at_f at_g at_frame at_lists s = cc
  functions_call plan step parameters names (x ∷ fs) (y ∷ gs) (z ∷ frames) [] k f g frame lists at_f at_g at_frame at_lists s = cc
  functions_call plan step parameters names (x ∷ fs) (y ∷ gs) (z ∷ frames) (l ∷ arrangements) zero f g frame lists at_f at_g at_frame at_lists s =
      let called : items_call (helper_name h) (function_items (setting_of plan step parameters names x z l) y.body) ≡ true = body_calls (setting_of plan step parameters names x z l) y.body (subst (λ (i : FunctionItems). StandsIn (Helper h) i.body) (sym (same_Some y g at_g)) s) in
      ap (λ b. b || pieces_call (helper_name h) (function_pieces plan step parameters names fs gs frames arrangements)) called
  functions_call plan step parameters names (x ∷ fs) (y ∷ gs) (z ∷ frames) (l ∷ arrangements) (suc k) f g frame lists at_f at_g at_frame at_lists s =
      any_piece (function_piece plan step parameters names x y z l) (function_pieces plan step parameters names fs gs frames arrangements) (functions_call plan step parameters names fs gs frames arrangements k f g frame lists at_f at_g at_frame at_lists s)

  pub some_piece : (p : Piece) (ps : List Piece) → pieces_call (helper_name h) ps ≡ true → pieces_call (helper_name h) (p ∷ ps) ≡ true
  some_piece p ps e = any_piece p ps e
