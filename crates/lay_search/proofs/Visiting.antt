-- What is left when nodes were visited, by how they were.
use Rattle.std.proofs.Common.{◌≡◌, ◌≢◌, ℕ, zero, suc, ◌+◌, ◌-◌, ◌≤◌, Bool, true, false, cond, List, [], ◌∷◌, ◌++◌, length, refl, ap, ap₂, sym, subst, ◌∙◌, arith, append-nil, append_assoc, length-append}
use Rattle.std.specs.Prelude.{◌==◌, if◌then◌else◌, Result, Ok, Err, IfOk}
use Rattle.std.proofs.lemmas.Bool.{both_ways, eqb-true, eqb-false}
use Rattle.lay_model.specs.Sequences.{Sequence}
use Rattle.lay_model.specs.Arrangements.{Arranges}
use Rattle.lay_cost.specs.Cost.{arranged_cost}
use Rattle.lay_cost.specs.Parts.{Node, node_lists, lists_of}
use Rattle.lay_tree.specs.declared.answer.Mark.TheVariants.{Branched, Closed}
use Rattle.lay_tree.specs.Tree.{is_complete, children}
use Rattle.lay_tree.specs.Bound.{bound}
use Rattle.lay_tree.specs.Search.{reaches, Visited, behind, visit}
use Rattle.lay_node.specs.declared.kept.Kept.{Kept}
use Rattle.lay_node.specs.declared.position.Position.{Position}
use Rattle.lay_search.specs.declared.descent.Descent.{Descent}
use Rattle.lay_search.specs.declared.descent.Ending.{Ending}
use Rattle.lay_search.specs.declared.descent.Ending.TheVariants.{Finished, OutOfMarks}
use Rattle.lay_node.specs.Positions.{here, SameBelow, SamePlace}
use Rattle.lay_search.specs.Descents.{HasBest, SameAnswer, SameLimits, VisitsBelow, Visits, visit_of, is_finished, IsClosed, Completes}
use Rattle.lay_search.proofs.Following.{joined, visit_closed, visit_complete, visit_branched, visit_append}
use Rattle.lay_node.proofs.Descending.{same_itself, same_less, same_then}

-- what is left but for the place
pub record Sees (seq : Sequence) (ns : List Node) (old new : Descent) (ending : Ending) : Type 0 where
  pub best : lists_of new.best.items ≡ (visit_of seq old ns).best
  pub finished : is_finished ending ≡ (visit_of seq old ns).finished
  pub marks : new.marks.items ≡ old.marks.items ++ (visit_of seq old ns).marks
  pub quota : new.quota ≡ old.quota
  pub has_best : HasBest seq new

pub seen_below : (closes : ℕ) (seq : Sequence) (ns : List Node) (old new : Descent) (ending : Ending) → VisitsBelow closes seq ns old new ending → Sees seq ns old new ending
seen_below closes seq ns old new ending v = record { best = v.best; finished = v.finished; marks = v.marks; quota = v.quota; has_best = v.has_best }

pub seen : (seq : Sequence) (ns : List Node) (old new : Descent) (ending : Ending) → Visits seq ns old new ending → Sees seq ns old new ending
seen seq ns old new ending v = seen_below (length (here old.position).closed + 1) seq ns old new ending v

pub placed_below : (closes : ℕ) (seq : Sequence) (ns : List Node) (old new : Descent) (ending : Ending) → Sees seq ns old new ending → (ending ≡ Finished → SameBelow closes old.position new.position) → VisitsBelow closes seq ns old new ending
placed_below closes seq ns old new ending v place = record { best = v.best; finished = v.finished; marks = v.marks; quota = v.quota; has_best = v.has_best; place = place }

pub placed_too : (seq : Sequence) (ns : List Node) (old new : Descent) (ending : Ending) → Sees seq ns old new ending → (ending ≡ Finished → SamePlace old.position new.position) → Visits seq ns old new ending
placed_too seq ns old new ending v place = placed_below (length (here old.position).closed + 1) seq ns old new ending v place

-- what it knows of the nodes above alone
pub visits_less : (seq : Sequence) (ns : List Node) (old new : Descent) (ending : Ending) → Visits seq ns old new ending → VisitsBelow (length (here old.position).closed) seq ns old new ending
visits_less seq ns old new ending v = placed_below (length (here old.position).closed) seq ns old new ending (seen seq ns old new ending v) (λ e. same_less (length (here old.position).closed) (length (here old.position).closed + 1) old.position new.position (omega arith) (v.place e))

pub no_place : (old new : Descent) → OutOfMarks ≡ Finished → SamePlace old.position new.position
no_place old new e = absurd (both_ways true (sym (ap is_finished e)) refl)

visit_none : (k : ℕ) (seq : Sequence) (marks : ℕ) (best : List (List ℕ)) → visit k seq marks [] best ≡ record { best = best; finished = true; marks = [] }
visit_none k seq zero best = refl
visit_none k seq (suc marks) best = refl

abbrev left : Descent → ℕ
left d = d.quota - length d.marks.items

one_left : (q m : ℕ) → m ≤ q → m ≢ q → q - m ≡ suc (q - suc m)
one_left q m le ne = omega (arith, le, ne)

-- nothing is to be visited
pub visits_none : (seq : Sequence) (d : Descent) → HasBest seq d → Visits seq [] d d Finished
visits_none seq d has =
    let v = visit_none d.position.registers seq (left d) (lists_of d.best.items) in
    record {
      best = sym (ap (λ (u : Visited). u.best) v);
      finished = sym (ap (λ (u : Visited). u.finished) v);
      marks = sym (append-nil d.marks.items) ∙ ap (λ ms. d.marks.items ++ ms) (sym (ap (λ (u : Visited). u.marks) v));
      quota = refl;
      has_best = has;
      place = λ _. same_itself d.position;
    }

-- no mark is left
pub visits_full : (seq : Sequence) (n : Node) (ns : List Node) (d : Descent) → HasBest seq d → length d.marks.items ≡ d.quota → Visits seq (n ∷ ns) d d OutOfMarks
visits_full seq n ns d has full =
    let none : left d ≡ zero = omega (arith, full) in
    let v = ap (λ m. visit d.position.registers seq m (n ∷ ns) (lists_of d.best.items)) none in
    record {
      best = sym (ap (λ (u : Visited). u.best) v);
      finished = sym (ap (λ (u : Visited). u.finished) v);
      marks = sym (append-nil d.marks.items) ∙ ap (λ ms. d.marks.items ++ ms) (sym (ap (λ (u : Visited). u.marks) v));
      quota = refl;
      has_best = has;
      place = λ e. absurd (both_ways true (sym (ap is_finished e)) refl);
    }

-- a closed node alone
closed_alone : (seq : Sequence) (n : Node) (d : Descent) (best : List (List ℕ)) → HasBest seq d → length d.marks.items ≢ d.quota → visit_of seq d (n ∷ []) ≡ behind Closed (visit d.position.registers seq (d.quota - suc (length d.marks.items)) [] best) → visit_of seq d (n ∷ []) ≡ record { best = best; finished = true; marks = Closed ∷ [] }
closed_alone seq n d best has room e = e ∙ ap (behind Closed) (visit_none d.position.registers seq (d.quota - suc (length d.marks.items)) best)

with_left : (seq : Sequence) (n : Node) (d : Descent) → HasBest seq d → length d.marks.items ≢ d.quota → visit_of seq d (n ∷ []) ≡ visit d.position.registers seq (suc (d.quota - suc (length d.marks.items))) (n ∷ []) (lists_of d.best.items)
with_left seq n d has room = ap (λ m. visit d.position.registers seq m (n ∷ []) (lists_of d.best.items)) (one_left d.quota (length d.marks.items) has.room room)

-- a node was closed, since its bound reaches the best cost
closed_best : (seq : Sequence) (old d new : Descent) (ending : Ending) → HasBest seq d → length old.marks.items ≢ old.quota → HasBest seq old → d.marks.items ≡ old.marks.items → d.quota ≡ old.quota → IsClosed d new ending → HasBest seq new
closed_best seq old d new ending has room before marks quota closed = record {
  arranges = subst (λ b. Arranges seq.scalars (lists_of b)) (sym closed.writes.answer.best) has.arranges;
  cost = closed.writes.answer.cost ∙ has.cost ∙ ap (λ b. arranged_cost seq (lists_of b)) (sym closed.writes.answer.best);
  room = omega (arith, before.room, room, ap length closed.writes.marks, length-append d.marks.items (Closed ∷ []), ap length marks, closed.writes.quota, quota);
}

made : (seq : Sequence) (n : Node) (old new : Descent) (ending : Ending) (best : List (List ℕ)) → ending ≡ Finished → visit_of seq old (n ∷ []) ≡ record { best = best; finished = true; marks = Closed ∷ [] } → lists_of new.best.items ≡ best → new.marks.items ≡ old.marks.items ++ (Closed ∷ []) → new.quota ≡ old.quota → HasBest seq new → new.position ≡ old.position → Visits seq (n ∷ []) old new ending
made seq n old new ending best finished v is marks quota has place = record {
  best = is ∙ sym (ap (λ (u : Visited). u.best) v);
  finished = ap is_finished finished ∙ sym (ap (λ (u : Visited). u.finished) v);
  marks = marks ∙ ap (λ ms. old.marks.items ++ ms) (sym (ap (λ (u : Visited). u.marks) v));
  quota = quota;
  has_best = has;
  place = λ _. subst (λ p. SamePlace old.position p) (sym place) (same_itself old.position);
}

pub visits_closed : (seq : Sequence) (n : Node) (old new : Descent) (ending : Ending) → HasBest seq old → length old.marks.items ≢ old.quota → reaches (bound old.position.registers seq n) old.cost ≡ true → IsClosed old new ending → Visits seq (n ∷ []) old new ending
visits_closed seq n old new ending has room reached closed =
    let is : reaches (bound old.position.registers seq n) (arranged_cost seq (lists_of old.best.items)) ≡ true = ap (reaches (bound old.position.registers seq n)) (sym has.cost) ∙ reached in
    let v = closed_alone seq n old (lists_of old.best.items) has room (with_left seq n old has room ∙ visit_closed old.position.registers seq (old.quota - suc (length old.marks.items)) n [] (lists_of old.best.items) is) in
    made seq n old new ending (lists_of old.best.items) closed.finished v (ap lists_of closed.writes.answer.best) closed.writes.marks closed.writes.quota (closed_best seq old old new ending has room has refl refl closed) closed.place

-- a complete node was offered, and closed
pub visits_complete : (seq : Sequence) (n : Node) (old d new : Descent) (ending : Ending) → HasBest seq old → length old.marks.items ≢ old.quota → is_complete seq n ≡ true → Completes seq n old d → IsClosed d new ending → Visits seq (n ∷ []) old new ending
visits_complete seq n old d new ending has room complete completes closed =
    by (reaches (bound old.position.registers seq n) old.cost) refl
  where
    by : (b : Bool) → reaches (bound old.position.registers seq n) old.cost ≡ b → Visits seq (n ∷ []) old new ending
    by true is =
        let reached : reaches (bound old.position.registers seq n) (arranged_cost seq (lists_of old.best.items)) ≡ true = ap (reaches (bound old.position.registers seq n)) (sym has.cost) ∙ is in
        let v = closed_alone seq n old (lists_of old.best.items) has room (with_left seq n old has room ∙ visit_closed old.position.registers seq (old.quota - suc (length old.marks.items)) n [] (lists_of old.best.items) reached) in
        made seq n old new ending (lists_of old.best.items) closed.finished v (ap lists_of closed.writes.answer.best ∙ completes.best ∙ ap (λ t. if t then lists_of old.best.items else node_lists n) is) (closed.writes.marks ∙ ap (λ m. m ++ (Closed ∷ [])) completes.marks) (closed.writes.quota ∙ completes.quota) (closed_best seq old d new ending completes.has_best room has completes.marks completes.quota closed) (closed.place ∙ completes.place)
    by false is =
        let reached : reaches (bound old.position.registers seq n) (arranged_cost seq (lists_of old.best.items)) ≡ false = ap (reaches (bound old.position.registers seq n)) (sym has.cost) ∙ is in
        let v = closed_alone seq n old (node_lists n) has room (with_left seq n old has room ∙ visit_complete old.position.registers seq (old.quota - suc (length old.marks.items)) n [] (lists_of old.best.items) reached complete) in
        made seq n old new ending (node_lists n) closed.finished v (ap lists_of closed.writes.answer.best ∙ completes.best ∙ ap (λ t. if t then lists_of old.best.items else node_lists n) is) (closed.writes.marks ∙ ap (λ m. m ++ (Closed ∷ [])) completes.marks) (closed.writes.quota ∙ completes.quota) (closed_best seq old d new ending completes.has_best room has completes.marks completes.quota closed) (closed.place ∙ completes.place)

-- a node was branched, and its children visited
pub visits_branched : (seq : Sequence) (n : Node) (old d new : Descent) (ending : Ending) → HasBest seq old → length old.marks.items ≢ old.quota → is_complete seq n ≡ false → reaches (bound old.position.registers seq n) old.cost ≡ false
    → d.marks.items ≡ old.marks.items ++ (Branched ∷ []) → SameAnswer old d → SameLimits old d → Sees seq (children old.position.registers seq n) d new ending → Sees seq (n ∷ []) old new ending
visits_branched seq n old d new ending has room incomplete below marks answer limits visits =
    let reached : reaches (bound old.position.registers seq n) (arranged_cost seq (lists_of old.best.items)) ≡ false = ap (reaches (bound old.position.registers seq n)) (sym has.cost) ∙ below in
    let k = old.position.registers in
    let rest : left d ≡ old.quota - suc (length old.marks.items) = omega (arith, limits.quota, ap length marks, length-append old.marks.items (Branched ∷ [])) in
    let inner : visit_of seq d (children k seq n) ≡ visit k seq (old.quota - suc (length old.marks.items)) (children k seq n ++ []) (lists_of old.best.items) =
    ap (λ r. visit r seq (left d) (children k seq n) (lists_of d.best.items)) limits.registers
    ∙ ap (λ m. visit k seq m (children k seq n) (lists_of d.best.items)) rest
    ∙ ap (λ b. visit k seq (old.quota - suc (length old.marks.items)) (children k seq n) (lists_of b)) answer.best
    ∙ ap (λ ns. visit k seq (old.quota - suc (length old.marks.items)) ns (lists_of old.best.items)) (sym (append-nil (children k seq n))) in
    let v : visit_of seq old (n ∷ []) ≡ behind Branched (visit_of seq d (children k seq n)) =
    with_left seq n old has room ∙ visit_branched k seq (old.quota - suc (length old.marks.items)) n [] (lists_of old.best.items) reached incomplete ∙ ap (behind Branched) (sym inner) in
    record {
      best = visits.best ∙ sym (ap (λ (u : Visited). u.best) v);
      finished = visits.finished ∙ sym (ap (λ (u : Visited). u.finished) v);
      marks = visits.marks ∙ ap (λ ms. ms ++ (visit_of seq d (children k seq n)).marks) marks ∙ append_assoc old.marks.items (Branched ∷ []) (visit_of seq d (children k seq n)).marks ∙ ap (λ ms. old.marks.items ++ ms) (sym (ap (λ (u : Visited). u.marks) v));
      quota = visits.quota ∙ limits.quota;
      has_best = visits.has_best;
    }

-- the same nodes from a state with the same answer
pub visits_from : (seq : Sequence) (ns : List Node) (old d new : Descent) (ending : Ending) → d.marks.items ≡ old.marks.items → SameAnswer old d → SameLimits old d → Sees seq ns d new ending → Sees seq ns old new ending
visits_from seq ns old d new ending marks answer limits visits =
    let v : visit_of seq d ns ≡ visit_of seq old ns =
    ap (λ r. visit r seq (left d) ns (lists_of d.best.items)) limits.registers
    ∙ ap₂ (λ q m. visit old.position.registers seq (q - length m) ns (lists_of d.best.items)) limits.quota marks
    ∙ ap (λ b. visit old.position.registers seq (left old) ns (lists_of b)) answer.best in
    record {
      best = visits.best ∙ ap (λ (u : Visited). u.best) v;
      finished = visits.finished ∙ ap (λ (u : Visited). u.finished) v;
      marks = visits.marks ∙ ap₂ (λ m (u : Visited). m ++ u.marks) marks v;
      quota = visits.quota ∙ limits.quota;
      has_best = visits.has_best;
    }

-- the same with what comes behind
pub visits_to : (seq : Sequence) (ns : List Node) (old d new : Descent) (ending : Ending) → SameAnswer d new → SameLimits d new → new.marks.items ≡ d.marks.items → Sees seq ns old d ending → Sees seq ns old new ending
visits_to seq ns old d new ending answer limits marks visits = record {
  best = ap lists_of answer.best ∙ visits.best;
  finished = visits.finished;
  marks = marks ∙ visits.marks;
  quota = limits.quota ∙ visits.quota;
  has_best = record {
    arranges = subst (λ b. Arranges seq.scalars (lists_of b)) (sym answer.best) visits.has_best.arranges;
    cost = answer.cost ∙ visits.has_best.cost ∙ ap (λ b. arranged_cost seq (lists_of b)) (sym answer.best);
    room = subst (λ m. length m ≤ new.quota) (sym marks) (subst (λ q. length d.marks.items ≤ q) (sym limits.quota) visits.has_best.room);
  };
}

-- some nodes and then others
pub visits_then : (seq : Sequence) (xs ys : List Node) (a b c : Descent) (ending : Ending) → Visits seq xs a b Finished → Visits seq ys b c ending → Visits seq (xs ++ ys) a c ending
visits_then seq xs ys a b c ending first second =
    let same = first.place refl in
    let u = visit_of seq a xs in
    let rest : left b ≡ left a - length u.marks = omega (arith, first.quota, ap length first.marks, length-append a.marks.items u.marks) in
    let inner : visit_of seq b ys ≡ visit a.position.registers seq (left a - length u.marks) ys u.best =
    ap (λ r. visit r seq (left b) ys (lists_of b.best.items)) same.registers
    ∙ ap₂ (λ m l. visit a.position.registers seq m ys l) rest first.best in
    let v : visit_of seq a (xs ++ ys) ≡ joined u (visit_of seq b ys) =
    visit_append a.position.registers seq (left a) xs ys (lists_of a.best.items)
    ∙ ap (λ t. cond t (joined u (visit a.position.registers seq (left a - length u.marks) ys u.best)) u) (sym first.finished)
    ∙ ap (joined u) (sym inner) in
    record {
      best = second.best ∙ sym (ap (λ (w : Visited). w.best) v);
      finished = second.finished ∙ sym (ap (λ (w : Visited). w.finished) v);
      marks = second.marks ∙ ap (λ ms. ms ++ (visit_of seq b ys).marks) first.marks ∙ append_assoc a.marks.items u.marks (visit_of seq b ys).marks ∙ ap (λ ms. a.marks.items ++ ms) (sym (ap (λ (w : Visited). w.marks) v));
      quota = second.quota ∙ first.quota;
      has_best = second.has_best;
      place = λ e. same_then a.position b.position c.position same (second.place e);
    }

-- where marks are wanting, nothing more is visited
pub visits_stop : (seq : Sequence) (xs ys : List Node) (a b : Descent) → Visits seq xs a b OutOfMarks → Visits seq (xs ++ ys) a b OutOfMarks
visits_stop seq xs ys a b first =
    let u = visit_of seq a xs in
    let v : visit_of seq a (xs ++ ys) ≡ u =
    visit_append a.position.registers seq (left a) xs ys (lists_of a.best.items)
    ∙ ap (λ t. cond t (joined u (visit a.position.registers seq (left a - length u.marks) ys u.best)) u) (sym first.finished) in
    record {
      best = first.best ∙ sym (ap (λ (w : Visited). w.best) v);
      finished = first.finished ∙ sym (ap (λ (w : Visited). w.finished) v);
      marks = first.marks ∙ ap (λ ms. a.marks.items ++ ms) (sym (ap (λ (w : Visited). w.marks) v));
      quota = first.quota;
      has_best = first.has_best;
      place = λ e. absurd (both_ways true (sym (ap is_finished e)) refl);
    }

-- the best layout stays with the cost, where others change
pub best_kept : (seq : Sequence) (old new : Descent) → HasBest seq old → SameAnswer old new → SameLimits old new → length new.marks.items ≤ old.quota → HasBest seq new
best_kept seq old new has answer limits room = record {
  arranges = subst (λ b. Arranges seq.scalars (lists_of b)) (sym answer.best) has.arranges;
  cost = answer.cost ∙ has.cost ∙ ap (λ b. arranged_cost seq (lists_of b)) (sym answer.best);
  room = subst (λ q. length new.marks.items ≤ q) (sym limits.quota) room;
}

pub if_ok : {A E : Type 0} (P Q : A → Type 0) (r : Result A E) → ((x : A) → P x → Q x) → IfOk r P → IfOk r Q
if_ok P Q (Ok x) f h = f x h
if_ok P Q (Err e) f h = h

-- a search whose position moved
abbrev pub at_position : Descent → Position → Descent
at_position d p = record { position = p; quota = d.quota; best = d.best; cost = d.cost; marks = d.marks }

-- whether a node is complete, by what is kept of it
pub unplaced_none : (k : Kept) (b : Bool) → b ≡ (k.unplaced == 0) → b ≡ true → k.unplaced ≡ 0
unplaced_none k b is yes1 = eqb-true k.unplaced 0 (sym is ∙ yes1)

pub unplaced_some : (k : Kept) (b : Bool) → b ≡ (k.unplaced == 0) → b ≡ false → k.unplaced ≢ 0
unplaced_some k b is no1 = eqb-false k.unplaced 0 (sym is ∙ no1)
