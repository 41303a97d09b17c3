-- Each node is visited as the definition says: its own mark first, then what is below it.
use Rattle.std.proofs.Common.{◌≡◌, ◌≢◌, [], ◌∷◌, ◌+◌, ◌<◌, ◌≤◌, not, length, refl, ap, ap₂, sym, subst, ◌∙◌, arith, length-append}
use Rattle.std.specs.Prelude.{◌&&◌, is_some}
use Rattle.std.specs.List.{concat}
use Rattle.std.proofs.lemmas.Bool.{eqb-false, and_parts, not-true, ltb-true}
use Rattle.lay_cost.specs.Placements.{has}
use Rattle.lay_cost.specs.Parts.{Node, node_lists, lists_of}
use Rattle.lay_tree.specs.declared.answer.Mark.TheVariants.{Branched}
use Rattle.lay_tree.specs.Tree.{with_scalar, with_close, unplaced, is_complete, is_empty, has_closes_left, children}
use Rattle.lay_node.specs.declared.kept.Kept.{Kept}
use Rattle.lay_search.specs.declared.descent.Ending.TheVariants.{Finished, OutOfMarks}
use Rattle.lay_node.specs.Numbers.{AreSmall, needs_weights, needs_greatest, kept_in, kept_found, kept_reaches, may_close, by_loads}
use Rattle.lay_node.specs.Strings.{node_of}
use Rattle.lay_node.specs.Positions.{here, greatest_needed, IsAtWith, Leaves, Reopens}
use Rattle.lay_search.specs.Descents.{VisitsBelow, Visits, IsClosed}
use Rattle.lay_node.proofs.Unplaced.{unplaced_close}
use Rattle.lay_node.proofs.Children.{bound_reaches, empty_reaches, length_unplaced}
use Rattle.lay_node.proofs.Needs.{loads_are}
use Rattle.lay_node.proofs.Strung.{node_close}
use Rattle.lay_node.proofs.Proper.{proper_string, child_small, found_small, cost_small}
use Rattle.lay_node.proofs.Descending.{child_here, proper_child, same_at, same_less, below_then}
use Rattle.lay_search.proofs.Visiting.{seen, seen_below, placed_too, placed_below, visits_less, no_place, visits_closed, visits_complete, visits_branched, visits_from, visits_to, best_kept, if_ok, at_position, unplaced_none, unplaced_some}
use Rattle.lay_node.proofs.Walking.{complete_of, incomplete_of, below_in, below_skip, close_comes, back_from_scalar, back_from_close}
use Rattle.lay_search.proofs.Walking.{walk_next, walk_stop, walk_close, walk_end}
use Rattle.lay_search.proofs.descent.Descent.+descent.Goals as goal
use Rattle.lay_search.proofs.descent.Descent.+descent.Goals.{expand-then-not-is_placed+in_ok-visit_scalar+in-Finished, expand-else-not-is_placed}

pub visit_scalar-complete-requires-clause-complete : goal.visit_scalar-complete-requires-clause-complete
visit_scalar-complete-requires-clause-complete t c =
    let child = c.child_of-child.ensures in
    complete_of c.args.self.now.position.registers c.args.seq.now (with_scalar (here c.args.self.now.position) c.args.scalar) c.child_of-child.result child (unplaced_none c.child_of-child.result c.is_complete.result c.is_complete.ensures c.if-is_complete.true)

pub visit_scalar-reaches-requires-clause-small : goal.visit_scalar-reaches-requires-clause-small
visit_scalar-reaches-requires-clause-small t c =
    let seq = c.args.seq.now in
    let d = c.args.self.now in
    let at_it = c.requires.place in
    let child = c.child_of-child.ensures in
    subst (λ k. AreSmall k) (sym child) (child_small d.position.registers seq (here d.position) c.args.scalar at_it.sequence (proper_string seq.scalars d.position.string.items at_it.string) (proper_child seq d.position c.args.scalar at_it c.requires.scalar c.requires.unplaced) c.requires.scalar c.requires.unplaced)

pub visit_scalar-reaches-requires-clause-cost : goal.visit_scalar-reaches-requires-clause-cost
visit_scalar-reaches-requires-clause-cost t c = omega (arith, c.requires.best.cost, cost_small c.args.seq.now (lists_of c.args.self.now.best.items) c.requires.place.sequence)

pub visit_scalar-branch-self-requires : goal.visit_scalar-branch-self-requires
visit_scalar-branch-self-requires t c =
    let seq = c.args.seq.now in
    let d = c.args.self.now in
    let at_it = c.requires.place in
    let node = with_scalar (here d.position) c.args.scalar in
    let child = c.child_of-child.ensures in
    let fewer = ap (λ (k : Kept). k.unplaced) child in
    let closes = ap (λ (k : Kept). k.closes) child in
    let before = ap (λ (k : Kept). k.unplaced) c.requires.kept in
    let closed = ap (λ (k : Kept). k.closes) c.requires.kept in
    let now = c.decreases in
    let one_less = length_unplaced seq (here d.position) c.args.scalar c.requires.scalar c.requires.unplaced in
    let room : length d.marks.items < d.quota = omega (arith, c.requires.best.room, eqb-false (length d.marks.items) d.quota (sym c.is_full.ensures ∙ c.if-is_full.false)) in
    let incomplete = incomplete_of d.position.registers seq node c.child_of-child.result child (unplaced_some c.child_of-child.result c.is_complete.result c.is_complete.ensures c.if-is_complete.false) in
    let below = sym (bound_reaches d.position.registers seq node d.cost incomplete) ∙ ap (λ k. kept_reaches d.position.registers seq.step k d.cost) (sym child) ∙ sym c.reaches.ensures ∙ c.if-reaches.false in
    (omega (arith, now, fewer, closes, before, closed, one_less), (at_it, (c.requires.best, (c.requires.scalar, (c.requires.unplaced, (child, (room, (incomplete, below))))))))

pub visit_scalar-returns-in_ok-complete : goal.visit_scalar-returns-in_ok-complete
visit_scalar-returns-in_ok-complete t c =
    let seq = c.args.seq.now in
    let d = c.args.self.now in
    let node = with_scalar (here d.position) c.args.scalar in
    let child = c.child_of-child.ensures in
    let complete = complete_of d.position.registers seq node c.child_of-child.result child (unplaced_none c.child_of-child.result c.is_complete.result c.is_complete.ensures c.if-is_complete.true) in
    let room = eqb-false (length d.marks.items) d.quota (sym c.is_full.ensures ∙ c.if-is_full.false) in
    if_ok (λ e. IsClosed c.complete.new.self c.close_node.new.self e) (λ e. Visits seq (node ∷ []) d c.close_node.new.self e) c.close_node.result (λ e h. visits_complete seq node d c.complete.new.self c.close_node.new.self e c.requires.best room complete c.in_ok-complete.ensures h) c.close_node.ensures

pub visit_scalar-returns-then-reaches : goal.visit_scalar-returns-then-reaches
visit_scalar-returns-then-reaches t c =
    let seq = c.args.seq.now in
    let d = c.args.self.now in
    let node = with_scalar (here d.position) c.args.scalar in
    let child = c.child_of-child.ensures in
    let incomplete = incomplete_of d.position.registers seq node c.child_of-child.result child (unplaced_some c.child_of-child.result c.is_complete.result c.is_complete.ensures c.if-is_complete.false) in
    let reached = sym (bound_reaches d.position.registers seq node d.cost incomplete) ∙ ap (λ k. kept_reaches d.position.registers seq.step k d.cost) (sym child) ∙ sym c.reaches.ensures ∙ c.if-reaches.true in
    let room = eqb-false (length d.marks.items) d.quota (sym c.is_full.ensures ∙ c.if-is_full.false) in
    if_ok (λ e. IsClosed d c.close_node-then-reaches.new.self e) (λ e. Visits seq (node ∷ []) d c.close_node-then-reaches.new.self e) c.close_node-then-reaches.result (λ e h. visits_closed seq node d c.close_node-then-reaches.new.self e c.requires.best room reached h) c.close_node-then-reaches.ensures

pub branch-expand-requires : goal.branch-expand-requires
branch-expand-requires t c =
    let seq = c.args.seq.now in
    let old = c.args.self.now in
    let new = c.enter.new.self in
    let enters = c.in_ok-kept.ensures.enters in
    let writes = c.in_ok-kept.ensures.writes in
    let node = child_here seq old.position new.position c.args.scalar c.requires.place c.requires.scalar enters.string in
    let fewer : c.in_ok-kept.kept.unplaced ≡ c.args.child.unplaced = ap (λ (k : Kept). k.unplaced) enters.kept ∙ ap (λ n. length (unplaced seq n)) node ∙ sym (ap (λ (k : Kept). k.unplaced) c.requires.child) in
    let closes : c.in_ok-kept.kept.closes ≡ c.args.child.closes = ap (λ (k : Kept). k.closes) enters.kept ∙ ap (λ (n : Node). length n.closed) node ∙ sym (ap (λ (k : Kept). k.closes) c.requires.child) in
    let now = c.decreases in
    let registers = enters.registers in
    let room : length new.marks.items ≤ old.quota = omega (arith, c.requires.room, ap length writes.marks, length-append old.marks.items (Branched ∷ [])) in
    (omega (arith, now, fewer, closes, registers), (enters.at_child, (best_kept seq old new c.requires.best writes.answer (record { registers = enters.registers; quota = writes.quota }) room, (enters.kept, ap (is_complete seq) node ∙ c.requires.incomplete))))

pub branch-returns-in-Finished : goal.branch-returns-in-Finished
branch-returns-in-Finished t c =
    let seq = c.args.seq.now in
    let old = c.args.self.now in
    let d = c.enter.new.self in
    let e = c.expand.new.self in
    let s = c.args.scalar in
    let node = with_scalar (here old.position) s in
    let enters = c.in_ok-kept.ensures.enters in
    let writes = c.in_ok-kept.ensures.writes in
    let is = child_here seq old.position d.position s c.requires.place c.requires.scalar enters.string in
    let visits = subst (λ x. Visits seq (children d.position.registers seq (here d.position)) d e x) c.in-Finished.is c.in_ok-expand.ensures in
    let inner = subst (λ ns. Visits seq ns d e Finished) (ap₂ (λ k n. children k seq n) enters.registers is) visits in
    let room : length old.marks.items ≢ old.quota = λ same. absurd (omega (arith, same, c.requires.room)) in
    let closes = ap (λ (k : Kept). k.closes) c.requires.child in
    let registers : e.position.registers ≡ old.position.registers = (inner.place refl).registers ∙ enters.registers in
    let ranks = ap (λ r. not (by_loads r seq.step c.args.child)) registers ∙ loads_are old.position.registers seq (here old.position) c.args.child closes in
    let new = at_position e c.leave.new.self in
    let leaves = subst (λ b. Leaves b seq (length (here old.position).closed) s e.position c.leave.new.self) ranks (subst (λ n. Leaves (not (by_loads e.position.registers seq.step c.args.child)) seq n s e.position c.leave.new.self) closes c.leave.ensures) in
    let sees = visits_branched seq node old d e Finished c.requires.best room c.requires.incomplete c.requires.below writes.marks writes.answer (record { registers = enters.registers; quota = writes.quota }) (seen seq (children old.position.registers seq node) d e Finished inner) in
    placed_too seq (node ∷ []) old new Finished (visits_to seq (node ∷ []) old e new Finished (record { best = refl; cost = refl }) (record { registers = leaves.registers; quota = refl }) refl sees) (λ _. back_from_scalar seq old.position d.position e.position c.leave.new.self s c.in_ok-kept.kept c.requires.place c.requires.scalar c.requires.unplaced enters (inner.place refl) leaves)

pub branch-returns-in-OutOfMarks : goal.branch-returns-in-OutOfMarks
branch-returns-in-OutOfMarks t c =
    let seq = c.args.seq.now in
    let old = c.args.self.now in
    let d = c.enter.new.self in
    let e = c.expand.new.self in
    let s = c.args.scalar in
    let node = with_scalar (here old.position) s in
    let enters = c.in_ok-kept.ensures.enters in
    let writes = c.in_ok-kept.ensures.writes in
    let is = child_here seq old.position d.position s c.requires.place c.requires.scalar enters.string in
    let visits = subst (λ x. Visits seq (children d.position.registers seq (here d.position)) d e x) c.in-OutOfMarks.is c.in_ok-expand.ensures in
    let inner = subst (λ ns. Visits seq ns d e OutOfMarks) (ap₂ (λ k n. children k seq n) enters.registers is) visits in
    let room : length old.marks.items ≢ old.quota = λ same. absurd (omega (arith, same, c.requires.room)) in
    let sees = visits_branched seq node old d e OutOfMarks c.requires.best room c.requires.incomplete c.requires.below writes.marks writes.answer (record { registers = enters.registers; quota = writes.quota }) (seen seq (children old.position.registers seq node) d e OutOfMarks inner) in
    placed_too seq (node ∷ []) old e OutOfMarks sees (no_place old e)

pub visit_closed-reaches-requires-clause-small : goal.visit_closed-reaches-requires-clause-small
visit_closed-reaches-requires-clause-small t c =
    let seq = c.args.seq.now in
    let d = c.args.self.now in
    subst (λ k. AreSmall k) (sym c.requires.child) (found_small (greatest_needed seq d.position) (greatest_needed seq d.position) seq (here d.position) c.requires.place.sequence (proper_string seq.scalars d.position.string.items c.requires.place.string))

pub visit_closed-reaches-requires-clause-cost : goal.visit_closed-reaches-requires-clause-cost
visit_closed-reaches-requires-clause-cost t c = omega (arith, c.requires.best.cost, cost_small c.args.seq.now (lists_of c.args.self.now.best.items) c.requires.place.sequence)

pub visit_closed-returns-then-reaches : goal.visit_closed-returns-then-reaches
visit_closed-returns-then-reaches t c =
    let seq = c.args.seq.now in
    let d = c.args.self.now in
    let node = here d.position in
    let reached = sym (empty_reaches d.position.registers seq node d.cost c.requires.none c.requires.incomplete) ∙ ap (λ k. kept_reaches d.position.registers seq.step k d.cost) (sym c.requires.child) ∙ sym c.reaches.ensures ∙ c.if-reaches.true in
    let room : length d.marks.items ≢ d.quota = λ same. absurd (omega (arith, same, c.requires.room)) in
    if_ok (λ e. IsClosed d c.close_node.new.self e) (λ e. VisitsBelow (length node.closed) seq (node ∷ []) d c.close_node.new.self e) c.close_node.result (λ e h. visits_less seq (node ∷ []) d c.close_node.new.self e (visits_closed seq node d c.close_node.new.self e c.requires.best room reached h)) c.close_node.ensures

pub visit_closed-expand-requires : goal.visit_closed-expand-requires
visit_closed-expand-requires t c =
    let seq = c.args.seq.now in
    let old = c.args.self.now in
    let new = c.enter_closed.new.self in
    let found = c.in_ok-kept.ensures.weighs in
    let writes = c.in_ok-kept.ensures.writes in
    let node : here new.position ≡ here old.position = ap node_of found.same.string in
    let registers = found.same.registers in
    let same : greatest_needed seq old.position ≡ greatest_needed seq new.position = ap₂ (λ r n. needs_greatest r seq n) (sym registers) (sym node) in
    let now = c.decreases in
    let fewer : c.in_ok-kept.kept.unplaced ≡ c.args.child.unplaced = ap (λ (k : Kept). k.unplaced) found.numbers ∙ ap (λ n. length (unplaced seq n)) node ∙ sym (ap (λ (k : Kept). k.unplaced) c.requires.child) in
    let closes : c.in_ok-kept.kept.closes ≡ c.args.child.closes = ap (λ (k : Kept). k.closes) found.numbers ∙ ap (λ (n : Node). length n.closed) node ∙ sym (ap (λ (k : Kept). k.closes) c.requires.child) in
    let room : length new.marks.items ≤ old.quota = omega (arith, c.requires.room, ap length writes.marks, length-append old.marks.items (Branched ∷ [])) in
    (omega (arith, now, fewer, closes, registers), (subst (λ b. IsAtWith (needs_weights seq) b seq new.position) same found.place, (best_kept seq old new c.requires.best writes.answer (record { registers = found.same.registers; quota = writes.quota }) room, (found.numbers ∙ ap (λ b. kept_found (needs_weights seq) b seq (here new.position)) same, ap (is_complete seq) node ∙ c.requires.incomplete))))

pub visit_closed-returns-in_ok-kept : goal.visit_closed-returns-in_ok-kept
visit_closed-returns-in_ok-kept t c =
    let seq = c.args.seq.now in
    let old = c.args.self.now in
    let node = here old.position in
    let below = sym (empty_reaches old.position.registers seq node old.cost c.requires.none c.requires.incomplete) ∙ ap (λ k. kept_reaches old.position.registers seq.step k old.cost) (sym c.requires.child) ∙ sym c.reaches.ensures ∙ c.if-reaches.false in
    let room : length old.marks.items ≢ old.quota = λ same. absurd (omega (arith, same, c.requires.room)) in
    let d = c.enter_closed.new.self in
    let new = c.expand.new.self in
    let found = c.in_ok-kept.ensures.weighs in
    let writes = c.in_ok-kept.ensures.writes in
    let is : here d.position ≡ node = ap node_of found.same.string in
    if_ok (λ e. Visits seq (children d.position.registers seq (here d.position)) d new e) (λ e. VisitsBelow (length node.closed) seq (node ∷ []) old new e) c.expand.result
    (λ e h.
    let inner = subst (λ ns. Visits seq ns d new e) (ap₂ (λ k n. children k seq n) found.same.registers is) h in
    let sees = visits_branched seq node old d new e c.requires.best room c.requires.incomplete below writes.marks writes.answer (record { registers = found.same.registers; quota = writes.quota }) (seen seq (children old.position.registers seq node) d new e inner) in
    placed_below (length node.closed) seq (node ∷ []) old new e sees (λ ends. below_then (length node.closed) old.position d.position new.position found.same (same_less (length node.closed) (length (here d.position).closed + 1) d.position new.position (omega (arith, ap (λ (n : Node). length n.closed) is)) (h.place ends))))
    c.expand.ensures

pub visit_close-visit_closed-requires : goal.visit_close-visit_closed-requires
visit_close-visit_closed-requires t c =
    let seq = c.args.seq.now in
    let old = c.args.self.now in
    let new = at_position old c.close_list-child.new.self in
    let closes = c.close_list-child.ensures in
    let is : here new.position ≡ with_close (here old.position) = ap node_of closes.string ∙ node_close old.position.string.items in
    let fewer : c.close_list-child.result.unplaced ≡ c.args.kept.unplaced = ap (λ (k : Kept). k.unplaced) closes.kept ∙ ap (λ n. length (unplaced seq n)) is ∙ ap length (unplaced_close seq (here old.position)) ∙ sym (ap (λ (k : Kept). k.unplaced) c.requires.kept) in
    let one_more : c.close_list-child.result.closes ≡ c.args.kept.closes + 1 = ap (λ (k : Kept). k.closes) closes.kept ∙ ap (λ (n : Node). length n.closed) is ∙ Rattle.std.proofs.lemmas.List.length_push (here old.position).closed (here old.position).open_list ∙ sym (ap (λ (k : Kept). k.closes + 1) c.requires.kept) in
    let kept_closes = ap (λ (k : Kept). k.closes) c.requires.kept in
    let now = c.decreases in
    let registers = closes.registers in
    let few = ltb-true _ _ c.requires.left in
    let room : length new.marks.items < new.quota = omega (arith, c.requires.best.room, eqb-false (length old.marks.items) old.quota (sym c.is_full.ensures ∙ c.if-is_full.false)) in
    let incomplete = ap (is_complete seq) is ∙ ap is_empty (unplaced_close seq (here old.position)) ∙ c.requires.incomplete in
    (omega (arith, now, fewer, one_more, kept_closes, registers, few), (closes.at_child, (best_kept seq old new c.requires.best (record { best = refl; cost = refl }) (record { registers = closes.registers; quota = refl }) (omega (arith, room)), (closes.kept, (ap (λ (n : Node). n.open_list) is, (room, incomplete))))))

pub visit_close-returns-in-Finished : goal.visit_close-returns-in-Finished
visit_close-returns-in-Finished t c =
    let seq = c.args.seq.now in
    let old = c.args.self.now in
    let d = at_position old c.close_list-child.new.self in
    let e = c.visit_closed.new.self in
    let new = at_position e c.reopen.new.self in
    let node = with_close (here old.position) in
    let closes = c.close_list-child.ensures in
    let is : here d.position ≡ node = ap node_of closes.string ∙ node_close old.position.string.items in
    let visits = subst (λ x. VisitsBelow (length (here d.position).closed) seq (here d.position ∷ []) d e x) c.in-Finished.is c.in_ok-visit_closed.ensures in
    let inner = subst (λ n. VisitsBelow (length (here d.position).closed) seq (n ∷ []) d e Finished) is visits in
    let sees = visits_from seq (node ∷ []) old d e Finished refl (record { best = refl; cost = refl }) (record { registers = closes.registers; quota = refl }) (seen_below (length (here d.position).closed) seq (node ∷ []) d e Finished inner) in
    let deeper : length (here old.position).closed < length (here d.position).closed = omega (arith, ap (λ (n : Node). length n.closed) is, length-append (here old.position).closed ((here old.position).open_list ∷ [])) in
    placed_too seq (node ∷ []) old new Finished (visits_to seq (node ∷ []) old e new Finished (record { best = refl; cost = refl }) (record { registers = c.reopen.ensures.registers; quota = refl }) refl sees) (λ _. back_from_close seq old.position d.position e.position c.reopen.new.self c.close_list-child.result closes (inner.place refl) deeper (subst (λ o. Reopens o e.position c.reopen.new.self) c.outside-outside.ensures c.reopen.ensures))

pub expand-loop-scalar-preserved : goal.expand-loop-scalar-preserved
expand-loop-scalar-preserved t c =
    let seq = c.args.seq.now in
    let old = c.args.self.now in
    let now = c.loop-scalar.self in
    let i = c.loop-scalar.scalar in
    let first = c.loop-scalar.invariant in
    let same = first.place refl in
    let back = same_at seq old.position now.position c.requires.place same in
    let node : here now.position ≡ here old.position = ap node_of same.string in
    let lt : i < seq.scalars = subst (λ n. i < n) c.scalars-scalar-end.ensures.scalars c.loop-scalar-test.true in
    let whether : has (concat (node_lists (here old.position))) i ≡ c.is_placed.result = ap (λ n. has (concat (node_lists n)) i) (sym node) ∙ sym (back.placed i lt) ∙ sym c.is_placed.ensures in
    elim c.if-not-is_placed.branch [
      | expand-then-not-is_placed+in_ok-visit_scalar+in-Finished w ↦
          let second = subst (λ x. Visits seq (with_scalar (here now.position) i ∷ []) now w.visit_scalar.new.self x) w.in-Finished.is w.in_ok-visit_scalar.ensures in
          subst (λ d. Visits seq (below_in (here old.position) (i + 1)) old d Finished) (sym w.self-is) (walk_next seq old now w.visit_scalar.new.self i Finished (whether ∙ w.if-not-is_placed.true) first second)
      | expand-else-not-is_placed w ↦
          subst (λ d. Visits seq (below_in (here old.position) (i + 1)) old d Finished) (sym w.self-is) (subst (λ ns. Visits seq ns old now Finished) (sym (below_skip (here old.position) i (whether ∙ w.if-not-is_placed.false))) first)
    ]

pub expand-visit_scalar-requires : goal.expand-visit_scalar-requires
expand-visit_scalar-requires t c =
    let seq = c.args.seq.now in
    let old = c.args.self.now in
    let now = c.loop-scalar.self in
    let i = c.loop-scalar.scalar in
    let same = c.loop-scalar.invariant.place refl in
    let back = same_at seq old.position now.position c.requires.place same in
    let node : here now.position ≡ here old.position = ap node_of same.string in
    let lt : i < seq.scalars = subst (λ n. i < n) c.scalars-scalar-end.ensures.scalars c.loop-scalar-test.true in
    let lacks = sym (back.placed i lt) ∙ sym c.is_placed.ensures ∙ c.if-not-is_placed.true in
    let measure = c.decreases in
    let registers = same.registers in
    (omega (arith, measure, registers), (back, (c.loop-scalar.invariant.has_best, (c.requires.kept ∙ ap₂ (λ r n. kept_in r seq n) (sym registers) (sym node), (lt, lacks)))))

pub expand-returns-in-OutOfMarks : goal.expand-returns-in-OutOfMarks
expand-returns-in-OutOfMarks t c =
    let seq = c.args.seq.now in
    let old = c.args.self.now in
    let now = c.loop-scalar.self in
    let new = c.visit_scalar.new.self in
    let i = c.loop-scalar.scalar in
    let first = c.loop-scalar.invariant in
    let same = first.place refl in
    let back = same_at seq old.position now.position c.requires.place same in
    let node : here now.position ≡ here old.position = ap node_of same.string in
    let lt : i < seq.scalars = subst (λ n. i < n) c.scalars-scalar-end.ensures.scalars c.loop-scalar-test.true in
    let lacks = ap (λ n. has (concat (node_lists n)) i) (sym node) ∙ sym (back.placed i lt) ∙ sym c.is_placed.ensures ∙ c.if-not-is_placed.true in
    let second = subst (λ x. Visits seq (with_scalar (here now.position) i ∷ []) now new x) c.in-OutOfMarks.is c.in_ok-visit_scalar.ensures in
    walk_stop seq old.position.registers old new (i + 1) (omega (arith, lt)) (walk_next seq old now new i OutOfMarks lacks first second)

pub expand-visit_close-requires : goal.expand-visit_close-requires
expand-visit_close-requires t c =
    let seq = c.args.seq.now in
    let old = c.args.self.now in
    let now = c.loop-scalar.self in
    let same = c.loop-scalar.invariant.place refl in
    let back = same_at seq old.position now.position c.requires.place same in
    let node : here now.position ≡ here old.position = ap node_of same.string in
    let kept = c.requires.kept ∙ ap₂ (λ r n. kept_in r seq n) (sym same.registers) (sym node) in
    let parts = and_parts (not (is_empty (here now.position).open_list)) (has_closes_left now.position.registers (here now.position)) (sym (close_comes now.position.registers seq (here now.position) c.args.kept kept) ∙ sym c.closes_next.ensures ∙ c.if-closes_next.true) in
    let measure = c.decreases in
    let registers = same.registers in
    (omega (arith, measure, registers), (back, (c.loop-scalar.invariant.has_best, (kept, (not-true (is_empty (here now.position).open_list) parts.0, (parts.1, ap (is_complete seq) node ∙ c.requires.incomplete))))))

pub expand-returns-then-closes_next : goal.expand-returns-then-closes_next
expand-returns-then-closes_next t c =
    let seq = c.args.seq.now in
    let old = c.args.self.now in
    let now = c.loop-scalar.self in
    let new = c.visit_close.new.self in
    let i = c.loop-scalar.scalar in
    let first = c.loop-scalar.invariant in
    let same = first.place refl in
    let all : i ≡ seq.scalars = omega (arith, c.loop-scalar-test.false, c.loop-scalar.auto.scalar-end, c.scalars-scalar-end.ensures.scalars) in
    let comes = sym (close_comes old.position.registers seq (here old.position) c.args.kept c.requires.kept) ∙ ap (λ k. is_some c.args.kept.last && may_close k c.args.kept) (sym same.registers) ∙ sym c.closes_next.ensures ∙ c.if-closes_next.true in
    if_ok (λ e. Visits seq (with_close (here now.position) ∷ []) now new e) (λ e. Visits seq (children old.position.registers seq (here old.position)) old new e) c.visit_close.result (λ e h. walk_close seq old.position.registers old now new i e all comes first h) c.visit_close.ensures

pub expand-returns-else-closes_next : goal.expand-returns-else-closes_next
expand-returns-else-closes_next t c =
    let seq = c.args.seq.now in
    let old = c.args.self.now in
    let now = c.loop-scalar.self in
    let i = c.loop-scalar.scalar in
    let first = c.loop-scalar.invariant in
    let same = first.place refl in
    let all : i ≡ seq.scalars = omega (arith, c.loop-scalar-test.false, c.loop-scalar.auto.scalar-end, c.scalars-scalar-end.ensures.scalars) in
    let none = sym (close_comes old.position.registers seq (here old.position) c.args.kept c.requires.kept) ∙ ap (λ k. is_some c.args.kept.last && may_close k c.args.kept) (sym same.registers) ∙ sym c.closes_next.ensures ∙ c.if-closes_next.false in
    walk_end seq old.position.registers old now i all none first
