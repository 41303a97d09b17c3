-- Each node's mark is read before those of what is below it.
use Rattle.std.proofs.Common.{◌≡◌, [], ◌∷◌, ◌+◌, ◌<◌, false, not, length, ap, ap₂, sym, subst, ◌∙◌, arith, w64, length-append}
use Rattle.std.specs.Prelude.{◌&&◌, is_some}
use Rattle.std.specs.List.{concat}
use Rattle.std.proofs.lemmas.Bool.{and_parts, not-true, ltb-true}
use Rattle.std.proofs.lemmas.Int.{to_z-of_z}
use Rattle.lay_cost.specs.Placements.{has}
use Rattle.lay_cost.specs.Parts.{Node, node_lists}
use Rattle.lay_tree.specs.Tree.{with_scalar, with_close, unplaced, is_complete, is_empty, has_closes_left, children}
use Rattle.lay_tree.specs.declared.answer.Mark.TheVariants.{Closed}
use Rattle.lay_tree.specs.Bound.{bound}
use Rattle.lay_node.specs.declared.kept.Kept.{Kept}
use Rattle.lay_node.specs.declared.position.Position.{Position}
use Rattle.lay_node.specs.Numbers.{AreSmall, kept_in, kept_at, kept_found, kept_bound, may_close, by_loads}
use Rattle.lay_node.specs.Strings.{node_of}
use Rattle.lay_node.specs.Positions.{here, greatest_needed, IsAt, Leaves, Reopens}
use Rattle.lay_node.proofs.Unplaced.{unplaced_close}
use Rattle.lay_node.proofs.Children.{empty_bound, length_unplaced}
use Rattle.lay_node.proofs.Needs.{loads_are}
use Rattle.lay_node.proofs.Strung.{node_close}
use Rattle.lay_node.proofs.Proper.{proper_string, found_small}
use Rattle.lay_node.proofs.Descending.{child_here, same_at}
use Rattle.lay_node.proofs.Walking.{incomplete_of, below_in, close_comes, back_from_scalar, back_from_close}
use Rattle.lay_replay.specs.Walks.{FitTo, Reads, FitsHere, Fails}
use Rattle.lay_replay.proofs.Walked.{stopped, walk_next, walk_skip, walk_fail, walk_close, walk_end, walk_closed}
use Rattle.lay_replay.proofs.walk.Walk.+walk.Goals as goal
use Rattle.lay_replay.proofs.walk.Walk.+walk.Goals.{expand-then-not-is_placed+in_ok-visit_scalar, expand-else-not-is_placed}

pub expand-visit_scalar-requires : goal.expand-visit_scalar-requires
expand-visit_scalar-requires t c =
    let seq = c.args.seq.now in
    let old = c.args.self.now in
    let now = c.loop-scalar.self in
    let i = c.loop-scalar.scalar in
    let same = c.loop-scalar.invariant.place in
    let back = same_at seq old.position now.position c.requires.place same in
    let node : here now.position ≡ here old.position = ap node_of same.string in
    let lt : i < seq.scalars = subst (λ n. i < n) c.scalars-scalar-end.ensures.scalars c.loop-scalar-test.true in
    let lacks = sym (back.placed i lt) ∙ sym c.is_placed.ensures ∙ c.if-not-is_placed.true in
    let measure = c.decreases in
    let registers = same.registers in
    (omega (arith, measure, registers), (back, (c.requires.kept ∙ ap₂ (λ r n. kept_in r seq n) (sym registers) (sym node), (lt, lacks))))

pub expand-returns-in_err-visit_scalar : goal.expand-returns-in_err-visit_scalar
expand-returns-in_err-visit_scalar t c =
    let seq = c.args.seq.now in
    let old = c.args.self.now in
    let now = c.loop-scalar.self in
    let i = c.loop-scalar.scalar in
    let first = c.loop-scalar.invariant in
    let back = same_at seq old.position now.position c.requires.place first.place in
    let node : here now.position ≡ here old.position = ap node_of first.place.string in
    let lt : i < seq.scalars = subst (λ n. i < n) c.scalars-scalar-end.ensures.scalars c.loop-scalar-test.true in
    let lacks = ap (λ n. has (concat (node_lists n)) i) (sym node) ∙ sym (back.placed i lt) ∙ sym c.is_placed.ensures ∙ c.if-not-is_placed.true in
    let new = c.visit_scalar.new.self in
    let fault = c.in_err-visit_scalar.field-0.0 in
    let ns = children old.position.registers seq (here old.position) in
    stopped (λ _. FitsHere seq c.args.cost c.args.marks.now ns old new) (λ f. Fails seq c.args.cost c.args.marks.now ns old new f) c.from_residual.result fault c.from_residual.ensures.1 (walk_fail seq c.args.cost c.args.marks.now old now new i fault lt lacks first c.in_err-visit_scalar.ensures)

pub expand-loop-scalar-preserved : goal.expand-loop-scalar-preserved
expand-loop-scalar-preserved t c =
    let seq = c.args.seq.now in
    let cost = c.args.cost in
    let marks = c.args.marks.now in
    let old = c.args.self.now in
    let now = c.loop-scalar.self in
    let i = c.loop-scalar.scalar in
    let first = c.loop-scalar.invariant in
    let back = same_at seq old.position now.position c.requires.place first.place in
    let node : here now.position ≡ here old.position = ap node_of first.place.string in
    let lt : i < seq.scalars = subst (λ n. i < n) c.scalars-scalar-end.ensures.scalars c.loop-scalar-test.true in
    let whether : has (concat (node_lists (here old.position))) i ≡ c.is_placed.result = ap (λ n. has (concat (node_lists n)) i) (sym node) ∙ sym (back.placed i lt) ∙ sym c.is_placed.ensures in
    elim c.if-not-is_placed.branch [
      | expand-then-not-is_placed+in_ok-visit_scalar w ↦
          subst (λ d. FitsHere seq cost marks (below_in (here old.position) (i + 1)) old d) (sym w.self-is) (walk_next seq cost marks old now w.visit_scalar.new.self i (whether ∙ w.if-not-is_placed.true) first w.in_ok-visit_scalar.ensures)
      | expand-else-not-is_placed w ↦
          subst (λ d. FitsHere seq cost marks (below_in (here old.position) (i + 1)) old d) (sym w.self-is) (walk_skip seq cost marks old now i (whether ∙ w.if-not-is_placed.false) first)
    ]

pub expand-visit_close-requires : goal.expand-visit_close-requires
expand-visit_close-requires t c =
    let seq = c.args.seq.now in
    let old = c.args.self.now in
    let now = c.loop-scalar.self in
    let same = c.loop-scalar.invariant.place in
    let back = same_at seq old.position now.position c.requires.place same in
    let node : here now.position ≡ here old.position = ap node_of same.string in
    let kept = c.requires.kept ∙ ap₂ (λ r n. kept_in r seq n) (sym same.registers) (sym node) in
    let parts = and_parts (not (is_empty (here now.position).open_list)) (has_closes_left now.position.registers (here now.position)) (sym (close_comes now.position.registers seq (here now.position) c.args.kept kept) ∙ sym c.closes_next.ensures ∙ c.if-closes_next.true) in
    let measure = c.decreases in
    let registers = same.registers in
    (omega (arith, measure, registers), (back, (kept, (not-true (is_empty (here now.position).open_list) parts.0, (parts.1, ap (is_complete seq) node ∙ c.requires.incomplete)))))

pub expand-returns-then-closes_next : goal.expand-returns-then-closes_next
expand-returns-then-closes_next t c =
    let seq = c.args.seq.now in
    let old = c.args.self.now in
    let now = c.loop-scalar.self in
    let i = c.loop-scalar.scalar in
    let first = c.loop-scalar.invariant in
    let all : i ≡ seq.scalars = omega (arith, c.loop-scalar-test.false, c.loop-scalar.auto.scalar-end, c.scalars-scalar-end.ensures.scalars) in
    let comes = sym (close_comes old.position.registers seq (here old.position) c.args.kept c.requires.kept) ∙ ap (λ k. is_some c.args.kept.last && may_close k c.args.kept) (sym first.place.registers) ∙ sym c.closes_next.ensures ∙ c.if-closes_next.true in
    walk_close seq c.args.cost c.args.marks.now old now c.visit_close.new.self i c.visit_close.result all comes first c.visit_close.ensures

pub expand-returns-else-closes_next : goal.expand-returns-else-closes_next
expand-returns-else-closes_next t c =
    let seq = c.args.seq.now in
    let old = c.args.self.now in
    let now = c.loop-scalar.self in
    let i = c.loop-scalar.scalar in
    let first = c.loop-scalar.invariant in
    let all : i ≡ seq.scalars = omega (arith, c.loop-scalar-test.false, c.loop-scalar.auto.scalar-end, c.scalars-scalar-end.ensures.scalars) in
    let none = sym (close_comes old.position.registers seq (here old.position) c.args.kept c.requires.kept) ∙ ap (λ k. is_some c.args.kept.last && may_close k c.args.kept) (sym first.place.registers) ∙ sym c.closes_next.ensures ∙ c.if-closes_next.false in
    walk_end seq c.args.cost c.args.marks.now old now i all none first

pub branch-returns : goal.branch-returns
branch-returns t c =
    let seq = c.args.seq.now in
    let old = c.args.self.now in
    let d = c.enter-kept.new.self in
    let e = c.expand.new.self in
    let s = c.args.scalar in
    let k = old.position.registers in
    let enters = c.enter-kept.ensures in
    let is = child_here seq old.position d s c.requires.place c.requires.scalar enters.string in
    let inner = c.in_ok-expand.ensures in
    let closes = ap (λ (j : Kept). j.closes) c.requires.child in
    let registers : e.position.registers ≡ k = inner.place.registers ∙ enters.registers in
    let ranks = ap (λ r. not (by_loads r seq.step c.args.child)) registers ∙ loads_are k seq (here old.position) c.args.child closes in
    let leaves = subst (λ b. Leaves b seq (length (here old.position).closed) s e.position c.leave.new.self) ranks (subst (λ n. Leaves (not (by_loads e.position.registers seq.step c.args.child)) seq n s e.position c.leave.new.self) closes c.leave.ensures) in
    record {
      fit = subst (λ n. FitTo k seq c.args.cost c.args.marks.now (children k seq n) old.next e.next) is (subst (λ r. FitTo r seq c.args.cost c.args.marks.now (children r seq (here d)) old.next e.next) enters.registers inner.fit);
      place = back_from_scalar seq old.position d e.position c.leave.new.self s c.enter-kept.result c.requires.place c.requires.scalar c.requires.unplaced enters inner.place leaves;
    }

pub visit_close-visit_closed-requires : goal.visit_close-visit_closed-requires
visit_close-visit_closed-requires t c =
    let seq = c.args.seq.now in
    let old = c.args.self.now in
    let closes = c.close_list-child.ensures in
    let new = c.close_list-child.new.self in
    let child = c.close_list-child.result in
    let is : here new ≡ with_close (here old.position) = ap node_of closes.string ∙ node_close old.position.string.items in
    let fewer : child.unplaced ≡ c.args.kept.unplaced = ap (λ (k : Kept). k.unplaced) closes.kept ∙ ap (λ n. length (unplaced seq n)) is ∙ ap length (unplaced_close seq (here old.position)) ∙ sym (ap (λ (k : Kept). k.unplaced) c.requires.kept) in
    let one_more : child.closes ≡ c.args.kept.closes + 1 = ap (λ (k : Kept). k.closes) closes.kept ∙ ap (λ (n : Node). length n.closed) is ∙ Rattle.std.proofs.lemmas.List.length_push (here old.position).closed (here old.position).open_list ∙ sym (ap (λ (k : Kept). k.closes + 1) c.requires.kept) in
    let kept_closes = ap (λ (k : Kept). k.closes) c.requires.kept in
    let now = c.decreases in
    let registers = closes.registers in
    let few = ltb-true _ _ c.requires.left in
    let incomplete = ap (is_complete seq) is ∙ ap is_empty (unplaced_close seq (here old.position)) ∙ c.requires.incomplete in
    (omega (arith, now, fewer, one_more, kept_closes, registers, few), (closes.at_child, (closes.kept, (ap (λ (n : Node). n.open_list) is, incomplete))))

pub visit_close-returns : goal.visit_close-returns
visit_close-returns t c =
    let seq = c.args.seq.now in
    let old = c.args.self.now in
    let d = c.close_list-child.new.self in
    let e = c.visit_closed.new.self in
    let new = c.reopen.new.self in
    let k = old.position.registers in
    let closes = c.close_list-child.ensures in
    let is : here d ≡ with_close (here old.position) = ap node_of closes.string ∙ node_close old.position.string.items in
    let inner = c.in_ok-visit_closed.ensures in
    let deeper : length (here old.position).closed < length (here d).closed = omega (arith, ap (λ (n : Node). length n.closed) is, length-append (here old.position).closed ((here old.position).open_list ∷ [])) in
    record {
      fit = subst (λ n. FitTo k seq c.args.cost c.args.marks.now (n ∷ []) old.next e.next) is (subst (λ r. FitTo r seq c.args.cost c.args.marks.now (here d ∷ []) old.next e.next) closes.registers inner.fit);
      place = back_from_close seq old.position d e.position new c.close_list-child.result closes inner.place deeper (subst (λ o. Reopens o e.position new) c.outside-outside.ensures c.reopen.ensures);
    }

pub visit_closed-bound-requires : goal.visit_closed-bound-requires
visit_closed-bound-requires t c =
    let seq = c.args.seq.now in
    let p = c.args.self.now.position in
    subst (λ k. AreSmall k) (sym c.requires.child) (found_small (greatest_needed seq p) (greatest_needed seq p) seq (here p) c.requires.place.sequence (proper_string seq.scalars p.string.items c.requires.place.string))

pub visit_closed-weigh_for_costs-kept-requires-clause-kept : goal.visit_closed-weigh_for_costs-kept-requires-clause-kept
visit_closed-weigh_for_costs-kept-requires-clause-kept t c = c.requires.child ∙ ap (λ (p : Position). kept_found (greatest_needed c.args.seq.now p) (greatest_needed c.args.seq.now p) c.args.seq.now (here p)) (sym c.read.ensures.place)

pub visit_closed-returns-in-Closed : goal.visit_closed-returns-in-Closed
visit_closed-returns-in-Closed t c =
    let seq = c.args.seq.now in
    let old = c.args.self.now in
    let new = c.read.new.self in
    let marks = c.args.marks.now in
    let k = old.position.registers in
    let n = here old.position in
    let read = subst (λ m. Reads marks m old new) c.in-Closed.is c.in_ok-read.ensures.mark in
    let back = to_z-of_z w64 c.bound.result (record { sfits = c.bound.type_inv }) in
    let is : c.bound.result ≡ bound k seq n = c.bound.ensures ∙ ap (λ (p : Position). kept_bound p.registers seq.step c.args.child) c.read.ensures.place ∙ ap (kept_bound k seq.step) c.requires.child ∙ empty_bound k seq n c.requires.none c.requires.incomplete in
    walk_closed (length n.closed) seq c.args.cost marks n old new _ c.node.result c.check_closed.result read c.node.ensures (back ∙ is) c.check_closed.ensures

pub visit_scalar-child_of-child-requires-clause-kept : goal.visit_scalar-child_of-child-requires-clause-kept
visit_scalar-child_of-child-requires-clause-kept t c = c.requires.kept ∙ ap (λ (p : Position). kept_in p.registers c.args.seq.now (here p)) (sym c.read.ensures.place)

pub visit_scalar-branch-self-requires : goal.visit_scalar-branch-self-requires
visit_scalar-branch-self-requires t c =
    let seq = c.args.seq.now in
    let old = c.args.self.now in
    let s = c.args.scalar in
    let d = c.read.new.self.position in
    let place = c.read.ensures.place in
    let n = here old.position in
    let kept = c.child_of-child.ensures in
    let child = kept ∙ ap (λ (p : Position). kept_at p.registers seq (with_scalar (here p) s)) place in
    let fewer = ap (λ (k : Kept). k.unplaced) child in
    let closes = ap (λ (k : Kept). k.closes) child in
    let before = ap (λ (k : Kept). k.unplaced) c.requires.kept in
    let closed = ap (λ (k : Kept). k.closes) c.requires.kept in
    let registers = ap (λ (p : Position). p.registers) place in
    let now = c.decreases in
    let one_less = length_unplaced seq n s c.requires.scalar c.requires.unplaced in
    let incomplete = incomplete_of d.registers seq (with_scalar (here d) s) c.child_of-child.result kept c.in_ok-check_branched-in-Branched.ensures in
    (omega (arith, now, fewer, closes, before, closed, registers, one_less), (subst (λ p. IsAt seq p) (sym place) c.requires.place, (c.requires.scalar, (subst (λ p. has (concat (node_lists (here p))) s ≡ false) (sym place) c.requires.unplaced, (kept, incomplete)))))

pub visit_scalar-returns-in-Closed : goal.visit_scalar-returns-in-Closed
visit_scalar-returns-in-Closed t c =
    let seq = c.args.seq.now in
    let old = c.args.self.now in
    let new = c.child_bound-bound.new.self in
    let marks = c.args.marks.now in
    let s = c.args.scalar in
    let n = with_scalar (here old.position) s in
    let found = subst (λ m. Reads marks m old c.read.new.self) c.in-Closed.is c.in_ok-mark.ensures.mark in
    let read = subst (λ w. Reads marks Closed old w) (sym c.child_bound-bound.ensures.same) found in
    let back = to_z-of_z w64 c.child_bound-bound.result (record { sfits = c.child_bound-bound.type_inv }) in
    let is : c.child_bound-bound.result ≡ bound old.position.registers seq n = c.child_bound-bound.ensures.bound ∙ ap (λ (p : Position). bound p.registers seq (with_scalar (here p) s)) c.read.ensures.place in
    walk_closed (length (here old.position).closed + 1) seq c.args.cost marks n old new _ c.node.result c.check_closed.result read c.node.ensures (back ∙ is) c.check_closed.ensures
