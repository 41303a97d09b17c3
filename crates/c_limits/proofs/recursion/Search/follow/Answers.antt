use Rattle.std.proofs.Common.{◌≡◌, ◌<◌, ◌+◌, Bool, true, false, [], ◌∷◌, ◌++◌, Some, set, length, map, vec_items, arith, rules, sym, subst, ◌∙◌, ap, slice_index}
use Rattle.std.specs.Prelude.{slice_get}
use Rattle.c_limits.specs.declared.recursion.Search.{Search}
use Rattle.c_limits.specs.Trails.{reached_by, trail_of}
use Rattle.c_limits.proofs.SearchLemmas.{AtPlace, Following, entry_at, caller_within, at_place, callee_within, next_entered, next_passed, place_done, mark_read}
use Rattle.c_limits.proofs.recursion.Search.follow.Goals as goal
use Rattle.c_limits.proofs.recursion.Search.follow.Goals.{After-deref-callee-items, then-function-first+then-not-index+in_ok-push, else-function-first, else-function-first-via-then-function-first+else-not-index, else-function-first-via-else-function-first}

pub bounds-callees-caller : goal.bounds-callees-caller
bounds-callees-caller c = caller_within c.args.callees.now c.args.first c.args.place c.args.self.now c.index.result.now c.requires.searched c.requires.first c.requires.place c.index.ensures

pub offset_bounds-callees-caller : goal.offset_bounds-callees-caller
offset_bounds-callees-caller c =
    let within = caller_within c.args.callees.now c.args.first c.args.place c.args.self.now c.index.result.now c.requires.searched c.requires.first c.requires.place c.index.ensures
    in search rules

here : (c : After-deref-callee-items) → AtPlace (map vec_items c.args.callees.now) c.args.first c.args.place c.args.self.now c.index.result.now c.deref-callee-items.result.now
here c =
    let low = caller_within c.args.callees.now c.args.first c.args.place c.args.self.now c.index.result.now c.requires.searched c.requires.first c.requires.place c.index.ensures
    in at_place c.args.callees.now c.args.first c.args.place c.args.self.now c.index.result.now c.index-callees-caller.result c.deref-callee-items.result.now c.requires.ordered
    c.requires.searched c.requires.place c.index.ensures low c.index-callees-caller.is c.deref-callee-items.ensures.value

pub index-requires-then-function-first : goal.index-requires-then-function-first
index-requires-then-function-first c =
    let at = here (goal.at.index-requires-then-function-first c).After-deref-callee-items in
    let low = callee_within _ _ c.loop-callee.callee-index _ at.ordered at.list c.loop-callee-test.true
    in omega (arith, low, c.from-function.ensures, c.loop-callee.invariant.size)

pub index_mut-requires : goal.index_mut-requires
index_mut-requires c =
    let at = here (goal.at.index_mut-requires c).After-deref-callee-items in
    let low = callee_within _ _ c.loop-callee.callee-index _ at.ordered at.list c.loop-callee-test.true
    in omega (arith, low, c.from-function.ensures, c.loop-callee.invariant.size)

pub loop-callee-preserved : goal.loop-callee-preserved
loop-callee-preserved c =
    let at = here (goal.at.loop-callee-preserved c).After-deref-callee-items in
    let i = c.loop-callee.callee-index in
    let list = c.deref-callee-items.result.now in
    let y = c.from-function.result in
    let before = c.loop-callee.self in
    let read : y ≡ slice_index list i = c.from-function.ensures in
    let low : y < length before.entered.items =
    let within = callee_within _ _ i _ at.ordered at.list c.loop-callee-test.true in omega (arith, within, read, c.loop-callee.invariant.size) in
    let P : Search → Type 0 = λ s. Following (map vec_items c.args.callees.now) c.args.first c.args.place c.args.self.now.steps.items list (i + 1) s in
    let marked : (b : Bool) → slice_get before.entered.items y ≡ Some b → slice_get before.entered.items (slice_index list i) ≡ Some b =
    λ b mark. subst (λ n. slice_get before.entered.items n ≡ Some b) read mark in
    elim c.if-function-first.branch [
      | then-function-first+then-not-index+in_ok-push w ↦
          subst P (sym w.self-is)
          (next_entered i before _ at c.loop-callee.invariant c.loop-callee-test.true
          (marked false (mark_read before.entered.items y w.index-then-function-first.result.now false low w.index-then-function-first.ensures w.if-not-index.true))
          (w.in_ok-push.ensures.items ∙ ap (λ n. before.steps.items ++ record { function = n; from = Some c.args.place } ∷ []) read)
          (ap (λ n. set before.entered.items n true) read))
      | else-function-first w ↦
          elim w.else-function-first.branch [
            | else-function-first-via-then-function-first+else-not-index v ↦
                subst P (sym w.self-is)
                (next_passed i before at c.loop-callee.invariant c.loop-callee-test.true
                (λ _. marked true (mark_read before.entered.items y v.index-then-function-first.result.now true low v.index-then-function-first.ensures v.if-not-index.false)))
            | else-function-first-via-else-function-first v ↦
                subst P (sym w.self-is)
                (next_passed i before at c.loop-callee.invariant c.loop-callee-test.true (λ high. absurd (omega (arith, high, read, v.if-function-first.false))))
          ]
    ]

pub returns : goal.returns
returns c =
    let at = here (goal.at.returns c).After-deref-callee-items in
    place_done c.loop-callee.callee-index c.loop-callee.self at
    (λ later. c.requires.apart later (reached_by (trail_of c.args.self.now.steps.items) c.index.result.now) (entry_at at)) (omega arith) c.loop-callee.invariant
