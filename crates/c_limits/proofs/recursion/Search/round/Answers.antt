use Rattle.std.proofs.Common.{◌≡◌, ◌<◌, ◌≢◌, ◌∙◌, length, map, vec_items, arith, Some, sym, subst}
use Rattle.std.specs.Prelude.{slice_get}
use Rattle.std.proofs.lemmas.List.{length-map}
use Rattle.c_limits.specs.declared.recursion.Search.{Search}
use Rattle.c_limits.specs.Trails.{Reached, HasSearched, trail_of}
use Rattle.c_limits.proofs.SearchLemmas.{all_worked, round_found, apart_by}
use Rattle.c_limits.proofs.recursion.Search.round.Goals as goal
use Rattle.c_limits.proofs.recursion.Search.round.Goals.{else-place-gt0-via-then-place-gt0+else-step-first, else-place-gt0-via-else-place-gt0}

pub returns-in_default-clause-found : goal.returns-in_default-clause-found
returns-in_default-clause-found c =
    all_worked (map vec_items c.args.callees.now) c.args.first c.loop-place.place c.loop-place.self c.loop-place.invariant c.requires.earlier
    (rw c.deref.ensures.value at c.in_default.ensures.lookup.3)

pub returns-then-step-first-clause-found : goal.returns-then-step-first-clause-found
returns-then-step-first-clause-found c =
    round_found (map vec_items c.args.callees.now) c.args.first c.loop-place.place c.loop-place.self c.in-Some.step.now c.in_ok-way_to.field-0.items c.loop-place.invariant c.requires.earlier
    c.if-place-gt0.true (rw c.deref.ensures.value at c.in-Some.ensures.lookup.3.0) (rw c.deref.ensures.value at c.in-Some.ensures.lookup.1) c.if-step-first.true c.in_ok-way_to.ensures

pub follow-requires-clause-apart : goal.follow-requires-clause-apart
follow-requires-clause-apart c =
    let P : Search → Type 0 = λ s. (0 < c.loop-place.place → (r : Reached) → slice_get (trail_of s.steps.items) c.loop-place.place ≡ Some r → r.function ≢ c.args.first) in
    elim c.else-place-gt0.branch [
      | else-place-gt0-via-then-place-gt0+else-step-first w ↦
          subst P (sym w.self-is)
          (λ later. apart_by c.args.first c.loop-place.self.steps.items c.loop-place.place c.in-Some.step.now c.loop-place.invariant.linked
          (rw c.deref.ensures.value at c.in-Some.ensures.lookup.3.0) (rw c.deref.ensures.value at c.in-Some.ensures.lookup.1) w.if-step-first.false)
      | else-place-gt0-via-else-place-gt0 w ↦ λ later. absurd (omega (arith, later, w.if-place-gt0.false))
    ]

pub returns-clause-found : goal.returns-clause-found
returns-clause-found c =
    all_worked (map vec_items c.args.callees.now) c.args.first c.loop-place.place c.loop-place.self c.loop-place.invariant c.requires.earlier (omega arith)

pub returns-in_default-clause-size : goal.returns-in_default-clause-size
returns-in_default-clause-size c = c.loop-place.invariant.size ∙ length-map c.args.callees.now vec_items ∙ sym c.requires.size

pub returns-then-step-first-clause-size : goal.returns-then-step-first-clause-size
returns-then-step-first-clause-size c = c.loop-place.invariant.size ∙ length-map c.args.callees.now vec_items ∙ sym c.requires.size

pub returns-clause-size : goal.returns-clause-size
returns-clause-size c = c.loop-place.invariant.size ∙ length-map c.args.callees.now vec_items ∙ sym c.requires.size

pub loop-place-preserved : goal.loop-place-preserved
loop-place-preserved c = c.in_ok-follow.ensures

pub way_to-requires-clause-linked : goal.way_to-requires-clause-linked
way_to-requires-clause-linked c = c.loop-place.invariant.linked

pub follow-requires-clause-ordered : goal.follow-requires-clause-ordered
follow-requires-clause-ordered c = c.requires.ordered

pub follow-requires-clause-first : goal.follow-requires-clause-first
follow-requires-clause-first c = c.requires.first

pub follow-requires-clause-searched : goal.follow-requires-clause-searched
follow-requires-clause-searched c =
    let P : Search → Type 0 = λ s. HasSearched (map vec_items c.args.callees.now) c.args.first s c.loop-place.place in
    elim c.else-place-gt0.branch [
      | else-place-gt0-via-then-place-gt0+else-step-first w ↦ subst P (sym w.self-is) c.loop-place.invariant
      | else-place-gt0-via-else-place-gt0 w ↦ subst P (sym w.self-is) c.loop-place.invariant
    ]

pub follow-requires-clause-place : goal.follow-requires-clause-place
follow-requires-clause-place c =
    let P : Search → Type 0 = λ s. c.loop-place.place < length s.steps.items in
    let within : P c.loop-place.self = rw c.deref.ensures.value at c.in-Some.ensures.lookup.3.0 in
    elim c.else-place-gt0.branch [
      | else-place-gt0-via-then-place-gt0+else-step-first w ↦ subst P (sym w.self-is) within
      | else-place-gt0-via-else-place-gt0 w ↦ subst P (sym w.self-is) within
    ]
