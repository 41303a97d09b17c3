use Rattle.std.proofs.Common.{ℕ, ◌+◌, ◌∙◌, List, Vec, Global, map, vec_items, arith, sym, subst}
use Rattle.std.proofs.lemmas.List.{length-map}
use Rattle.c_tree.specs.Uses.{called}
use Rattle.c_tree.specs.Rounds.{CallsAmong}
use Rattle.c_limits.specs.Calls.{AreOrdered}
use Rattle.c_rules.specs.Rounds.{HasNoRound, NoneBelow}
use Rattle.c_limits.proofs.CalleeLemmas.{ordered_by, same_length, calls_from, calls_to, no_calls_past}
use Rattle.c_rules.proofs.RoundLemmas.{round_along, first_chain_along, no_rounds}
use Rattle.c_limits.proofs.recursion.first_round.Goals as goal

pub first_suspect-requires : goal.first_suspect-requires
first_suspect-requires c =
    let P : List (Vec ℕ Global) → Type 0 = λ lists. AreOrdered (map vec_items lists) in
    let uses = map vec_items c.args.uses.now in
    subst P (sym c.deref.ensures.value)
    (ordered_by (map vec_items c.in_ok-callees.callees.items) (map called uses) c.in_ok-callees.ensures
    (λ n m call. let within = c.requires n m call in omega (arith, within, length-map uses called, length-map c.args.uses.now vec_items)))

pub loop-first-init : goal.loop-first-init
loop-first-init c =
    let uses = map vec_items c.args.uses.now in
    let same = same_length (map vec_items c.in_ok-callees.callees.items) (map called uses) c.in_ok-callees.ensures in
    let P : List (Vec ℕ Global) → Type 0 = λ lists. NoneBelow (CallsAmong (map vec_items lists)) c.in_ok-start.start in
    record {
      size = omega (arith, same, c.in_ok-vec.ensures.len, length-map c.in_ok-callees.callees.items vec_items, length-map uses called, length-map c.args.uses.now vec_items);
      none = subst P c.deref.ensures.value c.in_ok-start.ensures;
    }

pub loop-first-preserved : goal.loop-first-preserved
loop-first-preserved c =
    let P : List (Vec ℕ Global) → Type 0 = λ lists. NoneBelow (CallsAmong (map vec_items lists)) (c.loop-first.first + 1) in
    record {
      size = c.in_ok-round.ensures.size ∙ c.loop-first.invariant.size;
      none = subst P c.deref-in-loop-first.ensures.value (rw c.in_default.is at c.in_ok-round.ensures.found);
    }

pub round-requires-clause-ordered : goal.round-requires-clause-ordered
round-requires-clause-ordered c =
    let P : List (Vec ℕ Global) → Type 0 = λ lists. AreOrdered (map vec_items lists) in
    let uses = map vec_items c.args.uses.now in
    subst P (sym c.deref-in-loop-first.ensures.value)
    (ordered_by (map vec_items c.in_ok-callees.callees.items) (map called uses) c.in_ok-callees.ensures
    (λ n m call. let within = c.requires n m call in omega (arith, within, length-map uses called, length-map c.args.uses.now vec_items)))

pub round-requires-clause-first : goal.round-requires-clause-first
round-requires-clause-first c =
    let uses = map vec_items c.args.uses.now in
    let same = same_length (map vec_items c.in_ok-callees.callees.items) (map called uses) c.in_ok-callees.ensures
    in omega (arith, same, c.deref-in-loop-first.ensures.len, length-map c.in_ok-callees.callees.items vec_items, length-map uses called, length-map c.args.uses.now vec_items)

pub round-requires-clause-earlier : goal.round-requires-clause-earlier
round-requires-clause-earlier c =
    let P : List (Vec ℕ Global) → Type 0 = λ lists. NoneBelow (CallsAmong (map vec_items lists)) c.loop-first.first in subst P (sym c.deref-in-loop-first.ensures.value) c.loop-first.invariant.none

pub returns-in-Some : goal.returns-in-Some
returns-in-Some c =
    let lists = map vec_items c.in_ok-callees.callees.items in
    let uses = map called (map vec_items c.args.uses.now) in
    first_chain_along (CallsAmong lists) (CallsAmong uses) (calls_from lists uses c.in_ok-callees.ensures) (calls_to lists uses c.in_ok-callees.ensures) c.in-Some.round.items
    (rw c.deref-in-loop-first.ensures.value at (rw c.in-Some.is at c.in_ok-round.ensures.found))

pub returns : goal.returns
returns c =
    let lists = map vec_items c.in_ok-callees.callees.items in
    let uses = map called (map vec_items c.args.uses.now) in
    let same = same_length lists uses c.in_ok-callees.ensures in
    let none : HasNoRound (CallsAmong lists) =
    no_rounds (CallsAmong lists) c.loop-first.first c.loop-first.invariant.none
    (λ k m past. no_calls_past lists k m (omega (arith, past, same, length-map (map vec_items c.args.uses.now) called, length-map c.args.uses.now vec_items)))
    in λ n ms round. none n ms (round_along (CallsAmong uses) (CallsAmong lists) (calls_to lists uses c.in_ok-callees.ensures) n ms round)
