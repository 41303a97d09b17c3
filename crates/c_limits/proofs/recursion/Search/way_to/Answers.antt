use Rattle.std.proofs.Common.{◌<◌, ◌∷◌, ◌++◌, [], ℕ, List, Option, ap, ◌∙◌, sym, subst, reverse}
use Rattle.std.proofs.lemmas.List.{reverse-append}
use Rattle.c_limits.specs.Trails.{trail_of}
use Rattle.c_limits.proofs.LinkLemmas.{before, rank, step_back, next_within, next_earlier}
use Rattle.c_limits.proofs.recursion.Search.way_to.Goals as goal

pub loop-next-smaller : goal.loop-next-smaller
loop-next-smaller c =
    let P : Option ℕ → Type 0 = λ next. rank c.index-step.result.now.from < rank next in
    subst P (sym c.in-Some.is)
    (next_earlier c.args.first c.args.self.now.steps.items c.in-Some.place c.index-step.result.now c.requires.linked (rw c.in-Some.is at c.loop-next.invariant.within) c.index-step.ensures)

pub loop-next-preserved : goal.loop-next-preserved
loop-next-preserved c =
    let steps = c.args.self.now.steps.items in
    let back : List ℕ → List ℕ = λ tail. before (trail_of steps) c.args.first c.index-step.result.now.from ++ tail in
    record {
      within = next_within c.args.first steps c.in-Some.place c.index-step.result.now c.requires.linked (rw c.in-Some.is at c.loop-next.invariant.within) c.index-step.ensures;
      rest = ap (λ way. back (reverse way)) c.in_ok-push.ensures.items
          ∙ ap back (reverse-append c.loop-next.way.items (c.index-step.result.now.function ∷ []))
          ∙ step_back c.args.first steps c.in-Some.place c.index-step.result.now (reverse c.loop-next.way.items) _ c.requires.linked (rw c.in-Some.is at c.loop-next.invariant.within) c.index-step.ensures
          (rw c.in-Some.is at c.loop-next.invariant.rest);
    }
