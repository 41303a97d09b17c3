-- A scalar more where the place is that of the register.
use Rattle.std.proofs.Common.{◌≡◌, ◌<◌, [], ◌∷◌, ◌++◌, get_or, length, ap, ◌∙◌}
use Rattle.std.proofs.lemmas.List.{get_or_read}
use Rattle.lay_greedy.proofs.Spreads.{here_more, other_more}
use Rattle.lay_greedy.proofs.spread.with_scalar_at.Goals as goal
use Rattle.lay_greedy.proofs.spread.with_scalar_at.Goals.{then-place-register+in_ok-push, else-place-register}

pub loop-place-preserved : goal.loop-place-preserved
loop-place-preserved c =
    let lists = c.args.lists.now in
    let place = c.loop-place.place in
    let lt : place < length lists = c.loop-place-test.true in
    let read : c.in_ok-scalars.scalars.items ≡ get_or lists place [] = c.in_ok-scalars.ensures.items ∙ (c.scalars.ensures ∙ get_or_read lists place c.index-lists-place.result lt c.index-lists-place.is []) in
    elim c.if-place-register.branch [
      | then-place-register+in_ok-push w ↦
          let is : c.new.result ≡ get_or lists place [] ++ (c.args.scalar ∷ []) = c.new.ensures ∙ (ap (λ v. v.items) w.scalars-is ∙ (w.in_ok-push.ensures.items ∙ ap (λ l. l ++ (c.args.scalar ∷ [])) read))
          in c.in_ok-push-2.ensures.items ∙ here_more c.args.scalar lists c.loop-place.more.items c.args.register place c.new.result lt w.if-place-register.true c.loop-place.invariant is
      | else-place-register w ↦
          let is : c.new.result ≡ get_or lists place [] = c.new.ensures ∙ (ap (λ v. v.items) w.scalars-is ∙ read)
          in c.in_ok-push-2.ensures.items ∙ other_more c.args.scalar lists c.loop-place.more.items c.args.register place c.new.result lt w.if-place-register.false c.loop-place.invariant is
    ]
