use Rattle.std.proofs.Common.{◌≡◌, ◌+◌, ◌∙◌, ap, refl, arith}
use Rattle.lay_profile.proofs.Weighings.{weighed_from, left_out, kept}
use Rattle.lay_profile.proofs.weighing.weigh_blocks.Goals as goal
use Rattle.lay_profile.proofs.weighing.weigh_blocks.Goals.{then-count-gt0+in_ok-push, else-count-gt0}

pub loop-index-preserved : goal.loop-index-preserved
loop-index-preserved c =
    let blocks = c.args.blocks.now in
    let counts = c.args.counts.now in
    let i = c.loop-index.index in
    let done = c.loop-index.weighed in
    let more : weighed_from c.if-count-gt0.weighed blocks counts (i + 1) ≡ weighed_from done blocks counts i = elim c.if-count-gt0.branch [
      | then-count-gt0+in_ok-push w ↦ ap (λ l. weighed_from l blocks counts (i + 1)) (w.weighed-is ∙ w.in_ok-push.ensures) ∙ kept done blocks counts w.accesses.result.now i _ 0 (omega (arith, c.loop-index-test.true, c.requires.one_each)) c.loop-index-test.true refl (omega (arith, w.if-count-gt0.true)) w.accesses.ensures
      | else-count-gt0 w ↦ ap (λ l. weighed_from l blocks counts (i + 1)) w.weighed-is ∙ left_out done blocks counts i _ 0 (omega (arith, c.loop-index-test.true, c.requires.one_each)) c.loop-index-test.true refl (omega (arith, w.if-count-gt0.false))
    ] in
    more ∙ c.loop-index.invariant
