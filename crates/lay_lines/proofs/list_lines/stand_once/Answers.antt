use Rattle.std.proofs.Common.{rules, ◌≡◌, ◌≢◌, ℕ, ◌<◌, ◌==◌, count_by, sym, ◌∙◌, arith, below_more}
use Rattle.lay_lines.proofs.ArrangedLists.{never, always}
use Rattle.lay_lines.proofs.list_lines.stand_once.Goals as goal

pub returns-then-times-ne1 : goal.returns-then-times-ne1
returns-then-times-ne1 c =
    let other : c.times.result ≢ 1 = search rules in
    never ((s : ℕ) → s < c.args.scalars → count_by (λ x. x == s) c.args.all.now ≡ 1) (λ f. other (c.times.ensures ∙ f c.loop-scalar.scalar (omega arith)))

pub loop-scalar-preserved : goal.loop-scalar-preserved
loop-scalar-preserved c =
    let once : c.times.result ≡ 1 = search rules in
    below_more (λ s. count_by (λ x. x == s) c.args.all.now ≡ 1) c.loop-scalar.scalar c.loop-scalar.invariant (sym c.times.ensures ∙ once)

pub returns : goal.returns
returns c = always ((s : ℕ) → s < c.args.scalars → count_by (λ x. x == s) c.args.all.now ≡ 1) (λ s lt. c.loop-scalar.invariant s (omega arith))
