-- The next register is the best one, or the best one so far stays.
use Rattle.std.proofs.Common.{◌≡◌, ◌<◌, ◌≤◌, ◌+◌, length, ap, sym, subst, ◌∙◌, arith}
use Rattle.lay_greedy.specs.Spread.{with_scalar_at}
use Rattle.lay_greedy.proofs.Spreads.{IsBest, cost_placed, better, no_better, best_of_all}
use Rattle.lay_greedy.proofs.spread.cheapest_register.Goals as goal
use Rattle.lay_greedy.proofs.spread.cheapest_register.Goals.{then-costs-least, else-costs-least}

pub loop-register-preserved : goal.loop-register-preserved
loop-register-preserved c =
    let seq = c.args.seq.now in
    let lists = c.args.lists.now in
    let s = c.args.scalar in
    let next = c.loop-register.register in
    let best = c.loop-register.best in
    let lt : next < length lists = omega arith in
    let costs : c.in_ok-costs.costs ≡ cost_placed seq (with_scalar_at s lists next) = c.in_ok-costs.ensures in
    let least = c.loop-register.invariant.least in
    elim c.if-costs-least.branch [
      | then-costs-least w ↦
          let less : cost_placed seq (with_scalar_at s lists next) < cost_placed seq (with_scalar_at s lists best) = omega (arith, costs, least, w.if-costs-least.true) in
          record {
            best = subst (λ b. IsBest seq lists s (next + 1) b) (sym w.best-is) (better seq lists s next best lt c.loop-register.invariant.best less);
            least = w.least-is ∙ (costs ∙ ap (λ b. cost_placed seq (with_scalar_at s lists b)) (sym w.best-is));
          }
      | else-costs-least w ↦
          let more : cost_placed seq (with_scalar_at s lists best) ≤ cost_placed seq (with_scalar_at s lists next) = omega (arith, costs, least, w.if-costs-least.false) in
          record {
            best = subst (λ b. IsBest seq lists s (next + 1) b) (sym w.best-is) (no_better seq lists s next best lt c.loop-register.invariant.best more);
            least = w.least-is ∙ (least ∙ ap (λ b. cost_placed seq (with_scalar_at s lists b)) (sym w.best-is));
          }
    ]

pub returns-clause-cheapest : goal.returns-clause-cheapest
returns-clause-cheapest c = best_of_all c.args.seq.now c.args.lists.now c.args.scalar c.loop-register.register c.loop-register.best (omega arith) c.loop-register.invariant.best
