use Rattle.std.proofs.Common.{◌+◌, ◌∙◌, ap, sym, subst}
use Rattle.mem_plan.specs.Search.{AreReady}
use Rattle.mem_plan.proofs.SearchLemmas.{ready_more, ready_same}
use Rattle.mem_plan.proofs.begins.ready_of.Goals as goal
use Rattle.mem_plan.proofs.begins.ready_of.Goals.{then-waiting-eq0+in_ok-push, else-waiting-eq0}

pub loop-number-preserved : goal.loop-number-preserved
loop-number-preserved c =
    let k = c.loop-number.number in
    let w = c.args.waiting.now in
    let before = c.loop-number.order.items
    in elim c.if-waiting-eq0.branch [
      | then-waiting-eq0+in_ok-push b ↦
          subst (AreReady (k + 1) w) (sym (ap (λ v. v.items) b.order-is ∙ b.in_ok-push.ensures.items)) (ready_more k w before c.loop-number.invariant b.if-waiting-eq0.true)
      | else-waiting-eq0 b ↦
          subst (AreReady (k + 1) w) (sym (ap (λ v. v.items) b.order-is)) (ready_same k w before c.loop-number.invariant b.if-waiting-eq0.false)
    ]
