use Rattle.std.proofs.Common.{◌≡◌, ◌∙◌, length, ap, subst}
use Rattle.mem_plan.specs.Gathered.{owns_in}
use Rattle.mem_plan.specs.Search.{AreReady, calls_at}
use Rattle.mem_plan.proofs.SearchLemmas.{none_followed}
use Rattle.mem_plan.proofs.begins.Search.new.Goals as goal

pub returns : goal.returns
returns c =
    let needs = c.args.needs.now in
    let waiting = c.in_ok-waiting.waiting.items in
    let order = c.in_ok-order.order.items in
    let size : length c.deref.result.now ≡ length needs = ap length c.deref.ensures.value ∙ c.in_ok-waiting.ensures.size in
    let ready : AreReady (length needs) waiting order = subst (λ n. AreReady n waiting order) size (subst (λ w. AreReady (length c.deref.result.now) w order) c.deref.ensures.value c.in_ok-order.ensures)
    in (
      0,
      none_followed (length needs) (calls_at needs) (owns_in needs) c.in_ok-vec.field-0.items waiting order (c.in_ok-vec.ensures.items_if_clones_equal (λ y same. same))
          c.in_ok-waiting.ensures.size c.in_ok-waiting.ensures.calls ready,
    )
