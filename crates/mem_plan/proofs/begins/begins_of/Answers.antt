use Rattle.mem_plan.proofs.SearchLemmas.{found_all}
use Rattle.mem_plan.proofs.begins.begins_of.Goals as goal

pub returns : goal.returns
returns c =
    let s = c.loop-place.search
    in found_all c.args.needs.now c.loop-place.place c.loop-place.invariant.0 s.begins.items s.waiting.items s.order.items c.requires c.loop-place.invariant.1 c.loop-place-test.false
    c.loop-place.auto.place-end
