use Rattle.std.proofs.Common.{◌≡◌, ◌∙◌, length, take, drop, ◌++◌, ap, arith, slice_index}
use Rattle.std.proofs.lemmas.List.{take_at}
use Rattle.mem_plan.proofs.SearchLemmas.{bodies_of, counts_more}
use Rattle.mem_plan.proofs.begins.waiting_of.Goals as goal

pub count-requires-clause-bodies : goal.count-requires-clause-bodies
count-requires-clause-bodies c = λ f found.
    let low = bodies_of c.args.needs.now c.loop-caller.caller-index f c.caller-item.result c.as_slice.result.now c.requires c.loop-caller-test.true c.caller-item.is c.as_slice.ensures found
    in omega (arith, low, c.loop-caller.invariant.size, ap length c.deref_mut.ensures.value)

pub loop-caller-preserved : goal.loop-caller-preserved
loop-caller-preserved c =
    let old = c.loop-caller.waiting in
    let read = c.deref_mut.result.now in
    let new = c.count.new.waiting in
    let made : take old.len (new ++ drop (length new) old.items) ≡ new =
    take_at new (drop (length new) old.items) old.len (omega (arith, c.count.ensures.size, ap length c.deref_mut.ensures.value, old.ok)) in
    record {
      size = ap length made ∙ c.count.ensures.size ∙ ap length c.deref_mut.ensures.value ∙ c.loop-caller.invariant.size;
      calls = counts_more c.args.needs.now c.loop-caller.caller-index c.caller-item.result c.as_slice.result.now old.items read new (take old.len (new ++ drop (length new) old.items))
          c.loop-caller-test.true c.caller-item.is c.as_slice.ensures c.deref_mut.ensures.value c.loop-caller.invariant.size c.loop-caller.invariant.calls c.count.ensures.calls made;
      few = λ f.
          let was = c.loop-caller.invariant.few f in
          let up = c.count.ensures.few f
          in omega (arith, was, up, ap (λ l. slice_index l f) c.deref_mut.ensures.value, ap (λ l. slice_index l f) made);
    }
