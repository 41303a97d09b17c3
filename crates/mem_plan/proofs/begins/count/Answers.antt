use Rattle.std.proofs.Common.{◌<◌, ◌+◌, ◌∙◌, length, arith, slice_index}
use Rattle.std.proofs.lemmas.List.{length-set}
use Rattle.mem_plan.proofs.SearchLemmas.{calls_counted, count_rises, called_there}
use Rattle.mem_plan.proofs.begins.count.Goals as goal

pub bounds-waiting-from : goal.bounds-waiting-from
bounds-waiting-from c =
    let low = called_there c.args.calls.now c.loop-called.called-index c.from.result (length c.args.waiting.now) c.loop-called-test.true c.from.ensures c.requires.bodies
    in omega (arith, low, c.loop-called.invariant.size)

pub bounds-waiting-from-in-loop-called : goal.bounds-waiting-from-in-loop-called
bounds-waiting-from-in-loop-called c =
    let low = called_there c.args.calls.now c.loop-called.called-index c.from.result (length c.args.waiting.now) c.loop-called-test.true c.from.ensures c.requires.bodies
    in omega (arith, low, c.loop-called.invariant.size)

pub loop-called-preserved : goal.loop-called-preserved
loop-called-preserved c =
    let calls = c.args.calls.now in
    let w = c.loop-called.waiting in
    let i = c.loop-called.called-index in
    let m = c.from.result in
    let within = called_there calls i m (length c.args.waiting.now) c.loop-called-test.true c.from.ensures c.requires.bodies in
    let low : m < length w = omega (arith, within, c.loop-called.invariant.size)
    in record {
      size = length-set w m (slice_index w m + 1) ∙ c.loop-called.invariant.size;
      calls = λ f less. calls_counted calls w i m f c.loop-called-test.true c.from.ensures low ∙ c.loop-called.invariant.calls f less;
      few = λ f.
          let was = c.loop-called.invariant.few f in
          let up = count_rises w m f low
          in omega (arith, was, up);
    }
