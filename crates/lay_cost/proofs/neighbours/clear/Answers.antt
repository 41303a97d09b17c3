-- Row by row, the weights that may be above 0 are filled.
use Rattle.std.proofs.Common.{◌≡◌, ◌-◌, ◌*◌, length, length-take-le, length-drop, take, drop, replicate, ap, ◌∙◌, arith}
use Rattle.lay_cost.proofs.Pairs.{row_cleared}
use Rattle.lay_cost.proofs.neighbours.clear.Goals as goal

pub loop-row-preserved : goal.loop-row-preserved
loop-row-preserved c =
    let table = c.loop-row.weights in
    let first = c.place.result in
    let count = c.place-in-loop-row.result - c.place.result in
    let at : first ≡ c.loop-row.row * 64 = omega (arith, c.place.ensures) in
    let all : count ≡ c.args.scalars = omega (arith, c.place.ensures, c.place-in-loop-row.ensures) in
    let within : length (take count (drop first table)) ≡ count = length-take-le count (drop first table) (omega (arith, length-drop first table, c.loop-row.invariant.corner.size, at, all, c.loop-row.invariant.corner.few, c.loop-row-test.true)) in
    row_cleared c.loop-row.row c.args.scalars first count table c.fill.new.self c.loop-row.invariant (omega (arith, c.loop-row-test.true)) at all (c.fill.ensures.after (λ y h. h) ∙ ap (λ n. replicate n 0) within)
