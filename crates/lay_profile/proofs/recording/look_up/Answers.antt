use Rattle.std.proofs.Common.{◌∙◌, ◌+◌, ◌<◌, ◌++◌, drop, get_or, map, refl, ap, arith}
use Rattle.lay_profile.specs.Entries.{times_at}
use Rattle.lay_profile.proofs.Together.{looked_up, all_looked_up}
use Rattle.lay_profile.proofs.recording.look_up.Goals as goal

pub loop-place-preserved : goal.loop-place-preserved
loop-place-preserved c = λ s steps times.
    let places = c.args.places.now in
    let table = c.args.table.now in
    let i = c.loop-place.place-index in
    let place = get_or places i 0 in
    let fits : place < 65536 = omega (arith, c.type_inv.places i) in
    ap (λ l. l ++ map (times_at s steps) (drop (i + 1) places)) c.in_ok-push.ensures.items
    ∙ looked_up (times_at s steps) places c.loop-place.counts.items i place (get_or table c.from.result 0) c.loop-place-test.true refl
    (ap (λ n. get_or table n 0) c.from.ensures ∙ times place fits)
    (c.loop-place.invariant s steps times)

pub returns : goal.returns
returns c = λ s steps times.
    all_looked_up (times_at s steps) c.args.places.now c.loop-place.counts.items c.loop-place.place-index c.loop-place-test.false (c.loop-place.invariant s steps times)
