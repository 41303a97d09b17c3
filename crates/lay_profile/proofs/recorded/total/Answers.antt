use Rattle.std.proofs.Common.{◌<◌, ◌^◌, arith}
use Rattle.std.specs.Prelude.{sum}
use Rattle.std.proofs.lemmas.List.Sums.{sum_by-drop_more}
use Rattle.lay_profile.proofs.Recordeds.{sum_fits}
use Rattle.lay_profile.proofs.recorded.total.Goals as goal

pub overflow_add-entered : goal.overflow_add-entered
overflow_add-entered c =
    let counts = c.args.counts.now in
    let fits : sum counts < 2 ^ 64 = sum_fits c.args.accesses.now counts c.scalars-is_sequence.ensures.sequence c.requires in
    omega (arith, fits, sum_by-drop_more (λ x. x) counts c.loop-count.count-index 0 c.loop-count-test.true, c.loop-count.invariant)
