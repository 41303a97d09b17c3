-- One bit more.
use Rattle.std.proofs.Common.{ap, sym, ◌∙◌, slice_index_or, take}
use Rattle.std.proofs.lemmas.List.{take_more}
use Rattle.lay_cost.specs.Placements.{has}
use Rattle.lay_greedy.proofs.Sets.{set_more}
use Rattle.lay_greedy.proofs.lists.set_of.Goals as goal

pub loop-scalar-preserved : goal.loop-scalar-preserved
loop-scalar-preserved c =
    let xs = c.args.scalars.now in
    let i = c.loop-scalar.scalar-index in
    let lt = c.loop-scalar-test.true
    in λ s below. set_more c.loop-scalar.set (slice_index_or xs i 0) s (take i xs) (c.requires i 0 lt) below (c.loop-scalar.invariant s below) ∙ ap (λ l. has l s) (sym (take_more xs i 0 lt))
