-- One scalar more.
use Rattle.std.proofs.Common.{ap, sym, ◌∙◌, ◌++◌, [], ◌∷◌}
use Rattle.lay_greedy.proofs.Spreads.{range_more}
use Rattle.lay_greedy.proofs.starting.all_scalars.Goals as goal

pub loop-scalar-preserved : goal.loop-scalar-preserved
loop-scalar-preserved c = c.in_ok-push.ensures.items ∙ (ap (λ l. l ++ (c.loop-scalar.scalar ∷ [])) c.loop-scalar.invariant ∙ sym (range_more c.loop-scalar.scalar))
