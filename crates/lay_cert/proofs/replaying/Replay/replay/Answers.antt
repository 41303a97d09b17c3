use Rattle.std.proofs.Common.{ap₂, ◌∙◌, arith}
use Rattle.lay_cost.specs.Cost.{arranged_cost}
use Rattle.lay_cert.proofs.Verdicts.{verdict_at_cost, verdict_off_cost}
use Rattle.lay_cert.proofs.replaying.Replay.replay.Goals as goal

pub returns-then-claimed-found-clause-verdict : goal.returns-then-claimed-found-clause-verdict
returns-then-claimed-found-clause-verdict c = c.replay_claim.ensures.verdict ∙ verdict_at_cost c.args.frame.now c.cost-claimed.result c.cost-found.result c.cost-claimed.ensures (c.cost-found.ensures ∙ ap₂ arranged_cost c.seq.ensures c.arr.ensures.arr) c.if-claimed-found.true

pub returns-else-claimed-found-clause-verdict : goal.returns-else-claimed-found-clause-verdict
returns-else-claimed-found-clause-verdict c = verdict_off_cost c.args.frame.now c.cost-claimed.result c.cost-found.result c.cost-claimed.ensures (c.cost-found.ensures ∙ ap₂ arranged_cost c.seq.ensures c.arr.ensures.arr) (λ e. absurd (omega (arith, c.if-claimed-found.false, e)))
