-- What a replay of a frame answers (docs/LAYOUT.md, "Replay").
use Rattle.std.specs.Prelude.{ℕ, ◌==◌, if◌then◌else◌}
use Rattle.lay_cost.specs.Cost.{arranged_cost}
use Rattle.lay_tree.specs.Replays.{Replay, Fits, IsTooLow, HasNoShape, replay}
use Rattle.lay_cert.specs.declared.certificate.Claim.{Claim}
use Rattle.lay_cert.specs.declared.certificate.Claim.TheVariants as claims
use Rattle.lay_cert.specs.declared.replaying.Verdict.{Verdict}
use Rattle.lay_cert.specs.declared.replaying.Verdict.TheVariants.{Yes, Best, Cost, No, NoShape}
use Rattle.lay_cert.specs.Frames.{Frame}

-- of a log that is to show that no layout costs less than a number
abbrev pub log_verdict : ℕ → Replay → Verdict
log_verdict cost Fits = Yes
log_verdict cost (IsTooLow at bound) = No at bound cost
log_verdict cost (HasNoShape at) = NoShape at

-- of a claim
abbrev pub claim_verdict : Frame → Claim → Verdict
claim_verdict f (claims.Best piece quota) = Best
claim_verdict f claims.Optimal = log_verdict f.cost (replay f.registers f.seq f.cost f.log)

-- the cost is compared first
abbrev pub verdict_of : Frame → Verdict
verdict_of f = if arranged_cost f.seq f.arr == f.cost then claim_verdict f f.claim else Cost f.cost (arranged_cost f.seq f.arr)
