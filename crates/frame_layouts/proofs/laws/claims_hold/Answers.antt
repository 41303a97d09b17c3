use Rattle.frame_layouts.proofs.Framing.{each_claim}
use Rattle.frame_layouts.proofs.laws.claims_hold.Goals as goal

pub returns : goal.returns
returns c = λ fs jobs plans are. each_claim c.answers_cost_little.ensures.says c.certified_logs_replay.ensures c.certified_answers_are_least.ensures fs jobs plans are
