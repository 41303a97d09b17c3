use Rattle.std.proofs.Common.{◌≤◌}
use Rattle.c_rules.specs.Counted.{most_counted}
use Rattle.c_limits.proofs.WholeLemmas.{case_at}
use Rattle.c_limits.proofs.whole.few_cases_in.Goals as goal

pub counted-requires : goal.counted-requires
counted-requires c = case_at (λ n. n ≤ most_counted) c.args.uses.now c.loop-found.found-index _ c.in-Cases.count c.requires c.loop-found-test.true c.in-Cases.is
