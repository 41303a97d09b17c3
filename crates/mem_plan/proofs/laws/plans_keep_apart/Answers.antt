use Rattle.mem_plan.proofs.ApartLemmas.{plans_apart, plans_within}
use Rattle.mem_plan.proofs.UniqueLemmas.{one_begin}
use Rattle.mem_plan.proofs.laws.plans_keep_apart.Goals as goal

pub returns-clause-apart : goal.returns-clause-apart
returns-clause-apart c = plans_apart

pub returns-clause-within : goal.returns-clause-within
returns-clause-within c = plans_within

pub returns-clause-one_begin : goal.returns-clause-one_begin
returns-clause-one_begin c = one_begin
