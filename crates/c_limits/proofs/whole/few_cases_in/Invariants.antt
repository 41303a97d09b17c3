use Rattle.std.proofs.Common.{◌≡◌, drop}
use Rattle.c_rules.specs.Whole.{first_above, case_counts}
use Rattle.c_limits.proofs.whole.few_cases_in.Given as goal
use Rattle.c_tree.specs.declared.limits.TheConstants.{MOST_CASES}

abbrev pub invariant-loop-found : goal.invariant-loop-found
invariant-loop-found l = first_above MOST_CASES (case_counts (drop l.found-index l.uses)) ≡ first_above MOST_CASES (case_counts l.uses)
