use Rattle.std.proofs.Common.{◌≡◌, map, drop, vec_items}
use Rattle.c_rules.specs.Whole.{first_above, all_cases}
use Rattle.c_limits.proofs.whole.few_cases.Given as goal
use Rattle.c_tree.specs.declared.limits.TheConstants.{MOST_CASES}

abbrev pub invariant-loop-list : goal.invariant-loop-list
invariant-loop-list l = first_above MOST_CASES (all_cases (map vec_items (drop l.list-index l.uses))) ≡ first_above MOST_CASES (all_cases (map vec_items l.uses))
