use Rattle.std.proofs.Common.{◌≡◌, map, drop, length, vec_items}
use Rattle.c_rules.specs.Whole.{earlier, first_among}
use Rattle.c_limits.proofs.whole.missing_body.Given as goal

abbrev pub invariant-loop-list : goal.invariant-loop-list
invariant-loop-list l =
    earlier l.first (first_among (length l.uses) (map vec_items (drop l.list-index l.uses))) ≡ first_among (length l.uses) (map vec_items l.uses)
