use Rattle.std.proofs.Common.{◌≡◌, length, map, vec_items}
use Rattle.c_tree.specs.Rounds.{CallsAmong}
use Rattle.c_rules.specs.Rounds.{NoneBelow}
use Rattle.c_limits.proofs.recursion.first_round.Given as goal

abbrev pub invariant-loop-first : goal.invariant-loop-first
invariant-loop-first l = record {
  size : length l.search.entered.items ≡ length l.callees.items;
  none : NoneBelow (CallsAmong (map vec_items l.callees.items)) l.first;
}
