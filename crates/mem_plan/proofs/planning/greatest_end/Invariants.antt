use Rattle.std.proofs.Common.{◌≡◌, ◌≤◌, ◌+◌, map, max, drop, slice_index}
use Rattle.mem_plan.specs.Gathered.{most_begin, most_own}
use Rattle.mem_plan.specs.Plan.{end_from}
use Rattle.mem_plan.proofs.planning.greatest_end.Given as goal

abbrev pub invariant-loop-number : goal.invariant-loop-number
invariant-loop-number l = record {
  is : max l.greatest (end_from (slice_index l.begins) l.number (map (λ f. f.own) (drop l.number l.needs))) ≡ end_from (slice_index l.begins) 0 (map (λ f. f.own) l.needs);
  small : l.greatest ≤ most_begin + most_own;
}
