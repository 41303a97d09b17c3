use Rattle.std.proofs.Common.{◌≡◌, ◌≤◌, ◌+◌, ◌*◌, drop, slice_index}
use Rattle.mem_plan.specs.Gathered.{owns_in, most_own}
use Rattle.mem_plan.specs.Search.{Follows, calls_at}
use Rattle.mem_plan.proofs.begins.Search.follow.Given as goal

abbrev pub invariant-loop-called : goal.invariant-loop-called
invariant-loop-called l = record {
  follows : Follows l.needs (l.place + 1) l.function (drop l.called-index (calls_at l.needs l.function)) l.self;
  end : l.end ≡ slice_index l.self.begins.items l.function + owns_in l.needs l.function;
  room : l.end ≤ (l.place + 1) * most_own;
}
