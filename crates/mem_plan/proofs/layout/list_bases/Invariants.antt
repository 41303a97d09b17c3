use Rattle.std.proofs.Common.{◌≡◌, ◌≤◌, ◌+◌, ◌++◌, length, drop}
use Rattle.std.specs.List.{concat}
use Rattle.mem_plan.specs.Plan.{list_bases}
use Rattle.mem_plan.proofs.layout.list_bases.Given as goal

abbrev pub invariant-loop-list : goal.invariant-loop-list
invariant-loop-list l = record {
  all : l.all.items ++ list_bases l.at (drop l.list-index l.lists) ≡ list_bases l.start l.lists;
  room : l.at + length (concat (drop l.list-index l.lists)) ≤ 65536;
}
