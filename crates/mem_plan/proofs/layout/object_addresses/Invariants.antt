use Rattle.std.proofs.Common.{◌≡◌, ◌≤◌, ◌+◌, ◌++◌, map, drop}
use Rattle.c_tree.specs.View.{object_of}
use Rattle.mem_plan.specs.DataNeeds.{objects_words}
use Rattle.mem_plan.specs.Plan.{object_addresses}
use Rattle.mem_plan.proofs.layout.object_addresses.Given as goal

abbrev pub invariant-loop-object : goal.invariant-loop-object
invariant-loop-object l = record {
  all : l.all.items ++ object_addresses l.at (map object_of (drop l.object-index l.list)) ≡ object_addresses l.start (map object_of l.list);
  room : l.at + objects_words (map object_of (drop l.object-index l.list)) ≤ 65536;
}
