use Rattle.std.proofs.Common.{◌≡◌, ◌++◌, map, drop}
use Rattle.mem_plan.specs.DataNeeds.{needs_of}
use Rattle.tree_code.specs.WordView.{function_code_of}
use Rattle.mem_plan.proofs.needs.needs_of.Given as goal

abbrev pub invariant-loop-f : goal.invariant-loop-f
invariant-loop-f l = l.all.items ++ map needs_of (map function_code_of (drop l.f-index l.list)) ≡ map needs_of (map function_code_of l.list)
