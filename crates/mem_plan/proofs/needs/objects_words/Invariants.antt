use Rattle.std.proofs.Common.{◌≡◌, ◌+◌, map, drop}
use Rattle.c_tree.specs.View.{object_of}
use Rattle.mem_plan.specs.DataNeeds.{objects_words}
use Rattle.mem_plan.proofs.needs.objects_words.Given as goal

abbrev pub invariant-loop-object : goal.invariant-loop-object
invariant-loop-object l = l.words + objects_words (map object_of (drop l.object-index l.list)) ≡ objects_words (map object_of l.list)
