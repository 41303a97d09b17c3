use Rattle.std.proofs.Common.{◌≡◌, ◌++◌, map, drop, slice_index}
use Rattle.mem_plan.specs.Plan.{frames_from}
use Rattle.tree_code.specs.WordView.{function_code_of}
use Rattle.mem_plan.proofs.planning.frames.Given as goal

abbrev pub invariant-loop-number : goal.invariant-loop-number
invariant-loop-number l =
    l.all.items ++ frames_from l.start (slice_index l.begins) l.number (map function_code_of (drop l.number l.functions)) (drop l.number l.arrangements)
    ≡ frames_from l.start (slice_index l.begins) 0 (map function_code_of l.functions) l.arrangements
