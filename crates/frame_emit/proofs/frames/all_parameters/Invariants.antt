use Rattle.std.proofs.Common.{◌≡◌, ◌≤◌, ◌++◌, map, length, All, vec_items}
use Rattle.tree_code.specs.WordView.{function_code_of}
use Rattle.frame_emit.specs.Frames.{all_parameters}
use Rattle.frame_emit.proofs.frames.all_parameters.Given as goal

-- with those that are left they are all
abbrev pub invariant-loop-function : goal.invariant-loop-function
invariant-loop-function l = record {
  all : map vec_items l.all.items ++ all_parameters (map function_code_of l.rest) l.later_frames l.later_arrangements
      ≡ all_parameters (map function_code_of l.fn.functions) l.fn.frames l.fn.arrangements;
  few : All (λ lists. length lists ≤ 4) l.later_arrangements;
}

abbrev pub decreases-loop-function : goal.decreases-loop-function
decreases-loop-function l = length l.rest
