use Rattle.std.proofs.Common.{◌≡◌, map, take, drop}
use Rattle.c_rules.specs.Programs.{frame}
use Rattle.c_limits.specs.FunctionView.{typed_function_of}
use Rattle.c_limits.specs.FunctionView.{frame_lists}
use Rattle.c_rules.specs.Whole.{first_above, frame_size}
use Rattle.c_limits.proofs.whole.small_frames.Given as goal
use Rattle.c_tree.specs.declared.limits.TheConstants.{MOST_FRAME_SCALARS}

abbrev pub invariant-loop-n : goal.invariant-loop-n
invariant-loop-n l = record {
  frames : frame_lists l.frames.items ≡ map (λ f. frame (typed_function_of f)) (take l.n l.functions);
  small : first_above MOST_FRAME_SCALARS (map frame_size (map typed_function_of (drop l.n l.functions))) ≡ first_above MOST_FRAME_SCALARS (map frame_size (map typed_function_of l.functions));
}
