use Rattle.std.proofs.Common.{◌≡◌, ◌++◌, map}
use Rattle.std.specs.Vec.Iter.{into_iter_items}
use Rattle.c_tree.specs.View.{function_of}
use Rattle.c_rules.specs.Programs.{functions_with}
use Rattle.c_limits.specs.FunctionView.{typed_function_of}
use Rattle.c_limits.specs.FunctionView.{frame_lists}
use Rattle.c_types.proofs.program.functions.Given as goal

abbrev pub invariant-loop-f : goal.invariant-loop-f
invariant-loop-f l =
    map function_of l.functions.items ++ functions_with (frame_lists (into_iter_items l.rest)) (map typed_function_of (into_iter_items l.f-iterator))
    ≡ functions_with (frame_lists l.fn.frames.items) (map typed_function_of l.fn.typed.items)
