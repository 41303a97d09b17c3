use Rattle.std.proofs.Common.{◌≡◌, map, drop}
use Rattle.c_rules.specs.Programs.{has_main}
use Rattle.c_limits.specs.FunctionView.{typed_function_of}
use Rattle.c_limits.proofs.whole.has_main.Given as goal

abbrev pub invariant-loop-f : goal.invariant-loop-f
invariant-loop-f l = has_main (map typed_function_of (drop l.f-index l.functions)) ≡ has_main (map typed_function_of l.functions)
