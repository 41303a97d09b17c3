use Rattle.std.proofs.Common.{◌≡◌, map, drop}
use Rattle.c_rules.specs.declared.fault.LimitName.TheVariants.{Parameters}
use Rattle.c_limits.specs.FunctionView.{typed_function_of}
use Rattle.c_rules.specs.Whole.{passed}
use Rattle.c_limits.proofs.whole.few_parameters.Given as goal

abbrev pub invariant-loop-f : goal.invariant-loop-f
invariant-loop-f l = passed Parameters (map typed_function_of (drop l.f-index l.functions)) ≡ passed Parameters (map typed_function_of l.functions)
