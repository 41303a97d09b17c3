use Rattle.std.proofs.Common.{◌≡◌, map, take, Some}
use Rattle.c_rules.specs.Chains.{name_of}
use Rattle.c_limits.specs.FunctionView.{typed_function_of}
use Rattle.c_limits.proofs.recursion.names_of.Given as goal

abbrev pub invariant-loop-number : goal.invariant-loop-number
invariant-loop-number l = map Some l.names.items ≡ map (name_of (map typed_function_of l.functions)) (take l.number-index l.numbers)
