use Rattle.std.proofs.Common.{◌≡◌, drop}
use Rattle.c_rules.specs.Whole.{earlier, first_without}
use Rattle.c_limits.proofs.whole.missing_call.Given as goal

abbrev pub invariant-loop-found : goal.invariant-loop-found
invariant-loop-found l = earlier l.first (first_without l.bodies (drop l.found-index l.uses)) ≡ first_without l.bodies l.uses
