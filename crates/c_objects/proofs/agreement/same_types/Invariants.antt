use Rattle.std.proofs.Common.{◌≡◌, drop}
use Rattle.c_rules.specs.Units.{same_types}
use Rattle.c_objects.proofs.agreement.same_types.Given as goal

-- the types so far are the same
abbrev pub invariant-loop-n : goal.invariant-loop-n
invariant-loop-n l = same_types l.a l.b ≡ same_types (drop l.n l.a) (drop l.n l.b)
