use Rattle.std.proofs.Common.{◌≡◌, ◌++◌, drop}
use Rattle.c_tree.specs.Uses.{called}
use Rattle.c_limits.proofs.recursion.called.Given as goal

abbrev pub invariant-loop-found : goal.invariant-loop-found
invariant-loop-found l = l.callees.items ++ called (drop l.found-index l.uses) ≡ called l.uses
