use Rattle.std.proofs.Common.{◌≡◌, ◌++◌, take}
use Rattle.c_tree.specs.View.{argument_list}
use Rattle.c_tree.specs.Uses as uses
use Rattle.c_limits.proofs.uses.Uses.+expressions.Given as goal

abbrev pub invariant-expressions-loop-e : goal.invariant-expressions-loop-e
invariant-expressions-loop-e l = l.self.list.items ≡ l.initial.self.list.items ++ uses.list_uses (argument_list (take l.e-index l.list))
