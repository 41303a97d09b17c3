use Rattle.std.proofs.Common.{◌≡◌, ◌++◌, drop}
use Rattle.std.specs.List.{concat}
use Rattle.lay_lines.proofs.list_lines.all_scalars.Given as goal

abbrev pub invariant-loop-list : goal.invariant-loop-list
invariant-loop-list l = l.all.items ++ concat (drop l.list-index l.lists) ≡ concat l.lists
