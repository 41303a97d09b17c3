-- The paths of the scalars so far.
use Rattle.std.proofs.Common.{◌≡◌, flat_map, take}
use Rattle.lay_tree.specs.Greedy.{first_with, is_smallest, from_smaller_end}
use Rattle.lay_greedy.proofs.paths.Paths.in_one_list.Given as goal

abbrev pub invariant-loop-scalar : goal.invariant-loop-scalar
invariant-loop-scalar l = l.scalars.items ≡ flat_map (λ s. from_smaller_end (first_with (is_smallest s) l.self)) (take l.scalar-index l.members)
