-- None of the paths so far is the one.
use Rattle.std.proofs.Common.{◌≡◌, drop}
use Rattle.lay_tree.specs.Greedy.{first_with, is_smallest}
use Rattle.lay_greedy.proofs.paths.Paths.path_above.Given as goal

abbrev pub invariant-loop-path : goal.invariant-loop-path
invariant-loop-path l = first_with (is_smallest l.scalar) (drop l.path-index l.self) ≡ first_with (is_smallest l.scalar) l.self
