-- The paths of the edges so far.
use Rattle.std.proofs.Common.{◌≡◌, ℕ, [], ◌∷◌, map, fold, take}
use Rattle.lay_tree.specs.Greedy.{with_edge}
use Rattle.lay_greedy.proofs.starting.paths_of.Given as goal

abbrev pub invariant-loop-edge : goal.invariant-loop-edge
invariant-loop-edge l = l.paths ≡ fold with_edge (map (λ (s : ℕ). s ∷ []) l.members) (take l.edge-index l.edge-items)
