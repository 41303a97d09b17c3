-- The paths of the scalars so far.
use Rattle.std.proofs.Common.{◌≡◌, ℕ, [], ◌∷◌, map, take}
use Rattle.lay_greedy.proofs.paths.Paths.of_scalars.Given as goal

abbrev pub invariant-loop-scalar : goal.invariant-loop-scalar
invariant-loop-scalar l = l.paths.items ≡ map (λ (s : ℕ). s ∷ []) (take l.scalar-index l.members)
