-- No path so far has the scalar.
use Rattle.std.proofs.Common.{◌≡◌, ◌<◌, ℕ, [], false, get_or}
use Rattle.lay_cost.specs.Placements.{has}
use Rattle.lay_greedy.proofs.paths.Paths.place_of.Given as goal

abbrev pub invariant-loop-place : goal.invariant-loop-place
invariant-loop-place l = (k : ℕ) → k < l.place → has (get_or l.self k []) l.scalar ≡ false
