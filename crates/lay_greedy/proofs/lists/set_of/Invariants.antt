-- The bits of the scalars so far.
use Rattle.std.proofs.Common.{◌≡◌, ◌<◌, ℕ, take}
use Rattle.lay_cost.specs.Placements.{has}
use Rattle.lay_cost.specs.Restricted.{in_bits}
use Rattle.lay_greedy.proofs.lists.set_of.Given as goal

abbrev pub invariant-loop-scalar : goal.invariant-loop-scalar
invariant-loop-scalar l = (s : ℕ) → s < 64 → in_bits l.set s ≡ has (take l.scalar-index l.scalars) s
