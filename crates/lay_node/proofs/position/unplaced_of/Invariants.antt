-- The bits of the scalars so far, from the highest one down.
use Rattle.std.proofs.Common.{◌≡◌, ◌-◌}
use Rattle.lay_node.specs.Levels.{is_free}
use Rattle.lay_node.proofs.Bits.{bits_from}
use Rattle.lay_node.proofs.position.unplaced_of.Given as goal

abbrev pub invariant-loop-scalar : goal.invariant-loop-scalar
invariant-loop-scalar l = l.set ≡ bits_from (is_free l.placed) l.scalar (l.scalars - l.scalar)
