-- A new table has no number above 0.
use Rattle.lay_cost.proofs.Pairs.{zero_corner}
use Rattle.lay_cost.proofs.neighbours.WeightTable.zeros.Goals as goal

pub invariant_of-result : goal.invariant_of-result
invariant_of-result c = zero_corner c.in_ok-vec.field-0.items (c.in_ok-vec.ensures.items_if_clones_equal (λ y h. h))
