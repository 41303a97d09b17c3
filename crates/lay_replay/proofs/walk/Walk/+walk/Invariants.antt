-- The scalars that aren't placed and the closes that are left together fall with each node.
use Rattle.std.proofs.Common.{◌+◌, ◌-◌, ◌*◌}
use Rattle.lay_node.specs.Positions.{here}
use Rattle.lay_node.proofs.Walking.{below_in}
use Rattle.lay_replay.specs.Walks.{FitsHere}
use Rattle.lay_replay.proofs.walk.Walk.+walk.Given as goal

abbrev pub decreases-expand : goal.decreases-expand
decreases-expand l = 5 * (l.kept.unplaced + (l.self.now.position.registers - l.kept.closes)) + 4

abbrev pub decreases-visit_scalar : goal.decreases-visit_scalar
decreases-visit_scalar l = 5 * (l.kept.unplaced + (l.self.now.position.registers - l.kept.closes)) + 3

abbrev pub decreases-visit_close : goal.decreases-visit_close
decreases-visit_close l = 5 * (l.kept.unplaced + (l.self.now.position.registers - l.kept.closes)) + 2

abbrev pub decreases-branch : goal.decreases-branch
decreases-branch l = 5 * (l.child.unplaced + (l.self.now.position.registers - l.child.closes)) + 5

abbrev pub decreases-visit_closed : goal.decreases-visit_closed
decreases-visit_closed l = 5 * (l.child.unplaced + (l.self.now.position.registers - l.child.closes)) + 5

abbrev pub invariant-expand-loop-scalar : goal.invariant-expand-loop-scalar
invariant-expand-loop-scalar l = FitsHere l.seq l.cost l.marks (below_in (here l.fn.self.position) l.scalar) l.fn.self l.self
