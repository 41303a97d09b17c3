-- The scalars that aren't placed and the closes that are left together fall with each node.
use Rattle.std.proofs.Common.{◌+◌, ◌-◌, ◌*◌, map, filter, not}
use Rattle.std.specs.List.{concat, range_with_len}
use Rattle.lay_cost.specs.Placements.{has}
use Rattle.lay_cost.specs.Parts.{node_lists}
use Rattle.lay_tree.specs.Tree.{with_scalar}
use Rattle.lay_search.specs.declared.descent.Ending.TheVariants.{Finished}
use Rattle.lay_node.specs.Positions.{here}
use Rattle.lay_search.specs.Descents.{Visits}
use Rattle.lay_search.proofs.descent.Descent.+descent.Given as goal

abbrev pub decreases-expand : goal.decreases-expand
decreases-expand l = 5 * (l.kept.unplaced + (l.self.now.position.registers - l.kept.closes)) + 4

abbrev pub decreases-visit_scalar : goal.decreases-visit_scalar
decreases-visit_scalar l = 5 * (l.kept.unplaced + (l.self.now.position.registers - l.kept.closes)) + 3

abbrev pub decreases-visit_close : goal.decreases-visit_close
decreases-visit_close l = 5 * (l.kept.unplaced + (l.self.now.position.registers - l.kept.closes)) + 2

abbrev pub decreases-branch : goal.decreases-branch
decreases-branch l = 5 * (l.child.unplaced + (l.self.now.position.registers - l.child.closes)) + 5

abbrev pub decreases-visit_closed : goal.decreases-visit_closed
decreases-visit_closed l = 5 * (l.child.unplaced + (l.self.now.position.registers - l.child.closes)) + 5

abbrev pub invariant-expand-loop-scalar : goal.invariant-expand-loop-scalar
invariant-expand-loop-scalar l = Visits l.seq (map (with_scalar (here l.fn.self.position)) (filter (λ s. not (has (concat (node_lists (here l.fn.self.position))) s)) (range_with_len 0 l.scalar))) l.fn.self l.self Finished
