use Rattle.std.specs.Vec.Iter.{into_iter_items}
use Rattle.c_objects.proofs.CellsSoFar.{CellsSoFar}
use Rattle.c_objects.proofs.first_values.cells.Given as goal

abbrev pub invariant-loop-entry : goal.invariant-loop-entry
invariant-loop-entry l = CellsSoFar l.kind l.at l.fn.entries.items (into_iter_items l.entry-iterator) l.values.items
