use Rattle.std.proofs.Common.{◌≡◌, map, take}
use Rattle.c_tree.specs.Exec.{initial_cell}
use Rattle.c_state.specs.Values.{cell_view}
use Rattle.c_state.proofs.cells.Cells.listed.Given as goal

abbrev pub invariant-loop-initial : goal.invariant-loop-initial
invariant-loop-initial l = map cell_view l.items.items ≡ map initial_cell (take l.initial-index l.object.initial)
