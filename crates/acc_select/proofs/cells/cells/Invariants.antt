use Rattle.std.proofs.Common.{◌≡◌, drop}
use Rattle.acc_code.specs.AccTree.{◌⧺◌}
use Rattle.acc_code.specs.AccView.{item_list}
use Rattle.acc_select.specs.Selected.{cell_items}
use Rattle.acc_select.proofs.cells.cells.Given as goal

abbrev pub invariant-loop-x : goal.invariant-loop-x
invariant-loop-x l = record {
  index : l.index ≡ l.x-index;
  code : item_list l.code.items ⧺ cell_items l.number l.x-index (drop l.x-index l.list) ≡ item_list l.initial.code.items ⧺ cell_items l.number 0 l.list;
}
