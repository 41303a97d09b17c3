use Rattle.std.proofs.Common.{◌≡◌, take}
use Rattle.acc_code.specs.AccView.{item_list}
use Rattle.acc_select.specs.Selected as selected
use Rattle.acc_select.proofs.selection.ends_with_return.Given as goal

abbrev pub invariant-loop-item : goal.invariant-loop-item
invariant-loop-item l = l.ends ≡ selected.ends_with_return (item_list (take l.item-index l.list))
