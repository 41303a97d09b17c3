use Rattle.std.proofs.Common.{◌≡◌, map, take}
use Rattle.acc_code.specs.AccView.{function_items_of}
use Rattle.acc_select.specs.Selected.{selected_function}
use Rattle.tree_code.specs.WordView.{function_code_of}
use Rattle.acc_select.proofs.selection.functions.Given as goal

abbrev pub invariant-loop-f : goal.invariant-loop-f
invariant-loop-f l = map function_items_of l.all.items ≡ map selected_function (map function_code_of (take l.f-index l.list))
