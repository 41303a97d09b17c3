-- What is appended to code in memory.
use Rattle.std.specs.Prelude.{List, ◌≡◌}
use Rattle.acc_code.specs.declared.item.AccItem.{AccItem}
use Rattle.acc_code.specs.AccTree.{ItemList, ◌⧺◌}
use Rattle.acc_code.specs.AccView.{item_list}

-- the code behind is that before and these items
abbrev pub Appends : List AccItem → List AccItem → ItemList → Type 0
Appends before behind xs = item_list behind ≡ item_list before ⧺ xs
