-- Rows of items in memory, as lists.
use Rattle.std.proofs.Common.{◌≡◌, refl, ap, rules}
use Rattle.acc_code.specs.declared.item.AccItem as code
use Rattle.acc_code.specs.declared.item.AccItem.{Row_of-AccItem, end_of-AccItem, more_of-AccItem, items-the_row-AccItem}
use Rattle.acc_code.specs.AccTree.{If, Loop, Switch, item}
use Rattle.acc_code.specs.AccView.{item_of, items_of, item_list}

item_rows : (m : _) (k : Row_of-AccItem m) → items_of k ≡ item_list (items-the_row-AccItem m k)
item_rows m end_of-AccItem = refl
item_rows m (more_of-AccItem {n = n} x rest) = ap (item (item_of x)) (item_rows n rest)

pub if_of_lists : (test : _) (hit miss : _) → item_of (code.If test hit miss) ≡ If test (item_list hit.items) (item_list miss.items)
if_of_lists test hit miss = search (rules, code.the_lemmas, item_rows)

pub loop_of_lists : (before body after : _) (last : _) → item_of (code.Loop before body after last) ≡ Loop (item_list before.items) (item_list body.items) (item_list after.items) last
loop_of_lists before body after last = search (rules, code.the_lemmas, item_rows)

pub switch_of_lists : (cases body : _) → item_of (code.Switch cases body) ≡ Switch cases.items (item_list body.items)
switch_of_lists cases body = search (rules, code.the_lemmas, item_rows)
