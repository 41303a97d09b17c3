-- Lists of items, one behind another.
use Rattle.std.proofs.Common.{◌≡◌, refl, ap, ◌∙◌, add-one, ℕ, zero, suc, ◌+◌, List, [], ◌∷◌, ◌++◌}
use Rattle.acc_code.specs.declared.item.AccItem.{AccItem}
use Rattle.acc_code.specs.AccTree.{Item, ItemList, end, item, ◌▸◌, ◌⧺◌}
use Rattle.acc_code.specs.AccView.{item_of, item_list}
use Rattle.acc_operations.specs.Sums.{repeated}

pub items_associate : (xs ys zs : ItemList) → (xs ⧺ ys) ⧺ zs ≡ xs ⧺ (ys ⧺ zs)
items_associate end ys zs = refl
items_associate (item x xs) ys zs = ap (item x) (items_associate xs ys zs)

pub no_items_behind : (xs : ItemList) → xs ⧺ end ≡ xs
no_items_behind end = refl
no_items_behind (item x xs) = ap (item x) (no_items_behind xs)

pub list_of_both : (xs ys : List AccItem) → item_list (xs ++ ys) ≡ item_list xs ⧺ item_list ys
list_of_both [] ys = refl
list_of_both (x ∷ xs) ys = ap (item (item_of x)) (list_of_both xs ys)

once_more : (n : ℕ) (x : Item) → repeated (suc n) x ≡ repeated n x ⧺ x ▸ end
once_more zero x = refl
once_more (suc n) x = ap (item x) (once_more n x)

pub one_more : (n : ℕ) (x : Item) → repeated (n + 1) x ≡ repeated n x ⧺ x ▸ end
one_more n x = ap (λ k. repeated k x) (add-one n) ∙ once_more n x

-- what every appender stands on
pub ruleset item_lists = (items_associate, no_items_behind, one_more)
