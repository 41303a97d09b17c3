-- The items that code in memory stands for.
use Rattle.std.proofs.Common.{◌≡◌, ◌∙◌, ℕ, ◌+◌, ◌*◌, ◌<◌, refl, ap, sym, subst, List, [], ◌∷◌, length, rules, arith}
use Rattle.acc_code.specs.AccTree.{Item, If, Loop, Switch, ItemList, item, end}
use Rattle.acc_code.specs.AccView.{item_of, items_of, item_list}
use Rattle.acc_code.specs.declared.item.AccItem as coded
use Rattle.acc_code.specs.declared.item.AccItem.{AccItem, Row_of-AccItem, end_of-AccItem, more_of-AccItem, items-the_row-AccItem}
use Rattle.emit_control.proofs.Listing.{size, item_size}

rows : (m : _) (k : Row_of-AccItem m) → items_of k ≡ item_list (items-the_row-AccItem m k)
rows m end_of-AccItem = refl
rows m (more_of-AccItem {n = n} x rest) = ap (item (item_of x)) (rows n rest)

if_of_lists : (test : _) (hit miss : _) → item_of (coded.If test hit miss) ≡ If test (item_list hit.items) (item_list miss.items)
if_of_lists test hit miss = search (rules, coded.the_lemmas, rows)

loop_of_lists : (before body behind : _) (last : _)
    → item_of (coded.Loop before body behind last) ≡ Loop (item_list before.items) (item_list body.items) (item_list behind.items) last
loop_of_lists before body behind last = search (rules, coded.the_lemmas, rows)

switch_of_lists : (cases body : _) → item_of (coded.Switch cases body) ≡ Switch cases.items (item_list body.items)
switch_of_lists cases body = search (rules, coded.the_lemmas, rows)

pub if_items : (one : AccItem) (test : _) (hit miss : _) (first second : List AccItem) → one ≡ coded.If test hit miss → first ≡ hit.items → second ≡ miss.items
    → item_of one ≡ If test (item_list first) (item_list second)
if_items one test hit miss first second is of_first of_second =
    ap item_of is ∙ if_of_lists test hit miss ∙ sym (ap (λ l. If test (item_list l) (item_list second)) of_first ∙ ap (λ l. If test (item_list hit.items) (item_list l)) of_second)

pub loop_items : (one : AccItem) (before body behind : _) (last : _) (first second third : List AccItem) → one ≡ coded.Loop before body behind last
    → first ≡ before.items → second ≡ body.items → third ≡ behind.items → item_of one ≡ Loop (item_list first) (item_list second) (item_list third) last
loop_items one before body behind last first second third is of_first of_second of_third =
    ap item_of is ∙ loop_of_lists before body behind last
    ∙ sym (ap (λ l. Loop (item_list l) (item_list second) (item_list third) last) of_first
    ∙ ap (λ l. Loop (item_list before.items) (item_list l) (item_list third) last) of_second
    ∙ ap (λ l. Loop (item_list before.items) (item_list body.items) (item_list l) last) of_third)

pub switch_items : (one : AccItem) (cases body : _) (labels_of : List _) (first : List AccItem) → one ≡ coded.Switch cases body → labels_of ≡ cases.items → first ≡ body.items
    → item_of one ≡ Switch labels_of (item_list first)
switch_items one cases body labels_of first is of_labels of_first =
    ap item_of is ∙ switch_of_lists cases body ∙ sym (ap (λ l. Switch l (item_list first)) of_labels ∙ ap (λ l. Switch cases.items (item_list l)) of_first)

-- the parts of an item are smaller than it
pub if_falls : (x : Item) (test : _) (hit miss : ItemList) (t : ℕ) → 4 * item_size x + 2 ≡ t → x ≡ If test hit miss → 4 * (1 + size hit + size miss) + 3 < t
if_falls x test hit miss t at is = let e : item_size x ≡ 2 + size hit + size miss = ap item_size is in omega (arith, at, e)

pub loop_falls : (x : Item) (before body third : ItemList) (last : _) (t : ℕ) → 4 * item_size x + 2 ≡ t → x ≡ Loop before body third last
    → 4 * (1 + size before + size body + size third) + 3 < t
loop_falls x before body third last t at is = let e : item_size x ≡ 2 + size before + size body + size third = ap item_size is in omega (arith, at, e)

pub switch_falls : (x : Item) (cases : _) (body : ItemList) (t : ℕ) → 4 * item_size x + 2 ≡ t → x ≡ Switch cases body → 4 * (1 + size body) + 3 < t
switch_falls x cases body t at is = let e : item_size x ≡ 2 + size body = ap item_size is in omega (arith, at, e)

pub nothing_left : (xs : List AccItem) → length xs ≡ 0 → item_list xs ≡ end
nothing_left [] none = refl
nothing_left (x ∷ xs) none = absurd (let e : 0 < length (x ∷ xs) = omega arith in omega (arith, none, e))
