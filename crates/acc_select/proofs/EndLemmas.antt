-- How code ends, and functions with one more of them selected.
use Rattle.std.proofs.Common.{◌≡◌, refl, ap, ◌∙◌, sym, ℕ, ◌+◌, ◌<◌, Bool, List, [], ◌∷◌, ◌++◌, length, take, get_or, map}
use Rattle.std.proofs.lemmas.List.{take_more}
use Rattle.acc_code.specs.declared.item.AccItem.{AccItem}
use Rattle.acc_code.specs.declared.program.AccFunction.{AccFunction}
use Rattle.acc_code.specs.AccTree.{Item, Op, If, Loop, Switch, Case, Clear, Call, Helper, Break, Continue, Return, ItemList, end, item, ◌▸◌, ◌⧺◌}
use Rattle.acc_code.specs.AccView.{item_of, item_list, function_items_of}
use Rattle.tree_code.specs.declared.program.TreeFunction.{TreeFunction}
use Rattle.tree_code.specs.WordView.{function_code_of}
use Rattle.acc_select.specs.Ends.{is_return}
use Rattle.acc_select.specs.Selected.{ends_with_return, selected_function}
use Rattle.acc_operations.proofs.ItemLemmas.{list_of_both}

not_last : (x y : Item) (ys : ItemList) → ends_with_return (item x (item y ys)) ≡ ends_with_return (item y ys)
not_last (Op o m) y ys = refl
not_last (If q a b) y ys = refl
not_last (Loop a b c d) y ys = refl
not_last (Switch cs b) y ys = refl
not_last (Case i) y ys = refl
not_last (Clear v i) y ys = refl
not_last (Call f) y ys = refl
not_last (Helper h) y ys = refl
not_last Break y ys = refl
not_last Continue y ys = refl
not_last Return y ys = refl

alone : (x : Item) → ends_with_return (x ▸ end) ≡ is_return x
alone (Op o m) = refl
alone (If q a b) = refl
alone (Loop a b c d) = refl
alone (Switch cs b) = refl
alone (Case i) = refl
alone (Clear v i) = refl
alone (Call f) = refl
alone (Helper h) = refl
alone Break = refl
alone Continue = refl
alone Return = refl

last_of_all : (xs : ItemList) (x : Item) → ends_with_return (xs ⧺ x ▸ end) ≡ is_return x
last_of_all end x = alone x
last_of_all (item y end) x = not_last y x end ∙ alone x
last_of_all (item y (item z zs)) x = not_last y z (zs ⧺ x ▸ end) ∙ last_of_all (item z zs) x

next : {A : Type 0} (list : List A) (i : ℕ) (x : A) → x ≡ get_or list i x → i < length list → take i list ++ x ∷ [] ≡ take (i + 1) list
next list i x is within = sym (take_more list i x within ∙ ap (λ y. take i list ++ y ∷ []) (sym is))

pub last_so_far : (list : List AccItem) (i : ℕ) (x : AccItem) {ends : Bool} → x ≡ get_or list i x → i < length list → ends ≡ is_return (item_of x)
    → ends ≡ ends_with_return (item_list (take (i + 1) list))
last_so_far list i x is within told =
    told ∙ sym (last_of_all (item_list (take i list)) (item_of x)) ∙ ap ends_with_return (sym (list_of_both (take i list) (x ∷ []))) ∙ ap (λ l. ends_with_return (item_list l)) (next list i x is within)

pub function_further : (list : List TreeFunction) (i : ℕ) (x : TreeFunction) (all news : List AccFunction) (f : AccFunction) → x ≡ get_or list i x → i < length list
    → map function_items_of all ≡ map selected_function (map function_code_of (take i list)) → news ≡ all ++ f ∷ [] → function_items_of f ≡ selected_function (function_code_of x)
    → map function_items_of news ≡ map selected_function (map function_code_of (take (i + 1) list))
function_further list i x all news f is within so_far pushed one =
    ap (map function_items_of) pushed ∙ pushed_on all (take i list) so_far ∙ ap (λ l. map selected_function (map function_code_of l)) (next list i x is within)
  where
    pushed_on : (done : List AccFunction) (xs : List TreeFunction) → map function_items_of done ≡ map selected_function (map function_code_of xs)
        → map function_items_of (done ++ f ∷ []) ≡ map selected_function (map function_code_of (xs ++ x ∷ []))
    pushed_on [] [] same = ap (λ y. y ∷ []) one
    pushed_on [] (y ∷ ys) same = absurd (cc same)
    pushed_on (a ∷ bs) [] same = absurd (cc same)
    pushed_on (a ∷ bs) (y ∷ ys) same =
        let head : function_items_of a ≡ selected_function (function_code_of y) = cc same
        in let rest : map function_items_of bs ≡ map selected_function (map function_code_of ys) = cc same
        in ap (λ h. h ∷ map function_items_of (bs ++ f ∷ [])) head ∙ ap (λ l. selected_function (function_code_of y) ∷ l) (pushed_on bs ys rest)
