-- What was appended, written otherwise.
use Rattle.std.proofs.Common.{◌≡◌, ap, ◌∙◌, subst, Bool, List, Result, OnOk, IfOk}
use Rattle.std.proofs.lemmas.Result.{IfOk-weaker}
use Rattle.std.specs.Prelude.{Vec}
use Rattle.std.specs.Global.{Global}
use Rattle.acc_code.specs.declared.item.AccItem as code
use Rattle.acc_code.specs.declared.item.AccItem.{AccItem}
use Rattle.acc_code.specs.declared.item.CaseLabel.{CaseLabel}
use Rattle.acc_code.specs.declared.operation.Test.{Test}
use Rattle.acc_code.specs.AccTree.{If, Loop, Switch, ItemList, end, ◌▸◌}
use Rattle.acc_code.specs.AccView.{item_of, item_list}
use Rattle.acc_operations.specs.Appended.{Appends}
use Rattle.acc_select.proofs.Views.{if_of_lists, loop_of_lists, switch_of_lists}

pub alike : {A B C : Type 0} (node : A → B → C) {a c : A} {b d : B} → a ≡ c → b ≡ d → node a b ≡ node c d
alike node {c = c} {b = b} first second = ap (λ x. node x b) first ∙ ap (node c) second

pub appended_as : {T E : Type 0} (r : Result T E) (before behind : List AccItem) {xs ys : ItemList} → xs ≡ ys
    → OnOk r (Appends before behind xs) → OnOk r (Appends before behind ys)
appended_as r before behind same done = subst (λ zs. OnOk r (Appends before behind zs)) same done

pub if_appended : {T E : Type 0} (r : Result T E) (before behind : List AccItem) {xs ys : ItemList} (test : Test) (hit miss : Vec AccItem Global)
    → item_list hit.items ≡ xs → item_list miss.items ≡ ys → OnOk r (Appends before behind (item_of (code.If test hit miss) ▸ end))
    → OnOk r (Appends before behind (If test xs ys ▸ end))
if_appended r before behind test hit miss first second done =
    appended_as r before behind (ap (λ x. x ▸ end) (if_of_lists test hit miss ∙ alike (If test) first second)) done

pub result_as : {T E : Type 0} (r : Result T E) {x y : T} → x ≡ y → IfOk r (λ v. v ≡ x) → IfOk r (λ v. v ≡ y)
result_as r same found = IfOk-weaker r _ _ (λ v e. e ∙ same) found

pub loop_appended : {T E : Type 0} (r : Result T E) (behind news : List AccItem) (before body after : Vec AccItem Global) (last : Bool)
    → OnOk r (Appends behind news (item_of (code.Loop before body after last) ▸ end))
    → OnOk r (Appends behind news (Loop (item_list before.items) (item_list body.items) (item_list after.items) last ▸ end))
loop_appended r behind news before body after last done = appended_as r behind news (ap (λ x. x ▸ end) (loop_of_lists before body after last)) done

pub switch_appended : {T E : Type 0} (r : Result T E) (behind news : List AccItem) (cases : Vec CaseLabel Global) (body : Vec AccItem Global)
    → OnOk r (Appends behind news (item_of (code.Switch cases body) ▸ end)) → OnOk r (Appends behind news (Switch cases.items (item_list body.items) ▸ end))
switch_appended r behind news cases body done = appended_as r behind news (ap (λ x. x ▸ end) (switch_of_lists cases body)) done
