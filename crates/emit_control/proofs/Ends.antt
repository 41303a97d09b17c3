-- Where lists lead at once.
use Rattle.std.proofs.Common.{◌≡◌, ℕ, ◌+◌, Bool, true, false, if◌then◌else◌, Option, Some, None, refl, arith}
use Rattle.acc_code.specs.AccTree.{Item, Op, If, Loop, Switch, Case, Clear, Call, Helper, Break, Continue, Return, ItemList, end, item}
use Rattle.emit_control.specs.declared.ways.Ways.{Ways}
use Rattle.emit_control.specs.Flow.{target, is_end, labels, item_labels}
use Rattle.emit_control.specs.Emits.{item_target}

pub target_by : (w : Ways) (x : Item) (xs : ItemList) → target w (item x xs) ≡ (if is_end xs then item_target w x else None)
target_by w (Op o m) end = refl
target_by w (Op o m) (item y ys) = refl
target_by w (If test hit miss) end = refl
target_by w (If test hit miss) (item y ys) = refl
target_by w (Loop before body behind last) end = refl
target_by w (Loop before body behind last) (item y ys) = refl
target_by w (Switch cases body) end = refl
target_by w (Switch cases body) (item y ys) = refl
target_by w (Case n) end = refl
target_by w (Case n) (item y ys) = refl
target_by w (Clear v from) end = refl
target_by w (Clear v from) (item y ys) = refl
target_by w (Call f) end = refl
target_by w (Call f) (item y ys) = refl
target_by w (Helper name) end = refl
target_by w (Helper name) (item y ys) = refl
target_by w Break end = refl
target_by w Break (item y ys) = refl
target_by w Continue end = refl
target_by w Continue (item y ys) = refl
target_by w Return end = refl
target_by w Return (item y ys) = refl

pub end_labels : (xs : ItemList) → is_end xs ≡ true → labels xs ≡ 0
end_labels end is = refl
end_labels (item x xs) is = cc

pub first_labels : (x : Item) (xs : ItemList) → item_labels x ≡ 0 → is_end xs ≡ true → labels (item x xs) ≡ 0
first_labels x xs none is = let e : labels xs ≡ 0 = end_labels xs is in omega (arith, e, none)
