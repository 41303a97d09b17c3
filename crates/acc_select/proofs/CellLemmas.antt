-- The cells of a local object with one more of them done.
use Rattle.std.proofs.Common.{◌≡◌, ap, ◌∙◌, sym, ℕ, suc, ◌+◌, ◌<◌, ◌≤◌, List, ◌∷◌, length, map, get_or, drop, arith}
use Rattle.std.specs.Prelude.{slice_get}
use Rattle.std.proofs.lemmas.Option.{slice_get-map, slice_get_past}
use Rattle.c_tree.specs.View.{object_of}
use Rattle.c_tree.specs.declared.program.Initial.{Initial}
use Rattle.c_tree.specs.declared.program.Object.{Object}
use Rattle.c_tree.specs.declared.program.VarRef.TheVariants.{Local}
use Rattle.acc_code.specs.declared.item.AccItem.{AccItem}
use Rattle.acc_code.specs.declared.operand.AccOperand.TheVariants as operand
use Rattle.acc_code.specs.AccTree.{ItemList, end, ◌▸◌, ◌⧺◌}
use Rattle.acc_code.specs.AccView.{item_list}
use Rattle.acc_operations.specs.Appended.{Appends}
use Rattle.acc_operations.specs.Constants.{load_constant, initial_constant}
use Rattle.acc_select.specs.Forms.{point}
use Rattle.acc_select.specs.Selected.{cell_items, fill_items}
use Rattle.acc_operations.specs.Words.{sacl}
use Rattle.acc_operations.specs.declared.constant.Constant.TheVariants.{Address}
use Rattle.acc_operations.proofs.ItemLemmas.{no_items_behind}
use Rattle.std.proofs.Math.Seq.{drop-cons}
use Rattle.acc_select.proofs.StatementLemmas.{one_less}

pub nothing_there : (ls : List Object) (n : ℕ) (code : List AccItem) → length ls ≤ n → Appends code code (fill_items n (slice_get (map object_of ls) n))
nothing_there ls n code past = rw (slice_get-map object_of ls n, slice_get_past ls n past) (sym (no_items_behind (item_list code)))

abbrev cell : ℕ → ℕ → Initial → ItemList
cell n i x = load_constant (Address (Local n) i) ▸ point ▸ load_constant (initial_constant x) ▸ sacl operand.Pointed ▸ end

pub cell_further : (n index : ℕ) (list : List Initial) (i : ℕ) (none : Initial) (behind news : List AccItem) {all : ItemList} → i < length list → index ≡ i
    → item_list behind ⧺ cell_items n i (drop i list) ≡ all → Appends behind news (cell n index (get_or list i none)) → item_list news ⧺ cell_items n (i + 1) (drop (i + 1) list) ≡ all
cell_further n index list i none behind news within at so_far more =
    one_less behind news (cell n index (get_or list i none)) (cell_items n i (drop i list)) (cell_items n (i + 1) (drop (i + 1) list))
    (ap (cell_items n i) (drop-cons list i none within ∙ ap (λ k. get_or list i none ∷ drop k list) (let e : suc i ≡ i + 1 = omega arith in e)) ∙ ap (λ k. cell n i (get_or list i none) ⧺ cell_items n k (drop (i + 1) list)) (let e : suc i ≡ i + 1 = omega arith in e)
    ∙ ap (λ k. cell n k (get_or list i none) ⧺ cell_items n (i + 1) (drop (i + 1) list)) (sym at)) so_far more
