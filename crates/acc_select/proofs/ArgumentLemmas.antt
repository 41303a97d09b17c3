-- The arguments of a call, one after another.
use Rattle.std.proofs.Common.{◌≡◌, refl, ap, ◌∙◌, sym, ℕ, suc, ◌+◌, ◌<◌, ◌==◌, false, List, [], ◌∷◌, length, get_or, drop, arith}
use Rattle.std.proofs.Math.Seq.{drop-cons}
use Rattle.std.proofs.lemmas.List.{length-drop}
use Rattle.std.proofs.Math.ListN.{drop_of_length-le}
use Rattle.tree_code.specs.declared.word_expression.WordExpr.{WordExpr}
use Rattle.tree_code.specs.WordView.{word_expr_of, word_argument_list}
use Rattle.tree_code.specs.WellFormedCode.{argument_count}
use Rattle.acc_code.specs.declared.item.AccItem.{AccItem}
use Rattle.acc_code.specs.declared.operand.AccOperand.{AccOperand}
use Rattle.acc_code.specs.AccTree.{ItemList, ◌⧺◌}
use Rattle.acc_code.specs.AccView.{item_list}
use Rattle.acc_operations.specs.Appended.{Appends}
use Rattle.acc_select.specs.OperationWords.{argument_place}
use Rattle.acc_select.specs.Selected.{code_of, arguments}
use Rattle.acc_operations.proofs.ItemLemmas.{items_associate, no_items_behind}

-- from argument i on, where the first one's temporary is t
abbrev pub arguments_from : ℕ → ℕ → List WordExpr → ℕ → ItemList
arguments_from f i es t = arguments f i (word_argument_list (drop i es)) (t + i)

not_none : (n : ℕ) → (suc n == 0) ≡ false
not_none n = grind arith

one_of_them : (f i n : ℕ) (e : WordExpr) (rest : List WordExpr)
    → arguments f i (word_argument_list (e ∷ rest)) n ≡ (code_of (word_expr_of e) n).into (argument_place f i n (length rest == 0)) ⧺ arguments f (suc i) (word_argument_list rest) (suc n)
one_of_them f i n e [] = sym (no_items_behind _)
one_of_them f i n e (x ∷ xs) = ap (λ b. (code_of (word_expr_of e) n).into (argument_place f i n b) ⧺ arguments f (suc i) (word_argument_list (x ∷ xs)) (suc n)) (sym (not_none (length xs)))

one_further : (f i t : ℕ) (es : List WordExpr) (e : WordExpr) → e ≡ get_or es i e → i < length es
    → arguments_from f i es t ≡ (code_of (word_expr_of e) (t + i)).into (argument_place f i (t + i) (length (drop (suc i) es) == 0)) ⧺ arguments f (suc i) (word_argument_list (drop (suc i) es)) (suc (t + i))
one_further f i t es e is within =
    ap (λ l. arguments f i (word_argument_list l) (t + i)) (drop-cons es i e within ∙ ap (λ x. x ∷ drop (suc i) es) (sym is)) ∙ one_of_them f i (t + i) e (drop (suc i) es)

-- a turn of the loop over them
pub argument_further : (f i t n left index : ℕ) (es : List WordExpr) (e : WordExpr) (place : AccOperand) (behind news : List AccItem) {all : ItemList}
    → e ≡ get_or es i e → i < length es → n ≡ t + i → index ≡ i → left + (i + 1) ≡ length es → place ≡ argument_place f index n (left == 0)
    → item_list behind ⧺ arguments_from f i es t ≡ all → Appends behind news ((code_of (word_expr_of e) n).into place)
    → item_list news ⧺ arguments_from f (i + 1) es t ≡ all
argument_further f i t n left index es e place behind news is within at number counted goes so_far more =
    let next : i + 1 ≡ suc i = omega arith
    in let rest : left ≡ length (drop (suc i) es) = omega (arith, length-drop (suc i) es, counted, within)
    in let place_is : place ≡ argument_place f i (t + i) (length (drop (suc i) es) == 0) =
    goes ∙ ap (λ k. argument_place f k n (left == 0)) number ∙ ap (λ k. argument_place f i k (left == 0)) at ∙ ap (λ k. argument_place f i (t + i) (k == 0)) rest
    in let item : (code_of (word_expr_of e) n).into place ≡ (code_of (word_expr_of e) (t + i)).into (argument_place f i (t + i) (length (drop (suc i) es) == 0)) =
    ap (λ k. (code_of (word_expr_of e) k).into place) at ∙ ap (λ m. (code_of (word_expr_of e) (t + i)).into m) place_is
    in let behind_it : arguments_from f (i + 1) es t ≡ arguments f (suc i) (word_argument_list (drop (suc i) es)) (suc (t + i)) =
    ap (λ k. arguments_from f k es t) next ∙ ap (λ k. arguments f (suc i) (word_argument_list (drop (suc i) es)) k) (let e : t + suc i ≡ suc (t + i) = omega arith in e)
    in ap (λ xs. xs ⧺ arguments_from f (i + 1) es t) more
    ∙ items_associate (item_list behind) ((code_of (word_expr_of e) n).into place) (arguments_from f (i + 1) es t)
    ∙ ap (λ xs. item_list behind ⧺ xs) (ap (λ x. x ⧺ arguments_from f (i + 1) es t) item
    ∙ ap (λ x. (code_of (word_expr_of e) (t + i)).into (argument_place f i (t + i) (length (drop (suc i) es) == 0)) ⧺ x) behind_it ∙ sym (one_further f i t es e is within))
    ∙ so_far

-- behind the last one
pub arguments_end : (f i t : ℕ) (es : List WordExpr) (items : List AccItem) {all : ItemList} → i ≡ length es → item_list items ⧺ arguments_from f i es t ≡ all → item_list items ≡ all
arguments_end f i t es items at so_far =
    sym (no_items_behind (item_list items)) ∙ ap (λ xs. item_list items ⧺ xs) (sym (ap (λ l. arguments f i (word_argument_list l) (t + i)) (none_left i es at))) ∙ so_far
  where
    none_left : (i : ℕ) (es : List WordExpr) → i ≡ length es → drop i es ≡ []
    none_left i es at = drop_of_length-le es (omega (arith, at))

-- how many wait
pub arguments_count : (es : List WordExpr) → argument_count (word_argument_list es) ≡ length es
arguments_count [] = refl
arguments_count (e ∷ es) = ap suc (arguments_count es)
