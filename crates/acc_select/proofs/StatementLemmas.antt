-- Lists of statements, choices and cells with one more of them done.
use Rattle.std.proofs.Common.{◌≡◌, refl, ap, ◌∙◌, sym, ℕ, suc, ◌+◌, ◌<◌, ◌≤◌, List, [], ◌∷◌, ◌++◌, length, get_or, drop, arith}
use Rattle.std.proofs.Common.{append_assoc}
use Rattle.std.proofs.Math.Seq.{drop-cons}
use Rattle.std.proofs.Math.ListN.{drop_of_length-le}
use Rattle.std.proofs.Common.{Result, IfOk}
use Rattle.std.proofs.lemmas.Result.{IfOk-weaker}
use Rattle.std.proofs.lemmas.List.{append-nil}
use Rattle.c_tree.specs.declared.program.VarRef.{VarRef}
use Rattle.tree_code.specs.declared.word_expression.WordExpr.{WordExpr}
use Rattle.tree_code.proofs.Views.{block_of_list, switch_of_list}
use Rattle.acc_select.specs.declared.part.Part.{Part}
use Rattle.acc_select.specs.PartView.{part_of}
use Rattle.acc_select.specs.Conditions as condition
use Rattle.acc_select.specs.Conditions.{Runs}
use Rattle.c_tree.specs.TypedTree.{ObjectTree}
use Rattle.tree_code.specs.declared.word_statement.WordStmt.{WordStmt}
use Rattle.tree_code.specs.declared.word_statement.WordStmt as stmt
use Rattle.tree_code.specs.declared.word_statement.WordChoice as choice
use Rattle.tree_code.specs.declared.word_statement.WordChoice.{WordChoice}
use Rattle.tree_code.specs.WordTree as tree
use Rattle.tree_code.specs.WordTree.{ChoicesCode}
use Rattle.tree_code.specs.WordView.{word_expr_of, word_stmt_of, word_statement_list, word_choice_list, word_choice_before}
use Rattle.acc_code.specs.declared.item.AccItem.{AccItem}
use Rattle.acc_code.specs.declared.item.CaseLabel.{CaseLabel}
use Rattle.acc_code.specs.AccTree.{ItemList, ◌⧺◌}
use Rattle.acc_code.specs.AccView.{item_list}
use Rattle.acc_operations.specs.Appended.{Appends}
use Rattle.acc_select.specs.Selected.{part_of as selected_part, statement_items, statements_items, choices_items, labels_of}
use Rattle.acc_operations.proofs.ItemLemmas.{items_associate, no_items_behind}

-- what is appended was the first part of what is still to come
pub one_less : (behind news : List AccItem) (x here rest : ItemList) {all : ItemList} → here ≡ x ⧺ rest → item_list behind ⧺ here ≡ all → Appends behind news x → item_list news ⧺ rest ≡ all
one_less behind news x here rest splits so_far more =
    ap (λ xs. xs ⧺ rest) more ∙ items_associate (item_list behind) x rest ∙ ap (λ xs. item_list behind ⧺ xs) (sym splits) ∙ so_far

pub dropped : {A : Type 0} (list : List A) (i : ℕ) (x : A) → x ≡ get_or list i x → i < length list → drop i list ≡ x ∷ drop (i + 1) list
dropped list i x is within = drop-cons list i x within ∙ ap (λ y. y ∷ drop (suc i) list) (sym is) ∙ ap (λ n. x ∷ drop n list) (let e : suc i ≡ i + 1 = omega arith in e)

pub statement_further : (ls : List ObjectTree) (t : ℕ) (list : List WordStmt) (i : ℕ) (x : WordStmt) (behind news : List AccItem) {all : ItemList} → x ≡ get_or list i x → i < length list
    → item_list behind ⧺ statements_items ls t (word_statement_list (drop i list)) ≡ all → Appends behind news (statement_items ls t (word_stmt_of x))
    → item_list news ⧺ statements_items ls t (word_statement_list (drop (i + 1) list)) ≡ all
statement_further ls t list i x behind news is within so_far more =
    one_less behind news (statement_items ls t (word_stmt_of x)) _ _ (ap (λ l. statements_items ls t (word_statement_list l)) (dropped list i x is within)) so_far more

choice_splits : (ls : List ObjectTree) (t n k : ℕ) (x : WordChoice) (rest : ChoicesCode) → k ≡ n + length (labels_of (word_choice_before x tree.no_more))
    → choices_items ls t (word_choice_before x rest) n ≡ choices_items ls t (word_choice_before x tree.no_more) n ⧺ choices_items ls t rest k
choice_splits ls t n k (choice.Case w) rest at = ap (λ i. choices_items ls t (tree.case w tree.no_more) n ⧺ choices_items ls t rest i) (let e : suc n ≡ k = omega (arith, at) in e)
choice_splits ls t n k choice.Default rest at = ap (λ i. choices_items ls t (tree.default tree.no_more) n ⧺ choices_items ls t rest i) (let e : suc n ≡ k = omega (arith, at) in e)
choice_splits ls t n k (choice.Body s) rest at =
    ap (λ i. statement_items ls t (word_stmt_of s) ⧺ choices_items ls t rest i) (let e : n ≡ k = omega (arith, at) in e)
    ∙ ap (λ xs. xs ⧺ choices_items ls t rest k) (sym (no_items_behind (statement_items ls t (word_stmt_of s))))

pub choice_further : (ls : List ObjectTree) (t n k : ℕ) (list : List WordChoice) (i : ℕ) (x : WordChoice) (behind news : List AccItem) {all : ItemList} → x ≡ get_or list i x → i < length list
    → item_list behind ⧺ choices_items ls t (word_choice_list (drop i list)) n ≡ all → Appends behind news (choices_items ls t (word_choice_before x tree.no_more) n)
    → k ≡ n + length (labels_of (word_choice_before x tree.no_more))
    → item_list news ⧺ choices_items ls t (word_choice_list (drop (i + 1) list)) k ≡ all
choice_further ls t n k list i x behind news is within so_far more at =
    one_less behind news (choices_items ls t (word_choice_before x tree.no_more) n) _ _
    (ap (λ l. choices_items ls t (word_choice_list l) n) (dropped list i x is within) ∙ choice_splits ls t n k x (word_choice_list (drop (i + 1) list)) at) so_far more

-- nothing is left behind the last one
pub all_statements : (ls : List ObjectTree) (t : ℕ) (list : List WordStmt) (i : ℕ) (items : List AccItem) {all : ItemList} → length list ≤ i
    → item_list items ⧺ statements_items ls t (word_statement_list (drop i list)) ≡ all → item_list items ≡ all
all_statements ls t list i items at so_far =
    sym (no_items_behind (item_list items)) ∙ ap (λ l. item_list items ⧺ statements_items ls t (word_statement_list l)) (sym (drop_of_length-le list at)) ∙ so_far

pub all_choices : (ls : List ObjectTree) (t n : ℕ) (list : List WordChoice) (i : ℕ) (items : List AccItem) {all : ItemList} → length list ≤ i
    → item_list items ⧺ choices_items ls t (word_choice_list (drop i list)) n ≡ all → item_list items ≡ all
all_choices ls t n list i items at so_far =
    sym (no_items_behind (item_list items)) ∙ ap (λ l. item_list items ⧺ choices_items ls t (word_choice_list l) n) (sym (drop_of_length-le list at)) ∙ so_far

-- labels
pub label_further : (list : List WordChoice) (i : ℕ) (x : WordChoice) (behind news : List CaseLabel) {all : List CaseLabel} → x ≡ get_or list i x → i < length list
    → behind ++ labels_of (word_choice_list (drop i list)) ≡ all → news ≡ behind ++ labels_of (word_choice_before x tree.no_more)
    → news ++ labels_of (word_choice_list (drop (i + 1) list)) ≡ all
label_further list i x behind news is within so_far pushed =
    ap (λ l. l ++ labels_of (word_choice_list (drop (i + 1) list))) pushed
    ∙ append_assoc behind (labels_of (word_choice_before x tree.no_more)) (labels_of (word_choice_list (drop (i + 1) list)))
    ∙ ap (λ l. behind ++ l) (sym (labels_split x (word_choice_list (drop (i + 1) list)))) ∙ ap (λ l. behind ++ labels_of (word_choice_list l)) (sym (dropped list i x is within)) ∙ so_far
  where
    labels_split : (x : WordChoice) (rest : ChoicesCode) → labels_of (word_choice_before x rest) ≡ labels_of (word_choice_before x tree.no_more) ++ labels_of rest
    labels_split (choice.Case w) rest = refl
    labels_split choice.Default rest = refl
    labels_split (choice.Body s) rest = refl

part_as : {E : Type 0} (r : Result Part E) {x y : condition.Part} → x ≡ y → IfOk r (λ p. part_of p ≡ x) → IfOk r (λ p. part_of p ≡ y)
part_as r {x = x} {y = y} same found = IfOk-weaker r (λ p. part_of p ≡ x) (λ p. part_of p ≡ y) (λ p e. e ∙ same) found

-- a block of one statement is that one, and one of more statements is long
pub only_statement : {E : Type 0} (r : Result Part E) (ls : List ObjectTree) (t : ℕ) (list : List WordStmt) (s : WordStmt) (rest : List WordStmt) → list ≡ s ∷ rest → length rest ≡ 0
    → IfOk r (λ p. part_of p ≡ selected_part (word_stmt_of s) (statement_items ls t (word_stmt_of s)))
    → IfOk r (λ p. part_of p ≡ selected_part (tree.Block [] (word_statement_list list)) (statements_items ls t (word_statement_list list)))
only_statement r ls t list s [] all none found =
    part_as r (ap (selected_part (word_stmt_of s)) (sym (no_items_behind (statement_items ls t (word_stmt_of s))))
    ∙ ap (λ l. selected_part (tree.Block [] (word_statement_list l)) (statements_items ls t (word_statement_list l))) (sym all)) found
only_statement r ls t list s (x ∷ xs) all none found = absurd (let e : ⊥ = omega (arith, none) in e)

pub more_statements : {E : Type 0} (r : Result Part E) (ls : List ObjectTree) (t : ℕ) (list : List WordStmt) (s : WordStmt) (rest : List WordStmt) → list ≡ s ∷ rest → 0 < length rest
    → IfOk r (λ p. part_of p ≡ Runs (statements_items ls t (word_statement_list list)))
    → IfOk r (λ p. part_of p ≡ selected_part (tree.Block [] (word_statement_list list)) (statements_items ls t (word_statement_list list)))
more_statements r ls t list s [] all none found = absurd (let e : ⊥ = omega (arith, none) in e)
more_statements r ls t list s (x ∷ xs) all none found =
    part_as r (ap (λ l. Runs (statements_items ls t (word_statement_list l))) all
    ∙ ap (λ l. selected_part (tree.Block [] (word_statement_list l)) (statements_items ls t (word_statement_list l))) (sym all)) found

-- a block and a switch of lists
same_block : (ls : List ObjectTree) (t : ℕ) (declared : List VarRef) (ss : tree.StmtsCode) → selected_part (tree.Block [] ss) (statements_items ls t ss) ≡ selected_part (tree.Block declared ss) (statements_items ls t ss)
same_block ls t declared tree.done = refl
same_block ls t declared (tree.both s tree.done) = refl
same_block ls t declared (tree.both s (tree.both x rest)) = refl

pub block_as_part : {E : Type 0} (r : Result Part E) (ls : List ObjectTree) (t : ℕ) (s : WordStmt) (declared l : _) {items : List WordStmt} → s ≡ stmt.Block declared l → items ≡ l.items
    → IfOk r (λ p. part_of p ≡ selected_part (tree.Block [] (word_statement_list items)) (statements_items ls t (word_statement_list items)))
    → IfOk r (λ p. part_of p ≡ selected_part (word_stmt_of s) (statement_items ls t (word_stmt_of s)))
block_as_part r ls t s declared l is listed found =
    part_as r (ap (λ items. selected_part (tree.Block [] (word_statement_list items)) (statements_items ls t (word_statement_list items))) listed
    ∙ same_block ls t declared.items (word_statement_list l.items) ∙ ap (λ x. selected_part x (statement_items ls t x)) (sym (ap word_stmt_of is ∙ block_of_list declared l))) found

pub block_as_statement : (ls : List ObjectTree) (t : ℕ) (s : WordStmt) (declared l : _) {items : List WordStmt} → s ≡ stmt.Block declared l → items ≡ l.items
    → statements_items ls t (word_statement_list items) ≡ statement_items ls t (word_stmt_of s)
block_as_statement ls t s declared l is listed =
    ap (λ items. statements_items ls t (word_statement_list items)) listed ∙ ap (statement_items ls t) (sym (ap word_stmt_of is ∙ block_of_list declared l))

pub switch_as_statement : (ls : List ObjectTree) (t : ℕ) (s : WordStmt) (value : WordExpr) (l : _) {items : List WordChoice} → s ≡ stmt.Switch value l → items ≡ l.items
    → statement_items ls t (tree.Switch (word_expr_of value) (word_choice_list items)) ≡ statement_items ls t (word_stmt_of s)
switch_as_statement ls t s value l is listed =
    ap (λ items. statement_items ls t (tree.Switch (word_expr_of value) (word_choice_list items))) listed ∙ ap (statement_items ls t) (sym (ap word_stmt_of is ∙ switch_of_list value l))

-- labels are all read behind the last one
pub all_labels : (list : List WordChoice) (i : ℕ) (labels : List CaseLabel) {all : List CaseLabel} → length list ≤ i → labels ++ labels_of (word_choice_list (drop i list)) ≡ all → labels ≡ all
all_labels list i labels at so_far = sym (append-nil labels) ∙ ap (λ l. labels ++ labels_of (word_choice_list l)) (sym (drop_of_length-le list at)) ∙ so_far
