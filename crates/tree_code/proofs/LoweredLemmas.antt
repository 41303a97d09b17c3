-- Lists of lowered parts with one more of them, and forms that are no conversion or no number.
use Rattle.std.proofs.Common.{◌≡◌, ◌≢◌, refl, false, ◌<◌, ◌+◌, ◌++◌, ◌∷◌, [], ℕ, List, length, take, get_or, ap, ◌∙◌, sym, Result, IfOk}
use Rattle.std.specs.Prelude.{Box, Vec}
use Rattle.std.specs.Global.{Global}
use Rattle.std.proofs.lemmas.List.{take_more}
use Rattle.std.proofs.lemmas.Result.{IfOk-weaker}
use Rattle.c_tree.proofs.Views.{typed_call_form, block_of_list, switch_of_list}
use Rattle.c_tree.specs.declared.typed_expression.TypedExpr.{TypedExpr}
use Rattle.c_tree.specs.declared.typed_expression.ExprForm as form
use Rattle.c_tree.specs.declared.typed_expression.ExprForm.{ExprForm}
use Rattle.c_tree.specs.declared.typed_statement.TypedStmt as stmt
use Rattle.c_tree.specs.declared.typed_statement.TypedStmt.{TypedStmt}
use Rattle.c_tree.specs.declared.typed_statement.Choice as typed_choice
use Rattle.c_tree.specs.declared.typed_statement.Choice.{Choice}
use Rattle.c_tree.specs.View as typed
use Rattle.c_tree.specs.TypedTree as tree
use Rattle.c_tree.specs.TypedTree.{Kind}
use Rattle.c_tree.specs.declared.program.VarRef.{VarRef}
use Rattle.tree_code.specs.declared.word_expression.WordExpr.{WordExpr}
use Rattle.tree_code.specs.declared.word_expression.WordForm as coded
use Rattle.tree_code.specs.declared.word_expression.WordForm.{WordForm}
use Rattle.tree_code.specs.declared.word_statement.WordStmt as coded_stmt
use Rattle.tree_code.specs.declared.word_statement.WordStmt.{WordStmt}
use Rattle.tree_code.specs.declared.word_statement.WordChoice as choice
use Rattle.tree_code.specs.declared.word_statement.WordChoice.{WordChoice}
use Rattle.tree_code.proofs.Views as views
use Rattle.tree_code.specs.WordTree as word
use Rattle.tree_code.specs.WordView.{word_expr_of, word_form_of, word_argument_list, word_stmt_of, word_statement_list, word_choice_list, word_choice_before}
use Rattle.tree_code.specs.Lowered.{is_conversion, is_number, lowered, lowered_form, lowered_list, lowered_statement, lowered_statements, lowered_choices}

alike : {A B C : Type 0} (node : A → B → C) {a c : A} {b d : B} → a ≡ c → b ≡ d → node a b ≡ node c d
alike node {c = c} {b = b} first second = ap (λ x. node x b) first ∙ ap (node c) second

-- the part of a list before the next place, with its element
pub next : {A : Type 0} (list : List A) (i : ℕ) (x : A) → x ≡ get_or list i x → i < length list → take i list ++ x ∷ [] ≡ take (i + 1) list
next list i x is within = sym (take_more list i x within ∙ ap (λ y. take i list ++ y ∷ []) (sym is))

argument_pushed : (ws : List WordExpr) (w : WordExpr) (xs : List TypedExpr) (x : TypedExpr)
    → word_argument_list ws ≡ lowered_list (typed.argument_list xs) → word_expr_of w ≡ lowered (typed.expr_of x)
    → word_argument_list (ws ++ w ∷ []) ≡ lowered_list (typed.argument_list (xs ++ x ∷ []))
argument_pushed [] w [] x all one = ap (λ e. word.more e word.none) one
argument_pushed [] w (y ∷ ys) x all one = absurd (cc all)
argument_pushed (v ∷ vs) w [] x all one = absurd (cc all)
argument_pushed (v ∷ vs) w (y ∷ ys) x all one =
    let head : word_expr_of v ≡ lowered (typed.expr_of y) = cc all
    in let rest : word_argument_list vs ≡ lowered_list (typed.argument_list ys) = cc all
    in alike word.more head (argument_pushed vs w ys x rest one)

-- a turn of the loop over arguments
pub argument_further : (list : List TypedExpr) (i : ℕ) (x : TypedExpr) (ws news : List WordExpr) (w : WordExpr) → x ≡ get_or list i x → i < length list
    → word_argument_list ws ≡ lowered_list (typed.argument_list (take i list)) → news ≡ ws ++ w ∷ [] → word_expr_of w ≡ lowered (typed.expr_of x)
    → word_argument_list news ≡ lowered_list (typed.argument_list (take (i + 1) list))
argument_further list i x ws news w is within all pushed one =
    ap word_argument_list pushed ∙ argument_pushed ws w (take i list) x all one ∙ ap (λ l. lowered_list (typed.argument_list l)) (next list i x is within)

statement_pushed : (ws : List WordStmt) (w : WordStmt) (xs : List TypedStmt) (x : TypedStmt)
    → word_statement_list ws ≡ lowered_statements (typed.statement_list xs) → word_stmt_of w ≡ lowered_statement (typed.stmt_of x)
    → word_statement_list (ws ++ w ∷ []) ≡ lowered_statements (typed.statement_list (xs ++ x ∷ []))
statement_pushed [] w [] x all one = ap (λ s. word.both s word.done) one
statement_pushed [] w (y ∷ ys) x all one = absurd (cc all)
statement_pushed (v ∷ vs) w [] x all one = absurd (cc all)
statement_pushed (v ∷ vs) w (y ∷ ys) x all one =
    let head : word_stmt_of v ≡ lowered_statement (typed.stmt_of y) = cc all
    in let rest : word_statement_list vs ≡ lowered_statements (typed.statement_list ys) = cc all
    in alike word.both head (statement_pushed vs w ys x rest one)

-- a turn of the loop over statements
pub statement_further : (list : List TypedStmt) (i : ℕ) (x : TypedStmt) (ws news : List WordStmt) (w : WordStmt) → x ≡ get_or list i x → i < length list
    → word_statement_list ws ≡ lowered_statements (typed.statement_list (take i list)) → news ≡ ws ++ w ∷ [] → word_stmt_of w ≡ lowered_statement (typed.stmt_of x)
    → word_statement_list news ≡ lowered_statements (typed.statement_list (take (i + 1) list))
statement_further list i x ws news w is within all pushed one =
    ap word_statement_list pushed ∙ statement_pushed ws w (take i list) x all one ∙ ap (λ l. lowered_statements (typed.statement_list l)) (next list i x is within)

choice_pushed : (ws : List WordChoice) (w : WordChoice) (xs : List Choice) (x : Choice)
    → word_choice_list ws ≡ lowered_choices (typed.choice_list xs) → word_choice_before w word.no_more ≡ lowered_choices (typed.choice_before x tree.no_more)
    → word_choice_list (ws ++ w ∷ []) ≡ lowered_choices (typed.choice_list (xs ++ x ∷ []))
choice_pushed [] w [] x all one = one
choice_pushed [] w (typed_choice.Case n ∷ ys) x all one = absurd (cc all)
choice_pushed [] w (typed_choice.Default ∷ ys) x all one = absurd (cc all)
choice_pushed [] w (typed_choice.Body t ∷ ys) x all one = absurd (cc all)
choice_pushed (choice.Case m ∷ vs) w [] x all one = absurd (cc all)
choice_pushed (choice.Default ∷ vs) w [] x all one = absurd (cc all)
choice_pushed (choice.Body s ∷ vs) w [] x all one = absurd (cc all)
choice_pushed (choice.Case m ∷ vs) w (typed_choice.Default ∷ ys) x all one = absurd (cc all)
choice_pushed (choice.Case m ∷ vs) w (typed_choice.Body t ∷ ys) x all one = absurd (cc all)
choice_pushed (choice.Default ∷ vs) w (typed_choice.Case n ∷ ys) x all one = absurd (cc all)
choice_pushed (choice.Default ∷ vs) w (typed_choice.Body t ∷ ys) x all one = absurd (cc all)
choice_pushed (choice.Body s ∷ vs) w (typed_choice.Case n ∷ ys) x all one = absurd (cc all)
choice_pushed (choice.Body s ∷ vs) w (typed_choice.Default ∷ ys) x all one = absurd (cc all)
choice_pushed (choice.Case m ∷ vs) w (typed_choice.Case n ∷ ys) x all one =
    let head : m ≡ n = cc all
    in let rest : word_choice_list vs ≡ lowered_choices (typed.choice_list ys) = cc all
    in alike word.case head (choice_pushed vs w ys x rest one)
choice_pushed (choice.Default ∷ vs) w (typed_choice.Default ∷ ys) x all one =
    let rest : word_choice_list vs ≡ lowered_choices (typed.choice_list ys) = cc all
    in ap word.default (choice_pushed vs w ys x rest one)
choice_pushed (choice.Body s ∷ vs) w (typed_choice.Body t ∷ ys) x all one =
    let head : word_stmt_of s ≡ lowered_statement (typed.stmt_of t) = cc all
    in let rest : word_choice_list vs ≡ lowered_choices (typed.choice_list ys) = cc all
    in alike word.body head (choice_pushed vs w ys x rest one)

-- a turn of the loop over what stands in a switch
pub choice_further : (list : List Choice) (i : ℕ) (x : Choice) (ws news : List WordChoice) (w : WordChoice) → x ≡ get_or list i x → i < length list
    → word_choice_list ws ≡ lowered_choices (typed.choice_list (take i list)) → news ≡ ws ++ w ∷ []
    → word_choice_before w word.no_more ≡ lowered_choices (typed.choice_before x tree.no_more)
    → word_choice_list news ≡ lowered_choices (typed.choice_list (take (i + 1) list))
choice_further list i x ws news w is within all pushed one =
    ap word_choice_list pushed ∙ choice_pushed ws w (take i list) x all one ∙ ap (λ l. lowered_choices (typed.choice_list l)) (next list i x is within)

-- a form that is no conversion, and one that is no number
pub no_conversion : (shape : ExprForm) → ((b : Box TypedExpr Global) → shape ≢ form.Convert b) → false ≡ is_conversion (typed.form_of shape)
no_conversion (form.Const w) other = refl
no_conversion (form.Read v) other = refl
no_conversion (form.AddressOf v) other = refl
no_conversion (form.Load' p f m l) other = refl
no_conversion (form.Unary' o p f m l) other = refl
no_conversion (form.Binary' o p f m l q g n i) other = refl
no_conversion (form.And' p f m l q g n i) other = refl
no_conversion (form.Or' p f m l q g n i) other = refl
no_conversion (form.Not' p f m l) other = refl
no_conversion (form.Pick' p f m l q g n i r h s j) other = refl
no_conversion (form.Assign' to l p f m i) other = refl
no_conversion (form.AssignOp' o to l p f m i) other = refl
no_conversion (form.StepBefore' up to l) other = refl
no_conversion (form.StepAfter' up to l) other = refl
no_conversion (form.Call' n shape es) other = refl
no_conversion (form.In port) other = refl
no_conversion (form.Out' port p f m l) other = refl
no_conversion (form.Comma' p f m l q g n i) other = refl
no_conversion (form.Convert' p f m l) other = absurd (other (record { ptr = p.ptr; alloc = p.alloc; value = record { form = f; kind = m; at = l } }) refl)

pub no_number : (shape : WordForm) → ((n : ℕ) → shape ≢ coded.Const n) → false ≡ is_number (word_form_of shape)
no_number (coded.Const n) other = absurd (other n refl)
no_number (coded.Read v) other = refl
no_number (coded.AddressOf v) other = refl
no_number (coded.Load' p f l) other = refl
no_number (coded.Unary' o p f l) other = refl
no_number (coded.Binary' o p f l q g i) other = refl
no_number (coded.And' p f l q g i) other = refl
no_number (coded.Or' p f l q g i) other = refl
no_number (coded.Not' p f l) other = refl
no_number (coded.Pick' p f l q g i r h j) other = refl
no_number (coded.Assign' to l p f i) other = refl
no_number (coded.AssignOp' o to l p f i) other = refl
no_number (coded.StepBefore' up to l) other = refl
no_number (coded.StepAfter' up to l) other = refl
no_number (coded.Call' n shape es) other = refl
no_number (coded.In port) other = refl
no_number (coded.Out' port p f l) other = refl
no_number (coded.Comma' p f l q g i) other = refl

-- a call of a list of arguments, and a block and a switch of lists
pub of_call : {E : Type 0} (r : Result WordExpr E) (shape : ExprForm) (kind : Kind) (at f : ℕ) (l : _) {items : List TypedExpr} → shape ≡ form.Call f l → items ≡ l.items
    → IfOk r (λ w. word_expr_of w ≡ word.Node (word.Call f (lowered_list (typed.argument_list items))) at) → IfOk r (λ w. word_expr_of w ≡ lowered_form (typed.form_of shape) kind at)
of_call r shape kind at f l is listed found =
    IfOk-weaker r _ _ (λ w e. e ∙ ap (λ items. word.Node (word.Call f (lowered_list (typed.argument_list items))) at) listed
    ∙ ap (λ g. lowered_form g kind at) (sym (ap typed.form_of is ∙ typed_call_form f l))) found

pub of_block : {E : Type 0} (r : Result WordStmt E) (s : TypedStmt) (declared l : _) {names : List VarRef} {items : List TypedStmt} → s ≡ stmt.Block declared l
    → names ≡ declared.items → items ≡ l.items
    → IfOk r (λ w. word_stmt_of w ≡ word.Block names (lowered_statements (typed.statement_list items))) → IfOk r (λ w. word_stmt_of w ≡ lowered_statement (typed.stmt_of s))
of_block r s declared l {items = items} is named listed found =
    IfOk-weaker r _ _ (λ w e. e ∙ ap (λ names. word.Block names (lowered_statements (typed.statement_list items))) named
    ∙ ap (λ items. word.Block declared.items (lowered_statements (typed.statement_list items))) listed
    ∙ ap lowered_statement (sym (ap typed.stmt_of is ∙ block_of_list declared l))) found

pub of_switch : {E : Type 0} (r : Result WordStmt E) (s : TypedStmt) (value : TypedExpr) (l : _) {items : List Choice} → s ≡ stmt.Switch value l → items ≡ l.items
    → IfOk r (λ w. word_stmt_of w ≡ word.Switch (lowered (typed.expr_of value)) (lowered_choices (typed.choice_list items))) → IfOk r (λ w. word_stmt_of w ≡ lowered_statement (typed.stmt_of s))
of_switch r s value l is listed found =
    IfOk-weaker r _ _ (λ w e. e ∙ ap (λ items. word.Switch (lowered (typed.expr_of value)) (lowered_choices (typed.choice_list items))) listed
    ∙ ap lowered_statement (sym (ap typed.stmt_of is ∙ switch_of_list value l))) found

pub block_made : (declared : Vec VarRef Global) (l : Vec WordStmt Global) {names : List VarRef} {ss : word.StmtsCode} → declared.items ≡ names → word_statement_list l.items ≡ ss
    → word_stmt_of (coded_stmt.Block declared l) ≡ word.Block names ss
block_made declared l named listed = views.block_of_list declared l ∙ alike word.Block named listed

pub switch_made : (value : WordExpr) (l : Vec WordChoice Global) {e : word.ExprCode} {cs : word.ChoicesCode} → word_expr_of value ≡ e → word_choice_list l.items ≡ cs
    → word_stmt_of (coded_stmt.Switch value l) ≡ word.Switch e cs
switch_made value l first listed = views.switch_of_list value l ∙ alike word.Switch first listed
