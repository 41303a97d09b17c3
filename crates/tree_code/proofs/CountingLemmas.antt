-- Temporaries of lists of word code with one more element, and of operations.
use Rattle.std.proofs.Common.{◌≡◌, ◌≢◌, refl, false, ◌<◌, ◌+◌, max, ◌++◌, ◌∷◌, [], ℕ, List, length, take, get_or, ap, ◌∙◌, sym, arith}
use Rattle.std.specs.Prelude.{Box}
use Rattle.std.specs.Global.{Global}
use Rattle.std.proofs.lemmas.List.{take_more, length-take}
use Rattle.tree_code.specs.declared.word_expression.WordExpr.{WordExpr}
use Rattle.tree_code.specs.declared.word_expression.WordForm as form
use Rattle.tree_code.specs.declared.word_expression.WordForm.{WordForm}
use Rattle.tree_code.specs.declared.word_statement.WordStmt as stmt
use Rattle.tree_code.specs.declared.word_statement.WordStmt.{WordStmt}
use Rattle.tree_code.specs.declared.word_statement.WordChoice as choice
use Rattle.tree_code.specs.declared.word_statement.WordChoice.{WordChoice}
use Rattle.tree_code.specs.declared.operator.WordOp.{WordOp}
use Rattle.c_tree.specs.c_syntax.declared.operator.UnaryOp.{UnaryOp}
use Rattle.c_tree.specs.c_syntax.declared.operator.UnaryOp.TheVariants.{Minus}
use Rattle.c_tree.specs.declared.program.VarRef.{VarRef}
use Rattle.tree_code.specs.ByteCount.{in_byte}
use Rattle.tree_code.specs.WordTree.{Node, ChoicesCode, no_more, Unary, Binary}
use Rattle.tree_code.specs.WordView.{word_expr_of, word_form_of, word_argument_list, word_stmt_of, word_statement_list, word_choice_list, word_choice_before}
use Rattle.tree_code.proofs.Views.{word_call_form, block_of_list, switch_of_list}
use Rattle.tree_code.specs.WordTemporaries.{is_constant_word, is_simple_word, word_temporaries, word_form_temporaries, word_argument_temporaries, word_statement_temporaries, word_statements_temporaries, word_choices_temporaries}

argument_more : (xs : List WordExpr) (x : WordExpr)
    → word_argument_temporaries (word_argument_list (xs ++ x ∷ [])) ≡ max (word_argument_temporaries (word_argument_list xs)) (length xs + word_temporaries (word_expr_of x))
argument_more [] x = omega arith
argument_more (y ∷ []) x = omega arith
argument_more (y ∷ z ∷ zs) x = let further = argument_more (z ∷ zs) x in omega arith

-- the part of a list before the next place, with its element
next : {A : Type 0} (list : List A) (i : ℕ) (x : A) → x ≡ get_or list i x → i < length list → take (i + 1) list ≡ take i list ++ x ∷ []
next list i x is within = take_more list i x within ∙ ap (λ y. take i list ++ y ∷ []) (sym is)

-- a turn of the loop over arguments
pub argument_further : {most : ℕ} (list : List WordExpr) (i : ℕ) (x : WordExpr) → x ≡ get_or list i x → i < length list
    → most ≡ in_byte (max (word_argument_temporaries (word_argument_list (take i list))) (i + word_temporaries (word_expr_of x)))
    → most ≡ in_byte (word_argument_temporaries (word_argument_list (take (i + 1) list)))
argument_further list i x is within more =
    let all = ap (λ l. word_argument_temporaries (word_argument_list l)) (next list i x is within)
    in more ∙ ap in_byte (omega (arith, all, argument_more (take i list) x, length-take i list))

statement_more : (xs : List WordStmt) (x : WordStmt)
    → word_statements_temporaries (word_statement_list (xs ++ x ∷ [])) ≡ max (word_statements_temporaries (word_statement_list xs)) (word_statement_temporaries (word_stmt_of x))
statement_more [] x = omega arith
statement_more (y ∷ ys) x = let further = statement_more ys x in omega arith

-- a turn of the loop over statements
pub statement_further : {most : ℕ} (list : List WordStmt) (i : ℕ) (x : WordStmt) → x ≡ get_or list i x → i < length list
    → most ≡ in_byte (max (word_statements_temporaries (word_statement_list (take i list))) (word_statement_temporaries (word_stmt_of x)))
    → most ≡ in_byte (word_statements_temporaries (word_statement_list (take (i + 1) list)))
statement_further list i x is within more =
    more ∙ ap in_byte (sym (ap (λ l. word_statements_temporaries (word_statement_list l)) (next list i x is within) ∙ statement_more (take i list) x))

-- the temporaries of one choice
abbrev choice_temporaries : WordChoice → ℕ
choice_temporaries x = word_choices_temporaries (word_choice_before x no_more)

before_others : (x : WordChoice) (rest : ChoicesCode) → word_choices_temporaries (word_choice_before x rest) ≡ max (choice_temporaries x) (word_choices_temporaries rest)
before_others (choice.Case w) rest = omega arith
before_others choice.Default rest = omega arith
before_others (choice.Body s) rest = omega arith

choice_more : (xs : List WordChoice) (x : WordChoice)
    → word_choices_temporaries (word_choice_list (xs ++ x ∷ [])) ≡ max (word_choices_temporaries (word_choice_list xs)) (choice_temporaries x)
choice_more [] x = omega arith
choice_more (y ∷ ys) x = omega (arith, choice_more ys x, before_others y (word_choice_list (ys ++ x ∷ [])), before_others y (word_choice_list ys))

-- a turn of the loop over choices
pub choice_further : {most : ℕ} (list : List WordChoice) (i : ℕ) (x : WordChoice) → x ≡ get_or list i x → i < length list
    → most ≡ in_byte (max (word_choices_temporaries (word_choice_list (take i list))) (word_choices_temporaries (word_choice_before x no_more)))
    → most ≡ in_byte (word_choices_temporaries (word_choice_list (take (i + 1) list)))
choice_further list i x is within more =
    more ∙ ap in_byte (sym (ap (λ l. word_choices_temporaries (word_choice_list l)) (next list i x is within) ∙ choice_more (take i list) x))

-- a form that is this one, and an expression that is this one
pub of_shape : {r : ℕ} {f g : WordForm} → f ≡ g → r ≡ in_byte (word_form_temporaries (word_form_of g)) → r ≡ in_byte (word_form_temporaries (word_form_of f))
of_shape is found = found ∙ ap (λ h. in_byte (word_form_temporaries (word_form_of h))) (sym is)

pub held : {r : ℕ} {a b : WordExpr} → a ≡ b → r ≡ in_byte (word_temporaries (word_expr_of a)) → r ≡ in_byte (word_temporaries (word_expr_of b))
held is found = found ∙ ap (λ e. in_byte (word_temporaries (word_expr_of e))) is

-- a statement that is this one
pub of_statement : {r : ℕ} {s t : WordStmt} → s ≡ t → r ≡ in_byte (word_statement_temporaries (word_stmt_of t)) → r ≡ in_byte (word_statement_temporaries (word_stmt_of s))
of_statement is found = found ∙ ap (λ u. in_byte (word_statement_temporaries (word_stmt_of u))) (sym is)

-- a call of a list of arguments
pub of_call : {r : ℕ} (shape : WordForm) (f : ℕ) (l : _) {items : List WordExpr} → shape ≡ form.Call f l → items ≡ l.items
    → r ≡ in_byte (word_argument_temporaries (word_argument_list items)) → r ≡ in_byte (word_form_temporaries (word_form_of shape))
of_call shape f l is listed found =
    found ∙ ap (λ items. in_byte (word_argument_temporaries (word_argument_list items))) listed
    ∙ ap (λ g. in_byte (word_form_temporaries g)) (sym (ap word_form_of is ∙ word_call_form f l))

-- a block and a switch of lists
pub of_block : {r : ℕ} (s : WordStmt) (declared : _) (l : _) {items : List WordStmt} → s ≡ stmt.Block declared l → items ≡ l.items
    → r ≡ in_byte (word_statements_temporaries (word_statement_list items)) → r ≡ in_byte (word_statement_temporaries (word_stmt_of s))
of_block s declared l is listed found =
    found ∙ ap (λ items. in_byte (word_statements_temporaries (word_statement_list items))) listed
    ∙ ap (λ t. in_byte (word_statement_temporaries t)) (sym (ap word_stmt_of is ∙ block_of_list declared l))

pub of_switch : {r : ℕ} (s : WordStmt) (e : WordExpr) (l : _) {items : List WordChoice} → s ≡ stmt.Switch e l → items ≡ l.items
    → r ≡ in_byte (max (word_temporaries (word_expr_of e)) (word_choices_temporaries (word_choice_list items))) → r ≡ in_byte (word_statement_temporaries (word_stmt_of s))
of_switch s e l is listed found =
    found ∙ ap (λ items. in_byte (max (word_temporaries (word_expr_of e)) (word_choices_temporaries (word_choice_list items)))) listed
    ∙ ap (λ t. in_byte (word_statement_temporaries t)) (sym (ap word_stmt_of is ∙ switch_of_list e l))

-- an operator on what two boxes hold
pub of_binary : {r : ℕ} (shape : WordForm) (op : WordOp) (left right : _) {a b : WordExpr} → shape ≡ form.Binary op left right
    → a ≡ left.value → b ≡ right.value → r ≡ in_byte (word_form_temporaries (Binary op (word_expr_of a) (word_expr_of b))) → r ≡ in_byte (word_form_temporaries (word_form_of shape))
of_binary shape op left right {b = b} is first second found =
    found ∙ ap (λ a. in_byte (word_form_temporaries (Binary op (word_expr_of a) (word_expr_of b)))) first
    ∙ ap (λ b. in_byte (word_form_temporaries (Binary op (word_expr_of left.value) (word_expr_of b)))) second ∙ sym (ap (λ s. in_byte (word_form_temporaries (word_form_of s))) is)

-- a form that is no number, address or name, and under no operator
pub computed : (shape : WordForm) (at : ℕ) → ((w : ℕ) → shape ≢ form.Const w) → ((v : VarRef) → shape ≢ form.AddressOf v)
    → ((v : VarRef) → shape ≢ form.Read v) → ((o : UnaryOp) (b : Box WordExpr Global) → shape ≢ form.Unary o b)
    → (false ≡ is_constant_word (Node (word_form_of shape) at)) × (false ≡ is_simple_word (Node (word_form_of shape) at))
computed (form.Const w) at a b c e = absurd (a w refl)
computed (form.AddressOf v) at a b c e = absurd (b v refl)
computed (form.Read v) at a b c e = absurd (c v refl)
computed (form.Unary' o p f l) at a b c e = absurd (e o (record { ptr = p.ptr; alloc = p.alloc; value = record { form = f; at = l } }) refl)
computed (form.Load' p f l) at a b c e = (refl, refl)
computed (form.Binary' o p f l q g i) at a b c e = (refl, refl)
computed (form.And' p f l q g i) at a b c e = (refl, refl)
computed (form.Or' p f l q g i) at a b c e = (refl, refl)
computed (form.Not' p f l) at a b c e = (refl, refl)
computed (form.Pick' p f l q g i r h j) at a b c e = (refl, refl)
computed (form.Assign' to l p f i) at a b c e = (refl, refl)
computed (form.AssignOp' o to l p f i) at a b c e = (refl, refl)
computed (form.StepBefore' up to l) at a b c e = (refl, refl)
computed (form.StepAfter' up to l) at a b c e = (refl, refl)
computed (form.Call' n shape es) at a b c e = (refl, refl)
computed (form.In port) at a b c e = (refl, refl)
computed (form.Out' port p f l) at a b c e = (refl, refl)
computed (form.Comma' p f l q g i) at a b c e = (refl, refl)

-- a minus on what is no number
pub negative : (shape : WordForm) (a : ℕ) (at : ℕ) → ((w : ℕ) → shape ≢ form.Const w)
    → (false ≡ is_constant_word (Node (Unary Minus (Node (word_form_of shape) a)) at)) × (false ≡ is_simple_word (Node (Unary Minus (Node (word_form_of shape) a)) at))
negative (form.Const w) a at other = absurd (other w refl)
negative (form.AddressOf v) a at other = (refl, refl)
negative (form.Unary' o p f l) a at other = (refl, refl)
negative (form.Read v) a at other = (refl, refl)
negative (form.Load' p f l) a at other = (refl, refl)
negative (form.Binary' o p f l q g i) a at other = (refl, refl)
negative (form.And' p f l q g i) a at other = (refl, refl)
negative (form.Or' p f l q g i) a at other = (refl, refl)
negative (form.Not' p f l) a at other = (refl, refl)
negative (form.Pick' p f l q g i r h j) a at other = (refl, refl)
negative (form.Assign' to l p f i) a at other = (refl, refl)
negative (form.AssignOp' o to l p f i) a at other = (refl, refl)
negative (form.StepBefore' up to l) a at other = (refl, refl)
negative (form.StepAfter' up to l) a at other = (refl, refl)
negative (form.Call' n shape es) a at other = (refl, refl)
negative (form.In port) a at other = (refl, refl)
negative (form.Out' port p f l) a at other = (refl, refl)
negative (form.Comma' p f l q g i) a at other = (refl, refl)
