-- Temporaries of arguments, of forms whose parts stand in lists, and of operators.
use Rattle.std.proofs.Common.{◌≡◌, ◌≢◌, refl, false, ◌+◌, max, ◌++◌, ◌∷◌, [], ℕ, List, length, ap, ◌∙◌, sym, arith}
use Rattle.std.specs.Prelude.{Box}
use Rattle.std.specs.Global.{Global}
use Rattle.c_tree.specs.declared.typed_expression.TypedExpr.{TypedExpr}
use Rattle.c_tree.specs.declared.typed_expression.ExprForm as form
use Rattle.c_tree.specs.declared.typed_expression.ExprForm.{ExprForm}
use Rattle.c_tree.specs.declared.typed_statement.TypedStmt as stmt
use Rattle.c_tree.specs.declared.typed_statement.TypedStmt.{TypedStmt}
use Rattle.c_tree.specs.declared.typed_statement.Choice.{Choice}
use Rattle.c_syntax.specs.declared.operator.BinaryOp.{BinaryOp}
use Rattle.c_syntax.specs.declared.operator.UnaryOp.{UnaryOp}
use Rattle.c_syntax.specs.declared.operator.UnaryOp.TheVariants.{Minus}
use Rattle.c_tree.specs.declared.program.VarRef.{VarRef}
use Rattle.c_tree.specs.TypedTree.{Kind, Node, Unary, Binary}
use Rattle.c_tree.specs.View.{expr_of, form_of, argument_list, stmt_of, statement_list, choice_list}
use Rattle.c_tree.proofs.Views.{typed_call_form, block_of_list, switch_of_list}
use Rattle.c_limits.specs.Capped.{capped}
use Rattle.c_tree.specs.Temporaries.{is_constant, is_simple, temporaries, form_temporaries, argument_temporaries, statement_temporaries, statements_temporaries, choices_temporaries}

-- the last argument, behind so many that are kept
pub argument_more : (xs : List TypedExpr) (x : TypedExpr)
    → argument_temporaries (argument_list (xs ++ x ∷ [])) ≡ max (argument_temporaries (argument_list xs)) (length xs + temporaries (expr_of x))
argument_more [] x = omega arith
argument_more (y ∷ []) x = omega arith
argument_more (y ∷ z ∷ zs) x = let further = argument_more (z ∷ zs) x in omega arith

-- a form that is this one, and an expression that is this one
pub of_shape : (r : ℕ) {f g : ExprForm} → f ≡ g → r ≡ capped (form_temporaries (form_of g)) → r ≡ capped (form_temporaries (form_of f))
of_shape r is found = found ∙ ap (λ h. capped (form_temporaries (form_of h))) (sym is)

pub held : (r : ℕ) {a b : TypedExpr} → a ≡ b → r ≡ capped (temporaries (expr_of a)) → r ≡ capped (temporaries (expr_of b))
held r is found = found ∙ ap (λ e. capped (temporaries (expr_of e))) is

-- a statement that is this one
pub of_statement : (r : ℕ) {s t : TypedStmt} → s ≡ t → r ≡ capped (statement_temporaries (stmt_of t)) → r ≡ capped (statement_temporaries (stmt_of s))
of_statement r is found = found ∙ ap (λ u. capped (statement_temporaries (stmt_of u))) (sym is)

-- a call of a list of arguments
pub of_call : (r : ℕ) (shape : ExprForm) (f : ℕ) (l : _) {items : List TypedExpr} → shape ≡ form.Call f l → items ≡ l.items
    → r ≡ capped (argument_temporaries (argument_list items)) → r ≡ capped (form_temporaries (form_of shape))
of_call r shape f l is listed found =
    found ∙ ap (λ items. capped (argument_temporaries (argument_list items))) listed
    ∙ ap (λ g. capped (form_temporaries g)) (sym (ap form_of is ∙ typed_call_form f l))

-- a block and a switch of lists
pub of_block : (r : ℕ) (s : TypedStmt) (declared : _) (l : _) {items : List TypedStmt} → s ≡ stmt.Block declared l → items ≡ l.items
    → r ≡ capped (statements_temporaries (statement_list items)) → r ≡ capped (statement_temporaries (stmt_of s))
of_block r s declared l is listed found =
    found ∙ ap (λ items. capped (statements_temporaries (statement_list items))) listed
    ∙ ap (λ t. capped (statement_temporaries t)) (sym (ap stmt_of is ∙ block_of_list declared l))

pub of_switch : (r : ℕ) (s : TypedStmt) (e : TypedExpr) (l : _) {items : List Choice} → s ≡ stmt.Switch e l → items ≡ l.items
    → r ≡ capped (max (temporaries (expr_of e)) (choices_temporaries (choice_list items))) → r ≡ capped (statement_temporaries (stmt_of s))
of_switch r s e l is listed found =
    found ∙ ap (λ items. capped (max (temporaries (expr_of e)) (choices_temporaries (choice_list items)))) listed
    ∙ ap (λ t. capped (statement_temporaries t)) (sym (ap stmt_of is ∙ switch_of_list e l))

-- an operator on what two boxes hold
pub of_binary : (r : ℕ) (shape : ExprForm) (op : BinaryOp) (left right : _) {a b : TypedExpr} → shape ≡ form.Binary op left right
    → a ≡ left.value → b ≡ right.value → r ≡ capped (form_temporaries (Binary op (expr_of a) (expr_of b))) → r ≡ capped (form_temporaries (form_of shape))
of_binary r shape op left right {b = b} is first second found =
    found ∙ ap (λ a. capped (form_temporaries (Binary op (expr_of a) (expr_of b)))) first
    ∙ ap (λ b. capped (form_temporaries (Binary op (expr_of left.value) (expr_of b)))) second ∙ sym (ap (λ s. capped (form_temporaries (form_of s))) is)

-- a form that is no number, address or name, and under no operator or conversion
pub computed : (shape : ExprForm) (kind : Kind) (at : ℕ) → ((w : ℕ) → shape ≢ form.Const w) → ((v : VarRef) → shape ≢ form.AddressOf v)
    → ((v : VarRef) → shape ≢ form.Read v) → ((b : Box TypedExpr Global) → shape ≢ form.Convert b) → ((o : UnaryOp) (b : Box TypedExpr Global) → shape ≢ form.Unary o b)
    → (false ≡ is_constant (Node (form_of shape) kind at)) × (false ≡ is_simple (Node (form_of shape) kind at))
computed (form.Const w) kind at a b c d e = absurd (a w refl)
computed (form.Read v) kind at a b c d e = absurd (c v refl)
computed (form.AddressOf v) kind at a b c d e = absurd (b v refl)
computed (form.Load' p f m l) kind at a b c d e = (refl, refl)
computed (form.Unary' o p f m l) kind at a b c d e = absurd (e o (record { ptr = p.ptr; alloc = p.alloc; value = record { form = f; kind = m; at = l } }) refl)
computed (form.Binary' o p f m l q g n i) kind at a b c d e = (refl, refl)
computed (form.And' p f m l q g n i) kind at a b c d e = (refl, refl)
computed (form.Or' p f m l q g n i) kind at a b c d e = (refl, refl)
computed (form.Not' p f m l) kind at a b c d e = (refl, refl)
computed (form.Pick' p f m l q g n i r h s j) kind at a b c d e = (refl, refl)
computed (form.Assign' to l p f m i) kind at a b c d e = (refl, refl)
computed (form.AssignOp' o to l p f m i) kind at a b c d e = (refl, refl)
computed (form.StepBefore' up to l) kind at a b c d e = (refl, refl)
computed (form.StepAfter' up to l) kind at a b c d e = (refl, refl)
computed (form.Call' n shape es) kind at a b c d e = (refl, refl)
computed (form.In port) kind at a b c d e = (refl, refl)
computed (form.Out' port p f m l) kind at a b c d e = (refl, refl)
computed (form.Comma' p f m l q g n i) kind at a b c d e = (refl, refl)
computed (form.Convert' p f m l) kind at a b c d e = absurd (d (record { ptr = p.ptr; alloc = p.alloc; value = record { form = f; kind = m; at = l } }) refl)

-- a minus on what is no number
pub negative : (shape : ExprForm) (k : Kind) (a : ℕ) (kind : Kind) (at : ℕ) → ((w : ℕ) → shape ≢ form.Const w)
    → (false ≡ is_constant (Node (Unary Minus (Node (form_of shape) k a)) kind at)) × (false ≡ is_simple (Node (Unary Minus (Node (form_of shape) k a)) kind at))
negative (form.Const w) k a kind at other = absurd (other w refl)
negative (form.Read v) k a kind at other = (refl, refl)
negative (form.AddressOf v) k a kind at other = (refl, refl)
negative (form.Load' p f m l) k a kind at other = (refl, refl)
negative (form.Unary' o p f m l) k a kind at other = (refl, refl)
negative (form.Binary' o p f m l q g n i) k a kind at other = (refl, refl)
negative (form.And' p f m l q g n i) k a kind at other = (refl, refl)
negative (form.Or' p f m l q g n i) k a kind at other = (refl, refl)
negative (form.Not' p f m l) k a kind at other = (refl, refl)
negative (form.Pick' p f m l q g n i r h s j) k a kind at other = (refl, refl)
negative (form.Assign' to l p f m i) k a kind at other = (refl, refl)
negative (form.AssignOp' o to l p f m i) k a kind at other = (refl, refl)
negative (form.StepBefore' up to l) k a kind at other = (refl, refl)
negative (form.StepAfter' up to l) k a kind at other = (refl, refl)
negative (form.Call' n shape es) k a kind at other = (refl, refl)
negative (form.In port) k a kind at other = (refl, refl)
negative (form.Out' port p f m l) k a kind at other = (refl, refl)
negative (form.Comma' p f m l q g n i) k a kind at other = (refl, refl)
negative (form.Convert' p f m l) k a kind at other = (refl, refl)
