-- Uses of calls, blocks and switches, whose parts stand in lists.
use Rattle.std.proofs.Common.{◌≡◌, ◌++◌, ◌∷◌, [], ℕ, List, ap, ◌∙◌, sym, append_assoc}
use Rattle.c_tree.specs.declared.typed_expression.TypedExpr.{TypedExpr}
use Rattle.c_tree.specs.declared.typed_expression.ExprForm as form
use Rattle.c_tree.specs.declared.typed_expression.ExprForm.{ExprForm}
use Rattle.c_tree.specs.declared.typed_statement.TypedStmt as stmt
use Rattle.c_tree.specs.declared.typed_statement.TypedStmt.{TypedStmt}
use Rattle.c_tree.specs.declared.typed_statement.Choice.{Choice}
use Rattle.c_tree.specs.View.{expr_of, form_of, argument_list, stmt_of, statement_list, choice_list}
use Rattle.c_tree.proofs.Views.{typed_call_form, block_of_list, switch_of_list}
use Rattle.c_tree.specs.declared.uses.Use.{Use}
use Rattle.c_tree.specs.declared.uses.Use.TheVariants.{Call, Cases}
use Rattle.c_tree.specs.Uses.{case_count, uses, form_uses, list_uses, statement_uses, statements_uses, choices_uses}

-- a call behind its arguments
pub with_call : (old : List Use) {between : List Use} (f at : ℕ) (shape : ExprForm) (l : _) → shape ≡ form.Call f l
    → between ≡ old ++ list_uses (argument_list l.items) → between ++ Call f at ∷ [] ≡ old ++ form_uses (form_of shape) at
with_call old f at shape l is arguments =
    ap (λ m. m ++ Call f at ∷ []) arguments ∙ append_assoc old (list_uses (argument_list l.items)) (Call f at ∷ [])
    ∙ ap (λ t. old ++ form_uses t at) (sym (ap form_of is ∙ typed_call_form f l))

-- a block and a switch of lists
pub with_block : (old : List Use) (s : TypedStmt) (declared : _) (l : _) {items : List TypedStmt} → s ≡ stmt.Block declared l → items ≡ l.items
    → old ++ statements_uses (statement_list items) ≡ old ++ statement_uses (stmt_of s)
with_block old s declared l is listed =
    ap (λ items. old ++ statements_uses (statement_list items)) listed ∙ ap (λ t. old ++ statement_uses t) (sym (ap stmt_of is ∙ block_of_list declared l))

pub with_switch : (old : List Use) {valued counted : List Use} (n : ℕ) (s : TypedStmt) (value : TypedExpr) (l : _) {items : List Choice} → s ≡ stmt.Switch value l
    → items ≡ l.items → n ≡ case_count (choice_list items) → valued ≡ old ++ uses (expr_of value) → counted ≡ valued ++ Cases n ∷ []
    → counted ++ choices_uses (choice_list items) ≡ old ++ statement_uses (stmt_of s)
with_switch old {valued = valued} n s value l {items = items} is listed counts valued_is counted_is =
    ap (λ m. m ++ choices_uses (choice_list items)) counted_is
    ∙ append_assoc valued (Cases n ∷ []) (choices_uses (choice_list items))
    ∙ ap (λ v. v ++ (Cases n ∷ choices_uses (choice_list items))) valued_is
    ∙ append_assoc old (uses (expr_of value)) (Cases n ∷ choices_uses (choice_list items))
    ∙ ap (λ k. old ++ (uses (expr_of value) ++ (Cases k ∷ choices_uses (choice_list items)))) counts
    ∙ ap (λ xs. old ++ (uses (expr_of value) ++ (Cases (case_count (choice_list xs)) ∷ choices_uses (choice_list xs)))) listed
    ∙ ap (λ t. old ++ statement_uses t) (sym (ap stmt_of is ∙ switch_of_list value l))
