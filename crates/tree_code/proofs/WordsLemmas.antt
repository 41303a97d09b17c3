-- Typed trees of words, part by part: lists with one more part of words, and forms of lists.
use Rattle.std.proofs.Common.{◌≡◌, ◌<◌, ◌+◌, ◌++◌, ◌∷◌, [], ℕ, List, length, map, take, get_or, ap, ◌∙◌, sym, subst, refl, Result, IfOk, All}
use Rattle.std.specs.List.{AllByRecursion}
use Rattle.std.proofs.lemmas.List.{take_more}
use Rattle.std.proofs.lemmas.List.Elements.{All-push}
use Rattle.std.proofs.lemmas.Result.{IfOk-weaker}
use Rattle.c_tree.proofs.Views.{typed_call_form, block_of_list, switch_of_list}
use Rattle.c_tree.specs.declared.program.Function.{Function}
use Rattle.c_tree.specs.declared.program.Initial.{Initial}
use Rattle.c_tree.specs.declared.program.Object.{Object}
use Rattle.c_tree.specs.declared.typed_expression.TypedExpr.{TypedExpr}
use Rattle.c_tree.specs.declared.typed_expression.ExprForm as form
use Rattle.c_tree.specs.declared.typed_expression.ExprForm.{ExprForm}
use Rattle.c_tree.specs.declared.typed_statement.TypedStmt as stmt
use Rattle.c_tree.specs.declared.typed_statement.TypedStmt.{TypedStmt}
use Rattle.c_tree.specs.declared.typed_statement.Choice as choice
use Rattle.c_tree.specs.declared.typed_statement.Choice.{Choice}
use Rattle.c_tree.specs.View as typed
use Rattle.c_tree.specs.TypedTree as tree
use Rattle.tree_code.specs.declared.program.TreeFunction.{TreeFunction}
use Rattle.tree_code.specs.Lowered.{lowered_function}
use Rattle.tree_code.specs.WordView.{function_code_of}
use Rattle.c_tree.specs.TypedOfWords.{StartsWithWord, StartsWithWords, UsesWords, FormUsesWords, AllUseWords, StatementUsesWords, StatementsUseWords, ChoicesUseWords, FunctionHasWords}
use Rattle.tree_code.proofs.LoweredLemmas.{next}

argument_more : (xs : List TypedExpr) (x : TypedExpr) → AllUseWords (typed.argument_list xs) → UsesWords (typed.expr_of x) → AllUseWords (typed.argument_list (xs ++ x ∷ []))
argument_more [] x all one = (one, tt {0})
argument_more (y ∷ ys) x all one = (all.0, argument_more ys x all.1 one)

-- a turn of the loop over arguments
pub argument_used : (list : List TypedExpr) (i : ℕ) (x : TypedExpr) → x ≡ get_or list i x → i < length list
    → AllUseWords (typed.argument_list (take i list)) → UsesWords (typed.expr_of x) → AllUseWords (typed.argument_list (take (i + 1) list))
argument_used list i x is within all one = subst (λ l. AllUseWords (typed.argument_list l)) (next list i x is within) (argument_more (take i list) x all one)

statement_more : (xs : List TypedStmt) (x : TypedStmt) → StatementsUseWords (typed.statement_list xs) → StatementUsesWords (typed.stmt_of x)
    → StatementsUseWords (typed.statement_list (xs ++ x ∷ []))
statement_more [] x all one = (one, tt {0})
statement_more (y ∷ ys) x all one = (all.0, statement_more ys x all.1 one)

-- a turn of the loop over statements
pub statement_used : (list : List TypedStmt) (i : ℕ) (x : TypedStmt) → x ≡ get_or list i x → i < length list
    → StatementsUseWords (typed.statement_list (take i list)) → StatementUsesWords (typed.stmt_of x) → StatementsUseWords (typed.statement_list (take (i + 1) list))
statement_used list i x is within all one = subst (λ l. StatementsUseWords (typed.statement_list l)) (next list i x is within) (statement_more (take i list) x all one)

choice_more : (xs : List Choice) (x : Choice) → ChoicesUseWords (typed.choice_list xs) → ChoicesUseWords (typed.choice_before x tree.no_more)
    → ChoicesUseWords (typed.choice_list (xs ++ x ∷ []))
choice_more [] x all one = one
choice_more (choice.Case n ∷ ys) x all one = (all.0, choice_more ys x all.1 one)
choice_more (choice.Default ∷ ys) x all one = choice_more ys x all one
choice_more (choice.Body s ∷ ys) x all one = (all.0, choice_more ys x all.1 one)

-- a turn of the loop over what stands in a switch
pub choice_used : (list : List Choice) (i : ℕ) (x : Choice) → x ≡ get_or list i x → i < length list
    → ChoicesUseWords (typed.choice_list (take i list)) → ChoicesUseWords (typed.choice_before x tree.no_more) → ChoicesUseWords (typed.choice_list (take (i + 1) list))
choice_used list i x is within all one = subst (λ l. ChoicesUseWords (typed.choice_list l)) (next list i x is within) (choice_more (take i list) x all one)

all_more : {A : Type 0} (P : A → Type 0) (xs : List A) (x : A) → AllByRecursion P xs → P x → AllByRecursion P (xs ++ x ∷ [])
all_more P [] x all one = (one, tt {0})
all_more P (y ∷ ys) x all one = (all.0, all_more P ys x all.1 one)

-- a turn of the loop over listed words
pub initial_used : (list : List Initial) (i : ℕ) (x : Initial) → i < length list
    → AllByRecursion StartsWithWord (take i list) → StartsWithWord (get_or list i x) → AllByRecursion StartsWithWord (take (i + 1) list)
initial_used list i x within all one = subst (AllByRecursion StartsWithWord) (sym (take_more list i x within)) (all_more StartsWithWord (take i list) (get_or list i x) all one)

object_more : (xs : List Object) (x : Object) → StartsWithWords (map typed.object_of xs) → AllByRecursion StartsWithWord x.initial → StartsWithWords (map typed.object_of (xs ++ x ∷ []))
object_more [] x all one = (one, tt {0})
object_more (y ∷ ys) x all one = (all.0, object_more ys x all.1 one)

-- a turn of the loop over objects
pub object_used : (list : List Object) (i : ℕ) (x : Object) → x ≡ get_or list i x → i < length list
    → StartsWithWords (map typed.object_of (take i list)) → AllByRecursion StartsWithWord x.initial → StartsWithWords (map typed.object_of (take (i + 1) list))
object_used list i x is within all one = subst (λ l. StartsWithWords (map typed.object_of l)) (next list i x is within) (object_more (take i list) x all one)

mapped_more : {A C : Type 0} (f : A → C) (xs : List A) (x : A) → map f xs ++ f x ∷ [] ≡ map f (xs ++ x ∷ [])
mapped_more f [] x = refl
mapped_more f (y ∷ ys) x = ap (λ l. f y ∷ l) (mapped_more f ys x)

mapped_twice : {A B C : Type 0} (g : B → C) (h : A → B) (xs : List A) → map g (map h xs) ≡ map (λ x. g (h x)) xs
mapped_twice g h [] = refl
mapped_twice g h (x ∷ xs) = ap (λ l. g (h x) ∷ l) (mapped_twice g h xs)

-- a turn of a loop that copies
pub mapped_further : {A B C : Type 0} (f : A → C) (g : B → C) (list : List B) (i : ℕ) (x : B) (ws news : List A) (w : A) → x ≡ get_or list i x → i < length list
    → map f ws ≡ map g (take i list) → news ≡ ws ++ w ∷ [] → f w ≡ g x → map f news ≡ map g (take (i + 1) list)
mapped_further f g list i x ws news w is within all pushed one =
    ap (map f) pushed ∙ sym (mapped_more f ws w) ∙ ap (λ l. l ++ f w ∷ []) all ∙ ap (λ c. map g (take i list) ++ c ∷ []) one ∙ mapped_more g (take i list) x ∙ ap (map g) (next list i x is within)

-- a turn of the loop over functions
pub function_further : (list : List Function) (i : ℕ) (x : Function) (ws news : List TreeFunction) (w : TreeFunction) → x ≡ get_or list i x → i < length list
    → map function_code_of ws ≡ map lowered_function (map typed.function_of (take i list)) → news ≡ ws ++ w ∷ [] → function_code_of w ≡ lowered_function (typed.function_of x)
    → map function_code_of news ≡ map lowered_function (map typed.function_of (take (i + 1) list))
function_further list i x ws news w is within all pushed one =
    mapped_further function_code_of (λ f. lowered_function (typed.function_of f)) list i x ws news w is within (all ∙ mapped_twice lowered_function typed.function_of (take i list)) pushed one
    ∙ sym (mapped_twice lowered_function typed.function_of (take (i + 1) list))

pub function_used : (list : List Function) (i : ℕ) (x : Function) → x ≡ get_or list i x → i < length list
    → All FunctionHasWords (map typed.function_of (take i list)) → FunctionHasWords (typed.function_of x) → All FunctionHasWords (map typed.function_of (take (i + 1) list))
function_used list i x is within all one =
    subst (All FunctionHasWords) (mapped_more typed.function_of (take i list) x ∙ ap (map typed.function_of) (next list i x is within))
    (All-push FunctionHasWords (map typed.function_of (take i list)) (typed.function_of x) all one)

-- a call of a list of arguments, and a block and a switch of lists
pub call_used : {T E : Type 0} (r : Result T E) (shape : ExprForm) (f : ℕ) (l : _) {items : List TypedExpr} → shape ≡ form.Call f l → items ≡ l.items
    → IfOk r (λ _. AllUseWords (typed.argument_list items)) → IfOk r (λ _. FormUsesWords (typed.form_of shape))
call_used r shape f l is listed found =
    IfOk-weaker r _ _ (λ w u. subst FormUsesWords (sym (ap typed.form_of is ∙ typed_call_form f l)) (subst (λ items. AllUseWords (typed.argument_list items)) listed u)) found

pub block_used : {T E : Type 0} (r : Result T E) (s : TypedStmt) (declared l : _) {items : List TypedStmt} → s ≡ stmt.Block declared l → items ≡ l.items
    → IfOk r (λ _. StatementsUseWords (typed.statement_list items)) → IfOk r (λ _. StatementUsesWords (typed.stmt_of s))
block_used r s declared l is listed found =
    IfOk-weaker r _ _ (λ w u. subst StatementUsesWords (sym (ap typed.stmt_of is ∙ block_of_list declared l)) (subst (λ items. StatementsUseWords (typed.statement_list items)) listed u)) found

pub switch_used : {T E : Type 0} (r : Result T E) (s : TypedStmt) (value : TypedExpr) (l : _) {items : List Choice} → s ≡ stmt.Switch value l → items ≡ l.items
    → IfOk r (λ _. UsesWords (typed.expr_of value) × ChoicesUseWords (typed.choice_list items)) → IfOk r (λ _. StatementUsesWords (typed.stmt_of s))
switch_used r s value l is listed found =
    IfOk-weaker r _ _ (λ w u. subst StatementUsesWords (sym (ap typed.stmt_of is ∙ switch_of_list value l)) (subst (λ items. UsesWords (typed.expr_of value) × ChoicesUseWords (typed.choice_list items)) listed u)) found
