-- What was typed of lists of declarations, and what is left of them.
use Rattle.std.proofs.Common.{◌≡◌, ℕ, ◌+◌, ◌<◌, ◌≤◌, List, [], ◌∷◌, ◌++◌, map, drop, length, get_or, refl, sym, ap, ◌∙◌, append-nil}
use Rattle.std.proofs.Math.ListN.{drop_of_length-le}
use Rattle.std.proofs.lemmas.List.{drop_more}
use Rattle.c_rules.proofs.Turns.{first_left}
use Rattle.c_syntax.specs.declared.expr.Expr.{Expr}
use Rattle.c_syntax.specs.declared.decl.Param.{Param}
use Rattle.c_tree.specs.declared.program.ScalarType.{ScalarType}
use Rattle.c_syntax.specs.SyntaxView.{expression_of, parameter_of}
use Rattle.c_rules.specs.declared.local.Naming.{Naming}
use Rattle.c_objects.specs.declared.first_values.Entry as memory
use Rattle.c_rules.specs.declared.fault.Refusal.{Refusal}
use Rattle.c_rules.specs.declared.fault.Refusal.TheVariants as refusals
use Rattle.c_rules.specs.Answers.{Refuses}
use Rattle.c_rules.specs.Outcome.{Outcome, Is, Broken, ◌>>=◌}
use Rattle.c_rules.specs.Scopes.{Scope}
use Rattle.c_rules.specs.Declarations.{parameters, Entry, entry, entries}
use Rattle.c_rules.specs.Statements.{Initialiser, Misbraced, all_typed}
use Rattle.c_rules.specs.Typing.{typing}
use Rattle.c_tree.specs.TypedTree.{Expr as Typed}
use Rattle.c_objects.specs.InitialiserView.{entry_of}

-- `s` is the scope before all parameters, and `t` that before those which are left
abbrev pub ParametersSoFar : Scope → Naming → List Param → Scope → List Param → List ScalarType → Type 0
ParametersSoFar s naming list t rest kinds =
    parameters s naming (map parameter_of list) ≡ (parameters t naming (map parameter_of rest) >>= λ ks. Is (kinds ++ ks))

abbrev pub EntriesSoFar : Scope → List Expr → List Expr → List memory.Entry → Type 0
EntriesSoFar s list rest xs = entries s (map expression_of list) ≡ (entries s (map expression_of rest) >>= λ ys. Is (map entry_of xs ++ ys))

-- one entry more
entry_put : (xs : List memory.Entry) (x : memory.Entry) (ys : List Entry) → map entry_of xs ++ entry_of x ∷ ys ≡ map entry_of (xs ++ x ∷ []) ++ ys
entry_put [] x ys = refl
entry_put (z ∷ xs) x ys = ap (λ l. entry_of z ∷ l) (entry_put xs x ys)

entry_after : (xs : List memory.Entry) (x : memory.Entry) (rest : Outcome (List Entry)) → ((rest >>= λ zs. Is (entry_of x ∷ zs)) >>= λ ys. Is (map entry_of xs ++ ys)) ≡ (rest >>= λ ys. Is (map entry_of (xs ++ x ∷ []) ++ ys))
entry_after xs x (Is ys) = ap Is (entry_put xs x ys)
entry_after xs x (Broken rule at) = refl

entry_step : (s : Scope) (e : Expr) (rest : List Expr) (xs : List memory.Entry) (x : memory.Entry) → entry s (expression_of e) ≡ Is (entry_of x)
    → (entries s (map expression_of (e ∷ rest)) >>= λ ys. Is (map entry_of xs ++ ys)) ≡ (entries s (map expression_of rest) >>= λ ys. Is (map entry_of (xs ++ x ∷ []) ++ ys))
entry_step s e rest xs x is = rw is (entry_after xs x (entries s (map expression_of rest)))

pub entries_further : (s : Scope) (list : List Expr) (i : ℕ) (e : Expr) (x : memory.Entry) (xs ys : List memory.Entry) → e ≡ get_or list i e → i < length list
    → EntriesSoFar s list (drop i list) xs → entry s (expression_of e) ≡ Is (entry_of x) → ys ≡ xs ++ x ∷ [] → EntriesSoFar s list (drop (i + 1) list) ys
entries_further s list i e x xs ys found within so_far is put =
    let there : drop i list ≡ e ∷ drop (i + 1) list = drop_more list i e within ∙ ap (λ d. d ∷ drop (i + 1) list) (sym found) in
    so_far ∙ ap (λ l. entries s (map expression_of l) >>= λ ys. Is (map entry_of xs ++ ys)) there ∙ entry_step s e (drop (i + 1) list) xs x is
    ∙ ap (λ l. entries s (map expression_of (drop (i + 1) list)) >>= λ ys. Is (map entry_of l ++ ys)) (sym put)

-- an entry that is refused
pub entries_refused : (s : Scope) (list : List Expr) (i : ℕ) (e : Expr) (xs : List memory.Entry) (f : Refusal) → e ≡ get_or list i e → i < length list
    → EntriesSoFar s list (drop i list) xs → Refuses (entry s (expression_of e)) f → Refuses (entries s (map expression_of list)) f
entries_refused s list i e xs refusals.NoMemory found within so_far h = tt {0}
entries_refused s list i e xs (refusals.Broken rule at) found within so_far h =
    so_far
    ∙ ap (λ l. entries s (map expression_of l) >>= λ ys. Is (map entry_of xs ++ ys)) (first_left list i e found within)
    ∙ ap (λ o. (o >>= λ x. entries s (map expression_of (drop (i + 1) list)) >>= λ ys. Is (x ∷ ys)) >>= λ ys. Is (map entry_of xs ++ ys)) h

-- the end of a list
pub entries_ended : (s : Scope) (list : List Expr) (i : ℕ) (xs : List memory.Entry) → length list ≤ i → EntriesSoFar s list (drop i list) xs → entries s (map expression_of list) ≡ Is (map entry_of xs)
entries_ended s list i xs above so_far =
    so_far ∙ ap (λ l. entries s (map expression_of l) >>= λ ys. Is (map entry_of xs ++ ys)) (drop_of_length-le list above) ∙ ap Is (append-nil (map entry_of xs))

-- values that are only typed
module _ (s : Scope) (list : List Expr) (i : ℕ) where
  pub typed_further : (e : Expr) (x : Typed) → e ≡ get_or list i e → i < length list → typing s (expression_of e) ≡ Is x → all_typed s (map expression_of (drop i list)) ≡ all_typed s (map expression_of (drop (i + 1) list))
  typed_further e x found within is =
      ap (λ l. all_typed s (map expression_of l)) (first_left list i e found within) ∙ ap (λ o. o >>= λ x. all_typed s (map expression_of (drop (i + 1) list))) is

  pub typed_refused : (e : Expr) (whole : Outcome Initialiser) (f : Refusal) → e ≡ get_or list i e → i < length list → whole ≡ all_typed s (map expression_of (drop i list)) → Refuses (typing s (expression_of e)) f → Refuses whole f
  typed_refused e whole refusals.NoMemory found within so_far h = tt {0}
  typed_refused e whole (refusals.Broken rule at) found within so_far h =
      so_far ∙ ap (λ l. all_typed s (map expression_of l)) (first_left list i e found within) ∙ ap (λ o. o >>= λ x. all_typed s (map expression_of (drop (i + 1) list))) h

  pub typed_ended : length list ≤ i → all_typed s (map expression_of (drop i list)) ≡ Is Misbraced
  typed_ended above = ap (λ l. all_typed s (map expression_of l)) (drop_of_length-le list above)
