-- Where a switch starts, by the first label that fits.
use Rattle.std.proofs.Common.{◌≡◌, ◌<◌, ℕ, zero, suc, true, false, List, [], ◌∷◌, length, drop, refl, ap, ◌∙◌, arith}
use Rattle.std.specs.Prelude.{◌||◌}
use Rattle.std.specs.List.{AllWithin, HoldsAt}
use Rattle.c_tree.specs.declared.typed_statement.Choice as choice
use Rattle.c_tree.specs.declared.typed_statement.Choice.{Choice}
use Rattle.c_tree.specs.TypedTree as tree
use Rattle.c_tree.specs.Eval.{Env, Calls, choose}
use Rattle.c_tree.specs.Labels.{has_case}
use Rattle.c_tree.specs.Exec.{from_case, from_default, run_choices}
use Rattle.c_tree.specs.View.{choice_list, choice_before}
use Rattle.c_means.specs.Labels.{is_case, is_default, IsStart}

-- the run from the case of a word, and that from the default, each where it starts at a place
abbrev pub StartsAt : List Choice → ℕ → ℕ → Type 0
StartsAt list word place = (has_case word (choice_list list) ≡ true)
    × ((calls : Calls) (n : ℕ) (env : Env) → from_case calls n word (choice_list list) env ≡ run_choices calls n (choice_list (drop place list)) env)

abbrev pub StartsByDefault : List Choice → ℕ → Type 0
StartsByDefault list place = (calls : Calls) (n : ℕ) (env : Env) → from_default calls n (choice_list list) env ≡ run_choices calls n (choice_list (drop place list)) env

case_here : (x : Choice) (list : List Choice) (word : ℕ) → is_case word x ≡ true → StartsAt (x ∷ list) word 0
case_here (choice.Case label) list word is =
    (ap (λ b. b || has_case word (choice_list list)) is, λ calls n env. ap (λ b. choose b (run_choices calls n (choice_list list) env) (from_case calls n word (choice_list list) env)) is)
case_here choice.Default list word is = absurd (cc is)
case_here (choice.Body s) list word is = absurd (cc is)

not_case : (x : Choice) (rest : tree.Choices) (word : ℕ) → is_case word x ≡ false
    → (has_case word (choice_before x rest) ≡ has_case word rest) × ((calls : Calls) (n : ℕ) (env : Env) → from_case calls n word (choice_before x rest) env ≡ from_case calls n word rest env)
not_case (choice.Case label) rest word is =
    (ap (λ b. b || has_case word rest) is, λ calls n env. ap (λ b. choose b (run_choices calls n rest env) (from_case calls n word rest env)) is)
not_case choice.Default rest word is = (refl, λ calls n env. refl)
not_case (choice.Body s) rest word is = (refl, λ calls n env. refl)

-- the first case of a word
pub first_case : (list : List Choice) (word place : ℕ) → place < length list → HoldsAt (λ x. is_case word x ≡ true) list place → AllWithin (λ x. is_case word x ≡ false) list 0 place
    → StartsAt list word place
first_case [] word place within at others = absurd (omega arith)
first_case (x ∷ list) word zero within at others = case_here x list word (at x)
first_case (x ∷ list) word (suc place) within at others =
    let skips = not_case x (choice_list list) word (others 0 x (omega arith) (omega arith)) in
    let rest = first_case list word place (omega arith) (λ d. at d) (λ i d from below. others (suc i) d (omega arith) (omega arith)) in
    (skips.0 ∙ rest.0, λ calls n env. skips.1 calls n env ∙ rest.1 calls n env)

pub no_case : (list : List Choice) (word : ℕ) → AllWithin (λ x. is_case word x ≡ false) list 0 (length list) → has_case word (choice_list list) ≡ false
no_case [] word others = refl
no_case (x ∷ list) word others =
    (not_case x (choice_list list) word (others 0 x (omega arith) (omega arith))).0
    ∙ no_case list word (λ i d from below. others (suc i) d (omega arith) (omega arith))

default_here : (x : Choice) (list : List Choice) → is_default x ≡ true → StartsByDefault (x ∷ list) 0
default_here (choice.Case label) list is = absurd (cc is)
default_here choice.Default list is = λ calls n env. refl
default_here (choice.Body s) list is = absurd (cc is)

not_default : (x : Choice) (rest : tree.Choices) → is_default x ≡ false → (calls : Calls) (n : ℕ) (env : Env) → from_default calls n (choice_before x rest) env ≡ from_default calls n rest env
not_default (choice.Case label) rest is = λ calls n env. refl
not_default choice.Default rest is = absurd (cc is)
not_default (choice.Body s) rest is = λ calls n env. refl

-- the first default
pub first_default : (list : List Choice) (place : ℕ) → place < length list → HoldsAt (λ x. is_default x ≡ true) list place → AllWithin (λ x. is_default x ≡ false) list 0 place
    → StartsByDefault list place
first_default [] place within at others = absurd (omega arith)
first_default (x ∷ list) zero within at others = default_here x list (at x)
first_default (x ∷ list) (suc place) within at others =
    let skips = not_default x (choice_list list) (others 0 x (omega arith) (omega arith)) in
    let rest = first_default list place (omega arith) (λ d. at d) (λ i d from below. others (suc i) d (omega arith) (omega arith)) in
    λ calls n env. skips calls n env ∙ rest calls n env

pub no_default : (list : List Choice) → AllWithin (λ x. is_default x ≡ false) list 0 (length list) → StartsByDefault list (length list)
no_default [] others = λ calls n env. refl
no_default (x ∷ list) others =
    let skips = not_default x (choice_list list) (others 0 x (omega arith) (omega arith)) in
    let rest = no_default list (λ i d from below. others (suc i) d (omega arith) (omega arith)) in
    λ calls n env. skips calls n env ∙ rest calls n env

pub start_at : (list : List Choice) (word place : ℕ) → StartsAt list word place → IsStart list word place
start_at list word place starts calls n env =
    ap (λ b. choose b (from_case calls n word (choice_list list) env) (from_default calls n (choice_list list) env)) starts.0 ∙ starts.1 calls n env

pub start_by_default : (list : List Choice) (word place : ℕ) → has_case word (choice_list list) ≡ false → StartsByDefault list place → IsStart list word place
start_by_default list word place none starts calls n env =
    ap (λ b. choose b (from_case calls n word (choice_list list) env) (from_default calls n (choice_list list) env)) none ∙ starts calls n env
