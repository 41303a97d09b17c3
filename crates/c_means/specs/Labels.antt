-- Where a switch starts to run.
use Rattle.std.specs.Prelude.{◌≡◌, ℕ, Bool, true, false, ◌==◌, List, drop}
use Rattle.c_tree.specs.declared.typed_statement.Choice as choice
use Rattle.c_tree.specs.declared.typed_statement.Choice.{Choice}
use Rattle.c_tree.specs.Eval.{Env, Calls, choose}
use Rattle.c_tree.specs.Labels.{has_case}
use Rattle.c_tree.specs.Exec.{from_case, from_default, run_choices}
use Rattle.c_tree.specs.View.{choice_list}

-- the label of this word
abbrev pub is_case : ℕ → Choice → Bool
is_case word (choice.Case label) = word == label
is_case word choice.Default = false
is_case word (choice.Body s) = false

abbrev pub is_default : Choice → Bool
is_default (choice.Case label) = false
is_default choice.Default = true
is_default (choice.Body s) = false

-- for this word the switch runs all statements from here on
abbrev pub IsStart : List Choice → ℕ → ℕ → Type 0
IsStart list word start = (calls : Calls) (n : ℕ) (env : Env)
    → choose (has_case word (choice_list list)) (from_case calls n word (choice_list list) env) (from_default calls n (choice_list list) env)
    ≡ run_choices calls n (choice_list (drop start list)) env
