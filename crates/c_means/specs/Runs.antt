-- The start of a run, and what it comes to.
use Rattle.std.specs.Prelude.{◌≡◌, ℕ, Result, Ok, Err, Option, List, [], length, slice_get}
use Rattle.word_base.specs.declared.outcome.Outcome.{Outcome}
use Rattle.word_base.specs.Ports.{Outputs}
use Rattle.c_tree.specs.TypedTree.{ObjectTree, ProgramTree}
use Rattle.c_tree.specs.Store as runs
use Rattle.c_tree.specs.Store.{Store, Res, World, Does, Gives}
use Rattle.c_tree.specs.SourceRun.{outcome_of, static_object, call_function, call_within, main_of}
use Rattle.c_state.specs.declared.value.Value.{Value}
use Rattle.c_state.specs.declared.value.Stop.{Stop}
use Rattle.c_state.specs.Values.{option_of}
use Rattle.c_state.specs.Worlds.{Stops}

-- the static objects alone
abbrev pub statics_of : List ObjectTree → Store
statics_of os = record { made = length os; living = λ k. static_object (slice_get os k) }

-- the call of main
abbrev pub main_run : ProgramTree → ℕ → Does (Option runs.Value)
main_run p n = call_function (call_within p n (length p.functions)) n (main_of p.functions) []

-- an outcome is that of a run which ended so, behind these outputs
abbrev pub IsOutcome : Result (Option Value) Stop → Outputs → Outcome → Type 0
IsOutcome (Ok v) outs o = (w : World) → w.outs ≡ outs → outcome_of (Gives (option_of v) w) ≡ o
IsOutcome (Err s) outs o = (r : Res (Option runs.Value)) → Stops r outs s → outcome_of r ≡ o
