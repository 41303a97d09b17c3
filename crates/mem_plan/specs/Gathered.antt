-- Begins of frames by what was gathered of each function.
use Rattle.std.specs.Prelude.{◌≡◌, ◌<◌, ◌≤◌, ◌*◌, ◌^◌, ℕ, List, length, map, slice_get, slice_index, All}
use Rattle.c_tree.specs.Rounds.{CallsAmong, HasNoRound}
use Rattle.c_tree.specs.declared.limits.TheConstants.{MOST_FUNCTIONS}
use Rattle.mem_plan.specs.declared.needs.FunctionNeeds.{FunctionNeeds}
use Rattle.mem_plan.specs.Begins.{IsBegin}
use Rattle.mem_plan.specs.DataNeeds.{own_in}

abbrev pub calls_in : List FunctionNeeds → ℕ → ℕ → Type 0
calls_in needs = CallsAmong (map (λ f. f.calls) needs)

abbrev pub owns_in : List FunctionNeeds → ℕ → ℕ
owns_in needs n = own_in (slice_get needs n)

-- no frame has more words
abbrev pub most_own : ℕ
most_own = 2 ^ 40

-- so none begins behind this
abbrev pub most_begin : ℕ
most_begin = MOST_FUNCTIONS * most_own

-- what was gathered of the functions of a program: they call each other, and none reaches itself
pub record AreProgramNeeds (needs : List FunctionNeeds) : Type 0 where
  pub bodies : (g f : ℕ) → calls_in needs g f → f < length needs
  pub no_cycle : HasNoRound (calls_in needs)
  pub few : length needs ≤ MOST_FUNCTIONS
  pub small : All (λ f. f.own ≤ most_own) needs

-- where the frames begin
pub record AreBeginsBy (needs : List FunctionNeeds) (begins : List ℕ) : Type 0 where
  pub size : length begins ≡ length needs
  pub begins_so : IsBegin (calls_in needs) (owns_in needs) (slice_index begins)
  pub small : All (λ begin. begin ≤ most_begin) begins
