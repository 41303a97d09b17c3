-- Steps that are counted by their addresses.
use Rattle.std.specs.Prelude.{◌≡◌, ℕ, ◌<◌, Bool, true, false, List, slice_index_or}
use Rattle.c25_isa.specs.State.{State}
use Rattle.c25_isa.specs.Step.{Event, Ran, Put, Over, Trapped}
use Rattle.lay_profile.specs.Entries.{times_at}

-- whether the run goes on behind a step
abbrev pub goes_on : Event → Bool
goes_on (Ran s) = true
goes_on (Put word s) = true
goes_on (Over ending) = false
goes_on (Trapped kind at) = false

-- of each program address a table has how often the run is there among so many steps
abbrev pub AreTimes : State → ℕ → List ℕ → Type 0
AreTimes s steps table = (place : ℕ) → place < 65536 → slice_index_or table place 0 ≡ times_at s steps place
