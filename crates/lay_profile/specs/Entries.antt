-- How often a run comes to a program address (docs/MACHINE.md, "Runs").
use Rattle.std.specs.Prelude.{ℕ, Bool, true, false, ◌==◌, ◌&&◌, List, [], count_by}
use Rattle.std.specs.List.{range_with_len}
use Rattle.word_base.specs.Ports.{Input}
use Rattle.c25_isa.specs.State.{State, zero_start}
use Rattle.c25_isa.specs.MachineRun.{Reached, Running, Ended, Stopped, run_from, reset}
use Rattle.c25_sim.specs.Answers.{state_after}

-- whether it still runs
abbrev pub still_runs : Reached → Bool
still_runs (Running outs) = true
still_runs (Ended outs ending) = false
still_runs (Stopped outs kind at) = false

-- whether the run from s still runs after j steps, with its PC at a place. Then the next step is done there.
abbrev pub is_at : State → ℕ → ℕ → Bool
is_at s place j = still_runs (run_from j s []) && ((state_after j s).pc == place)

-- at how many numbers of steps below this one it is there
abbrev pub times_at : State → ℕ → ℕ → ℕ
times_at s steps place = count_by (is_at s place) (range_with_len 0 steps)

-- the same of the run of these words from zeros
abbrev pub entries_of : List ℕ → Input → ℕ → ℕ → ℕ
entries_of words input steps place = times_at (reset (zero_start words) input) steps place
