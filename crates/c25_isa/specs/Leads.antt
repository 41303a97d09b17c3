-- The machine goes from one state to another.
use Rattle.std.specs.Prelude.{◌≡◌, ℕ, zero, suc, ◌+◌, ◌++◌, Option, Some, None, option_and_then}
use Rattle.word_base.specs.Ports.{Outputs}
use Rattle.c25_isa.specs.State.{State}
use Rattle.c25_isa.specs.Step.{Event, Ran, Put, Over, Trapped, step}
use Rattle.c25_isa.specs.MachineRun.{run_from}

-- the state that an event goes on to
abbrev pub next_state : Event → Option State
next_state (Ran t) = Some t
next_state (Put word t) = Some t
next_state (Over ending) = None
next_state (Trapped kind at) = None

-- the state behind so many steps, if the machine goes on so far
abbrev pub state_behind : ℕ → State → Option State
state_behind zero s = Some s
state_behind (suc steps) s = option_and_then (state_behind steps) (next_state (step s))

-- in n steps, with these outputs: whatever was put before, and however many steps come behind
pub record Leads (n : ℕ) (s t : State) (put : Outputs) : Type 0 where
  pub by : (k : ℕ) (outs : Outputs) → run_from (n + k) s outs ≡ run_from k t (outs ++ put)
  pub reaches : state_behind n s ≡ Some t
