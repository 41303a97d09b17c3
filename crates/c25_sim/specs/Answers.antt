-- What the simulator's answers say of the machine: its steps and runs as docs/MACHINE.md has them.
use Rattle.std.specs.Prelude.{◌≡◌, ◌<◌, ℕ, zero, suc, Bool, true, false}
use Rattle.word_base.specs.Ports.{Outputs}
use Rattle.c25_isa.specs.declared.event as types
use Rattle.c25_isa.specs.declared.event.Event.TheVariants as code
use Rattle.c25_isa.specs.declared.event.Stop.{Stop}
use Rattle.c25_isa.specs.declared.event.Stop.TheVariants as stop
use Rattle.c25_isa.specs.State.{State}
use Rattle.c25_isa.specs.Step.{Event, Ran, Put, Over, Trapped, step}
use Rattle.c25_isa.specs.MachineRun.{Reached, Running, Ended, Stopped}

-- the event of an answer, with the state behind it
abbrev pub event_of : types.Event.Event → State → Event
event_of code.Ran s = Ran s
event_of (code.Out word) s = Put word s
event_of (code.Ended ending) s = Over ending
event_of (code.Trap kind at) s = Trapped kind at

-- what a run of these outputs reached
abbrev pub reached_of : Outputs → Stop → Reached
reached_of outs (stop.Ended ending) = Ended outs ending
reached_of outs (stop.Trap kind at) = Stopped outs kind at
reached_of outs stop.Running = Running outs

-- the state behind an event that went on, else the one before it
abbrev pub behind : Event → State → State
behind (Ran t) s = t
behind (Put word t) s = t
behind (Over ending) s = s
behind (Trapped kind at) s = s

-- the state behind m steps: an end and a trap change nothing
abbrev pub state_after : ℕ → State → State
state_after zero s = s
state_after (suc m) s = state_after m (behind (step s) s)

-- whether a step makes an output
abbrev pub puts : Event → Bool
puts (Ran t) = false
puts (Put word t) = true
puts (Over ending) = false
puts (Trapped kind at) = false

-- the state behind fewer than m steps from s, of which the next step makes an output
pub record StandsBeforeOutput (m : ℕ) (s now : State) : Type 0 where
  pub done : ℕ
  pub fewer : done < m
  pub is_behind : now ≡ state_after done s
  pub word : ℕ × ℕ
  pub next : State
  pub step_is : step now ≡ Put word next
