-- Where a debugger stands, and what a command did to one.
use Rattle.std.specs.Prelude.{◌≡◌, ℕ, false, List, ◌++◌, slice_index_or}
use Rattle.c25_isa.specs.State.{State}
use Rattle.c25_sim.specs.Answers.{state_after}
use Rattle.c25_sim.specs.MachineView.{state_of}
use Rattle.c25_debug.specs.declared.command.Command.{Command}
use Rattle.c25_debug.specs.declared.breakpoints.Breakpoints as code
use Rattle.c25_debug.specs.declared.debugger.Debugger.{Debugger}
use Rattle.c25_debug.specs.Session.{Breakpoints, Kept, Does}

-- the addresses of a table
abbrev pub breakpoints_of : code.Breakpoints → Breakpoints
breakpoints_of b = λ a. slice_index_or b.table.items a false

-- what it keeps
abbrev pub kept_of : Debugger → Kept
kept_of d = record { steps = d.steps; breakpoints = breakpoints_of d.breakpoints }

-- its machine stands behind that many steps of the run from s
abbrev pub IsBehind : State → Debugger → Type 0
IsBehind s d = state_of d.machine ≡ state_after d.steps s

-- a command was done, and its text put behind the one before
pub record Did (command : Command) (s : State) (before now : Debugger) (old new : List ℕ) : Type 0 where
  pub shown : List ℕ
  pub text : new ≡ old ++ shown
  pub does : Does s (kept_of before) command shown (kept_of now)
  pub behind : IsBehind s now
