-- Sessions: what the commands of a script show of the run of an image (docs/COMMANDS.md, "debug"). A session keeps a
-- number of steps and a set of breakpoints, and what it shows is the state of the machine's run after that many steps.
use Rattle.std.specs.Prelude.{◌≡◌, ◌⊎◌, ℕ, ◌+◌, ◌<◌, Bool, true, false, ◌==◌, if◌then◌else◌, List, [], ◌∷◌, ◌++◌, length, drop}
use Rattle.word_base.specs.Ports.{Outputs, input_of}
use Rattle.text_base.specs.Lines.{with_feed}
use Rattle.c25_isa.specs.State.{State, zero_start}
use Rattle.c25_isa.specs.MachineRun.{Reached, Running, Ended, Stopped, HasStopped, outputs_reached, run_from, reset}
use Rattle.c25_sim.specs.Answers.{state_after}
use Rattle.c25_sim.specs.Taken.{of_sixteen}
use Rattle.c25_image.specs.OutsText.{outs_text}
use Rattle.c25_image.specs.StopLines.{ending_line, trap_line}
use Rattle.c25_debug.specs.declared.command.Command.{Command}
use Rattle.c25_debug.specs.declared.command.Command.TheVariants.{Break, Delete, Go, Regs, Mem, Stack}
use Rattle.c25_debug.specs.Looks.{registers_line, memory_text, stack_line, stopped_line}

-- which program addresses are breakpoints
abbrev pub Breakpoints : Type 0
Breakpoints = ℕ → Bool

-- the breakpoints, with this address among them or not
abbrev pub with_breakpoint : Breakpoints → ℕ → Bool → Breakpoints
with_breakpoint breakpoints at set = λ a. if a == at then set else breakpoints a

-- what a session keeps from command to command
pub record Kept : Type 0 where
  pub steps : ℕ
  pub breakpoints : Breakpoints

-- after j steps the run from s has ended or trapped, or its PC is a breakpoint, or these are the last of so many steps
abbrev pub StopsAt : State → Kept → ℕ → ℕ → Type 0
StopsAt s kept count j =
    HasStopped (run_from j s []) ⊎ ((kept.breakpoints (state_after j s).pc ≡ true) ⊎ (j ≡ kept.steps + count))

-- j is the least number of steps above those that are kept at which a `go` of so many steps stops
pub record GoesTo (s : State) (kept : Kept) (count j : ℕ) : Type 0 where
  pub above : kept.steps < j
  pub stops : StopsAt s kept count j
  pub least : (i : ℕ) → kept.steps < i → i < j → StopsAt s kept count i → ⊥

-- the words that the steps from one number to another put
abbrev pub outs_between : State → ℕ → ℕ → Outputs
outs_between s from to = drop (length (outputs_reached (run_from from s []))) (outputs_reached (run_from to s []))

-- the last line of a `go`: its PC and all steps so far where the run goes on, else the line of its end or its trap
abbrev pub go_line : ℕ → ℕ → Reached → List ℕ
go_line pc steps (Running outs) = stopped_line pc steps
go_line pc steps (Ended outs ending) = ending_line ending
go_line pc steps (Stopped outs kind at) = trap_line kind at

-- what the steps from one number to another show
abbrev pub go_text : State → ℕ → ℕ → List ℕ
go_text s from to = outs_text (outs_between s from to) ++ with_feed (go_line (state_after to s).pc to (run_from to s []))

-- what a command shows of the run from s, and what is kept then
abbrev pub Does : State → Kept → Command → List ℕ → Kept → Type 0
Does s kept (Break at) text next = (text ≡ []) × (next ≡ record kept { breakpoints = with_breakpoint kept.breakpoints at true })
Does s kept (Delete at) text next = (text ≡ []) × (next ≡ record kept { breakpoints = with_breakpoint kept.breakpoints at false })
Does s kept (Go count) text next =
    GoesTo s kept count next.steps × (text ≡ go_text s kept.steps next.steps) × (next.breakpoints ≡ kept.breakpoints)
Does s kept Regs text next = (text ≡ with_feed (registers_line (state_after kept.steps s))) × (next ≡ kept)
Does s kept (Mem at count) text next = (text ≡ memory_text (state_after kept.steps s).ram at count) × (next ≡ kept)
Does s kept Stack text next = (text ≡ with_feed (stack_line (state_after kept.steps s).stack)) × (next ≡ kept)

-- the first command shows its text, and the others theirs behind it
pub record ShowsFirst (s : State) (kept : Kept) (command : Command) (Others : Kept → List ℕ → Type 0) (text : List ℕ) : Type 0 where
  pub front : List ℕ
  pub next : Kept
  pub back : List ℕ
  pub does : Does s kept command front next
  pub others : Others next back
  pub joined : text ≡ front ++ back

-- what commands show of the run from s, in order
abbrev pub Shows : State → List Command → Kept → List ℕ → Type 0
Shows s [] kept text = text ≡ []
Shows s (command ∷ script) kept text = ShowsFirst s kept command (Shows s script) text

-- no step is done, and there is no breakpoint
abbrev pub before_all : Kept
before_all = record { steps = 0; breakpoints = λ a. false }

-- what a script shows of the words of an image, run from zeros on what port lines give
abbrev pub Session : List ℕ → List (ℕ × ℕ) → List Command → List ℕ → Type 0
Session words lines script text = Shows (reset (zero_start words) (of_sixteen (input_of lines))) script before_all text
