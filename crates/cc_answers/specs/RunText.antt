-- The statuses and the lines of a run (docs/COMMANDS.md, "run").
use Rattle.std.specs.Prelude.{ℕ, List, ◌++◌, codes, decimal, Some}
use Rattle.word_base.specs.Ports.{Outputs}
use Rattle.c25_isa.specs.declared.event.Stop.{Stop}
use Rattle.c25_isa.specs.declared.event.Stop.TheVariants as stop
use Rattle.c25_image.specs.Lines.{with_feed}
use Rattle.c25_image.specs.OutsText.{outs_text}
use Rattle.c25_image.specs.StopLines.{ending_line, trap_line}
use Rattle.cc_answers.specs.Answers.{Answered}

-- the line of a run that went on behind so many of its steps or turns
abbrev pub running_line : ℕ → List ℕ → List ℕ
running_line count what = codes "running after " ++ (decimal count ++ what)

-- the line behind the outputs of a run of so many steps
abbrev pub stop_line : ℕ → Stop → List ℕ
stop_line steps (stop.Ended ending) = ending_line ending
stop_line steps (stop.Trap kind at) = trap_line kind at
stop_line steps stop.Running = running_line steps (codes " steps")

-- the outputs, and the line behind them
abbrev pub answer_text : ℕ → Outputs → Stop → List ℕ
answer_text steps outs stands = outs_text outs ++ with_feed (stop_line steps stands)

-- the status where the answer was put
abbrev pub stop_status : Stop → ℕ
stop_status (stop.Ended ending) = 0
stop_status (stop.Trap kind at) = 7
stop_status stop.Running = 6

-- what a run of so many steps answers that put these outputs and stands here
abbrev pub run_answer : ℕ → Outputs → Stop → Answered
run_answer steps outs stands = record { text = Some (answer_text steps outs stands); status = stop_status stands }
