-- The statuses and the lines of what a source means (docs/COMMANDS.md, "means").
use Rattle.std.specs.Prelude.{ℕ, List, ◌++◌, codes, decimal, Some}
use Rattle.word_base.specs.declared.outcome.UndefinedKind.{UndefinedKind}
use Rattle.word_base.specs.declared.outcome.UndefinedKind.TheVariants as kinds
use Rattle.word_base.specs.declared.outcome.Outcome.{Outcome}
use Rattle.word_base.specs.declared.outcome.Outcome.TheVariants.{Ended, More, Undefined}
use Rattle.word_base.specs.Outcome.{outputs_of}
use Rattle.c25_image.specs.Lines.{with_feed}
use Rattle.c25_image.specs.OutsText.{outs_text}
use Rattle.c25_image.specs.StopLines.{ending_line}
use Rattle.cc_answers.specs.RunText.{running_line}
use Rattle.cc_answers.specs.Answers.{Answered}

abbrev pub undefined_kind_name : UndefinedKind → List ℕ
undefined_kind_name kinds.Overflow = codes "overflow"
undefined_kind_name kinds.DivideByZero = codes "divide by zero"
undefined_kind_name kinds.ShiftCount = codes "shift count"
undefined_kind_name kinds.Indeterminate = codes "indeterminate"
undefined_kind_name kinds.BadPointer = codes "bad pointer"
undefined_kind_name kinds.NoValue = codes "no value"

abbrev pub undefined_line : UndefinedKind → ℕ → List ℕ
undefined_line kind at = codes "undefined " ++ (undefined_kind_name kind ++ (codes " at byte " ++ decimal at))

-- the line behind the outputs, where loops had so many turns
abbrev pub outcome_line : ℕ → Outcome → List ℕ
outcome_line turns (Ended outs ending) = ending_line ending
outcome_line turns (More outs) = running_line turns (codes " turns")
outcome_line turns (Undefined outs kind at) = undefined_line kind at

-- the outputs, and the line behind them
abbrev pub outcome_text : ℕ → Outcome → List ℕ
outcome_text turns outcome = outs_text (outputs_of outcome) ++ with_feed (outcome_line turns outcome)

-- the status where the answer was put
abbrev pub outcome_status : Outcome → ℕ
outcome_status (Ended outs ending) = 0
outcome_status (More outs) = 6
outcome_status (Undefined outs kind at) = 10

-- what an evaluation answers whose loops had so many turns
abbrev pub means_answer : ℕ → Outcome → Answered
means_answer turns outcome = record { text = Some (outcome_text turns outcome); status = outcome_status outcome }
