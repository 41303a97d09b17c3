-- The summary of a generated program's run (docs/COMMANDS.md, "gen").
use Rattle.std.specs.Prelude.{ℕ, ◌-◌, List, ◌++◌, length, slice_get, codes, decimal, Some}
use Rattle.std.specs.Option.{option_map_or}
use Rattle.word_base.specs.declared.outcome.Ending.{Ending}
use Rattle.word_base.specs.Ports.{Outputs}
use Rattle.c25_isa.specs.declared.event.Stop.{Stop}
use Rattle.c25_isa.specs.declared.event.Stop.TheVariants.{Ended, Trap, Running}
use Rattle.c25_image.specs.Hex.{hex4}
use Rattle.c25_image.specs.Lines.{with_feed}
use Rattle.cc_answers.specs.Answers.{Answered}
use Rattle.c25_image.specs.StopLines.{ending_line}
use Rattle.cc_answers.specs.RunText.{run_answer}

-- the word of the last output, or 0 where there is none
abbrev pub last_word : Outputs → ℕ
last_word outs = option_map_or (λ out. out.1) (slice_get outs (length outs - 1)) 0

-- the line of a program that is made from a number: how many functions it has, how many outputs its run put and the last of their words, and
-- how it ended
abbrev pub summary_line : ℕ → ℕ → Outputs → Ending → List ℕ
summary_line number functions outs ending =
    codes "gen " ++ (decimal number
    ++ (codes ": functions " ++ (decimal functions
    ++ (codes ", outputs " ++ (decimal (length outs)
    ++ (codes ", last " ++ (hex4 (last_word outs)
    ++ (codes ", " ++ ending_line ending))))))))

-- the line is put
abbrev pub summary_answer : ℕ → ℕ → Outputs → Ending → Answered
summary_answer number functions outs ending = record { text = Some (with_feed (summary_line number functions outs ending)); status = 0 }

-- what is answered where the run of so many steps put these outputs and stands here: its summary where it ended, else what any run answers
abbrev pub gen_answer : ℕ → ℕ → ℕ → Outputs → Stop → Answered
gen_answer number functions steps outs (Ended ending) = summary_answer number functions outs ending
gen_answer number functions steps outs (Trap kind at) = run_answer steps outs (Trap kind at)
gen_answer number functions steps outs Running = run_answer steps outs Running
