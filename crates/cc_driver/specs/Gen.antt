-- What `gen` makes of its number (docs/COMMANDS.md, "gen").
use Rattle.std.specs.Prelude.{◌≡◌, ℕ, List, [], length}
use Rattle.word_base.specs.Ports.{Outputs}
use Rattle.c25_isa.specs.declared.event.Stop.{Stop}
use Rattle.c25_isa.specs.Image.{Contents}
use Rattle.cc_check.specs.lay_cert.Frames.{Frame}
use Rattle.cc_files.specs.cc_compile.Compiles.{IsBuilt}
use Rattle.cc_files.specs.cc_compile.Made.{IsMade}
use Rattle.cc_gen.specs.Generated.{generated}
use Rattle.cc_answers.specs.Answers.{Answered}
use Rattle.cc_answers.specs.GenText.{gen_answer}
use Rattle.cc_files.specs.cc_text.Refusals.{Why}
use Rattle.cc_driver.specs.Build.{plain_options, IsRefusedFor}
use Rattle.cc_driver.specs.Run.{Reaches}

-- the greatest number of steps that the run of a generated program may have
abbrev pub gen_steps : ℕ
gen_steps = 10000000

-- the image of the number's program runs on no input for so many steps, and that is summed up
pub record Summarizes (steps number : ℕ) (image : Contents) (answer : Answered) : Type 0 where
  pub outs : Outputs
  pub stands : Stop
  pub runs : Reaches image.words [] steps outs stands
  pub is : answer ≡ gen_answer number (length image.functions) steps outs stands

-- the program that is made from the number is compiled, and its image runs
pub record GeneratesTo (number : ℕ) (answer : Answered) : Type 0 where
  pub image : Contents
  pub frames : List Frame
  pub built : IsBuilt plain_options (generated number) image frames
  pub made : IsMade plain_options (generated number) image frames
  pub summarizes : Summarizes gen_steps number image answer

-- or it has a fault, for which it is refused
abbrev pub GenerateRefused : ℕ → Why → Type 0
GenerateRefused number why = IsRefusedFor plain_options why (generated number)
