-- What a command answers that isn't refused: the text that it puts, where it puts one, and its status where all of that is put.
use Rattle.std.specs.Prelude.{ℕ, List, Option, option_map}
use Rattle.cc_answers.specs.declared.answer.Answer.{Answer}

pub record Answered : Type 0 where
  pub text : Option (List ℕ)
  pub status : ℕ

-- an answer in memory, as what it says
abbrev pub answered : Answer → Answered
answered a = record { text = option_map (λ text. text.items) a.text; status = a.status }
