-- What commands that store one text store and put.
use Rattle.std.specs.Prelude.{None}
use Rattle.cc_answers.specs.Answers.{Answered}
pub use Rattle.cc_files.specs.Stores.{one_text}

-- nothing is put
abbrev pub silent_answer : Answered
silent_answer = record { text = None; status = 0 }
