-- What `dis` makes of its file (docs/COMMANDS.md, "dis").
use Rattle.std.specs.Prelude.{◌≡◌, ℕ, List, Some}
use Rattle.c25_isa.specs.Image.{Contents}
use Rattle.c25_dis.specs.Listing.{listing_text}
use Rattle.cc_answers.specs.Answers.{Answered}
use Rattle.cc_driver.specs.Run.{IsImageOf}

-- the listing of words is put
abbrev pub listing_answer : List ℕ → Answered
listing_answer words = record { text = Some (listing_text words); status = 0 }

-- the words of the image are listed
pub record ListsTo (bytes : List ℕ) (answer : Answered) : Type 0 where
  pub contents : Contents
  pub image : IsImageOf contents bytes
  pub is : answer ≡ listing_answer contents.words
