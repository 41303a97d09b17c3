-- What the call of a command answers, puts and leaves (docs/COMMANDS.md, "Statuses and lines").
use Rattle.std.specs.Prelude.{◌≡◌, ◌≢◌, ◌⊎◌, ℕ, ◌<◌, IsTrue, IsSome, List, [], ◌∷◌, ◌++◌, length, String, codes, Some, None}
use Rattle.std.specs.declared.alloc.Global.{Global}
use Rattle.cc_shelf.specs.Counts.{FetchFailed, StoreFailed, Rose}
use Rattle.cc_shelf.specs.Files.{Files}
use Rattle.cc_shelf.specs.ShelfAnswers.{StoresFoundMemory}
use Rattle.cc_words.specs.Asked.{Asked, Asks, asked, texts_of}
use Rattle.cc_answers.specs.Answers.{Answered}
use Rattle.cc_files.specs.cc_text.Refusals.{Why, refusal_status}
use Rattle.cc_files.specs.World.{Shelves, Sinks}
use Rattle.cc_files.specs.Puts.{PutsLine, AnswerPut, Refused, LineCame, line_of, memory_line}
use Rattle.cc_files.specs.Fetches.{Wanted, AreFetched}
use Rattle.cc_driver.specs.Commands.{files_of, stores_under, Comes, Rejects}
use Rattle.cc_files.specs.Stores.{Stored, NothingStored, OnlyUnder}
use Rattle.cc_driver.specs.Work.{WorkDone, WorkRefused, StoresStop}

-- a fact of what the words ask for, where they ask for something
abbrev pub OnAsked : List (String Global) → (Asked → Type 0) → Type 0
OnAsked words P = (what : Asked) → Asks (texts_of words) what → P what

-- the words ask for nothing that is done
abbrev pub AskForNothing : List (String Global) → Type 0
AskForNothing words = asked (texts_of words) ≡ None

-- what each status means: the command is done and its answer is put, or it is refused for a cause that its line names
pub data Answers (what : Asked) (shelf : Shelves) (sink : Sinks) (status : ℕ) : Type 0 where
  IsDone : (answer : Answered) → WorkDone what shelf answer → AnswerPut answer sink status → Answers what shelf sink status
  IsRefused : (why : Why) → WorkRefused what shelf why → Refused why sink status → Answers what shelf sink status

-- the command is refused, and the line that names the cause was put, or the put failed
pub record NamesCause (what : Asked) (shelf : Shelves) (sink : Sinks) (status : ℕ) : Type 0 where
  pub why : Why
  pub refused : WorkRefused what shelf why
  pub status_is : status ≡ refusal_status why
  pub line : LineCame (line_of why) sink

-- a told file isn't there, or is longer than its limit, with the status of that
pub data IsUnfetchable (files : Files) (file : Wanted) (status : ℕ) : Type 0 where
  NoFile : files file.name ≡ None → status ≡ 3 → IsUnfetchable files file status
  LongFile : (bytes : List ℕ) → files file.name ≡ Some bytes → file.limit < length bytes → status ≡ 9 → IsUnfetchable files file status

-- the status of the first thing that is wrong in what is told
pub data IsWrong (what : Asked) (shelf : Shelves) (status : ℕ) : Type 0 where
  ToFile : (before : List Wanted) (file : Wanted) (behind : List Wanted) → files_of what ≡ before ++ file ∷ behind → AreFetched shelf before
      → IsUnfetchable shelf.before.files file status → IsWrong what shelf status
  ToRefusal : (why : Why) → Rejects what shelf why → status ≡ refusal_status why → IsWrong what shelf status

-- which status it is where files are told and no fetch failed, unless memory was wanting
pub record Decided (what : Asked) (shelf : Shelves) (sink : Sinks) (status : ℕ) : Type 0 where
  -- that of the first thing that is wrong
  pub wrong : (due : ℕ) → IsTrue shelf.tells → ¬ FetchFailed shelf.before.counts shelf.now.counts → IsWrong what shelf due → (status ≡ due) ⊎ (status ≡ 5)
  -- or else, where none of its stores failed and its put didn't, that of what the files come to
  pub right : (answer : Answered) (texts : List Stored) → IsTrue shelf.tells → ¬ FetchFailed shelf.before.counts shelf.now.counts
      → (stores_under what ≢ [] → ¬ StoreFailed shelf.before.counts shelf.now.counts)
      → (IsSome answer.text → ¬ Rose sink.before.faults sink.now.faults)
      → Comes what shelf answer texts → (status ≡ answer.status) ⊎ (status ≡ 5)

-- what each name holds at the end: no name but those of the stores is touched, and these at 0, 4 and 5 alone
pub record Leaves (what : Asked) (shelf : Shelves) (status : ℕ) : Type 0 where
  pub others : OnlyUnder (stores_under what) shelf
  pub kept : status ≢ 0 → status ≢ 4 → status ≢ 5 → NothingStored shelf
  -- at 5 some first ones of the texts that 0 promises are stored, or nothing is
  pub wanting : status ≡ 5 → NothingStored shelf ⊎ StoresStop what shelf
  pub faults : status ≢ 4 → shelf.now.counts.store_faults ≡ shelf.before.counts.store_faults
  -- a store that finds no memory is answered with 5
  pub memory : status ≢ 5 → StoresFoundMemory shelf.before.counts shelf.now.counts
  pub no_store : stores_under what ≡ [] → NothingStored shelf

-- words that ask for nothing touch no file, and are refused, unless memory was wanting
pub record Idles (shelf : Shelves) (sink : Sinks) (status : ℕ) : Type 0 where
  pub untouched : shelf.now ≡ shelf.before
  pub says : ((status ≡ 2) × PutsLine (codes "words refused\n") sink) ⊎ ((status ≡ 5) × PutsLine memory_line sink)
