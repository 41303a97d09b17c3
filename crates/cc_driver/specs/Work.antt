-- What a command does with the shelf, before anything is put: the same for each command, over its row.
use Rattle.std.specs.Prelude.{◌≡◌, ◌≢◌, IfOk, List, [], Result}
use Rattle.cc_words.specs.Asked.{Asked}
use Rattle.cc_answers.specs.declared.answer.Answer.{Answer}
use Rattle.cc_files.specs.cc_text.declared.refusal.Refusal.{Refusal}
use Rattle.cc_answers.specs.Answers.{Answered, answered}
use Rattle.cc_files.specs.cc_text.Refusals.{Why, OfStore, OfMemory}
use Rattle.cc_files.specs.World.{Shelves}
use Rattle.cc_files.specs.Fetches.{AreFetched, NoneFailed, NotFetched}
use Rattle.cc_files.specs.Stores.{Stored, NothingStored, OnlyUnder, AreStored, FailsAtOne, StopsBehind}
use Rattle.cc_driver.specs.Commands.{files_of, stores_under, Comes, Rejects}

-- the command is done: its files were fetched, and what they come to is stored
pub record WorkDone (what : Asked) (shelf : Shelves) (answer : Answered) : Type 0 where
  pub fetched : NoneFailed shelf (files_of what)
  pub texts : List Stored
  pub comes : Comes what shelf answer texts
  pub stored : AreStored texts shelf

-- the stores of what the files come to ended so
pub record StoresEnd (P : List Stored → Shelves → Type 0) (what : Asked) (shelf : Shelves) : Type 0 where
  pub fetched : NoneFailed shelf (files_of what)
  pub answer : Answered
  pub texts : List Stored
  pub comes : Comes what shelf answer texts
  pub ends : P texts shelf

-- one of them failed
abbrev pub StoreFails : Asked → Shelves → Type 0
StoreFails = StoresEnd FailsAtOne

-- memory was wanting for one of them, or for what came behind them
abbrev pub StoresStop : Asked → Shelves → Type 0
StoresStop = StoresEnd StopsBehind

-- why the command is refused, and what was asked for by then
pub data WorkRefused (what : Asked) (shelf : Shelves) (why : Why) : Type 0 where
  AtFetch : NotFetched shelf (files_of what) why → NothingStored shelf → WorkRefused what shelf why
  AtFiles : NoneFailed shelf (files_of what) → Rejects what shelf why → NothingStored shelf → WorkRefused what shelf why
  AtStore : why ≡ OfStore → StoreFails what shelf → WorkRefused what shelf why
  AtMemory : why ≡ OfMemory → NoneFailed shelf (files_of what) → AreFetched shelf (files_of what) → NothingStored shelf → WorkRefused what shelf why
  AtStoreForMemory : why ≡ OfMemory → StoresStop what shelf → WorkRefused what shelf why

-- what the work of a command leaves: no name but those of its stores is touched, and where it stores and is done, it ends with 0
pub record WorkLeaves (what : Asked) (shelf : Shelves) (result : Result Answer Refusal) : Type 0 where
  pub others : OnlyUnder (stores_under what) shelf
  pub ends : stores_under what ≢ [] → IfOk result (λ a. (answered a).status ≡ 0)
  pub no_store : stores_under what ≡ [] → NothingStored shelf
