-- The fetches of a command's files, in their order, and when they are refused (docs/COMMANDS.md).
use Rattle.std.specs.Prelude.{◌≡◌, ℕ, ◌+◌, ◌<◌, ◌≤◌, Bool, true, false, IsTrue, List, [], ◌∷◌, ◌++◌, length, map, Some, None}
use Rattle.std.specs.List.{AllZip}
use Rattle.cc_shelf.specs.Counts.{FetchFailed, RoseBy}
use Rattle.cc_shelf.specs.Stock.{Call}
use Rattle.cc_shelf.specs.ShelfAnswers.{NoFetchFailed}
use Rattle.cc_shelf.specs.declared.shelf.ShelfFault.{ShelfFault}
use Rattle.cc_shelf.specs.declared.shelf.ShelfFault.TheVariants as shelf_faults
use Rattle.cc_text.specs.declared.refusal.FileFault.{FileFault}
use Rattle.cc_text.specs.declared.refusal.FileFault.TheVariants.{Read, TooLong, Image, Ports, Sequence, Certificate, Assembly, Script, OtherSource}
use Rattle.cc_text.specs.Refusals.{Why, OfFile, OfMemory}
use Rattle.cc_files.specs.World.{Shelves}

-- a file that is wanted: its name, and the greatest length that it may have, in bytes
pub record Wanted : Type 0 where
  pub name : List ℕ
  pub limit : ℕ

abbrev pub wanted : List ℕ → ℕ → Wanted
wanted name limit = record { name = name; limit = limit }

-- these are the bytes of a file: no more than it may have, and those that were told
pub record IsFetched (shelf : Shelves) (file : Wanted) (bytes : List ℕ) : Type 0 where
  pub told : IsTrue shelf.tells → shelf.before.files file.name ≡ Some bytes
  pub fits : length bytes ≤ file.limit

-- each of these has bytes
abbrev pub AreFetched : Shelves → List Wanted → Type 0
AreFetched shelf [] = Unit {0}
AreFetched shelf (w ∷ ws) = ((bytes : List ℕ) × IsFetched shelf w bytes) × AreFetched shelf ws

-- each of these has these bytes
abbrev pub AllFetched : Shelves → List Wanted → List (List ℕ) → Type 0
AllFetched shelf ws contents = AllZip (IsFetched shelf) ws contents

-- a fetch of a file, and whether it failed
abbrev pub fetch_of : Bool → Wanted → Call
fetch_of failed file = record { name = file.name; failed = failed }

-- these fetches and no others were asked for, in this order
abbrev pub AreAsked : Shelves → List Call → Type 0
AreAsked shelf fetches = IsTrue shelf.tells → shelf.now.fetched ≡ shelf.before.fetched ++ fetches

-- these files and no others were asked for, and no fetch failed
pub record NoneFailed (shelf : Shelves) (files : List Wanted) : Type 0 where
  pub asked : AreAsked shelf (map (fetch_of false) files)
  pub count : NoFetchFailed shelf.before.counts shelf.now.counts

-- a file is longer than its limit, as it was told or as it was read
pub record IsLong (shelf : Shelves) (file : Wanted) : Type 0 where
  pub told : IsTrue shelf.tells → (bytes : List ℕ) × (shelf.before.files file.name ≡ Some bytes) × (file.limit < length bytes)
  pub not_told : shelf.tells ≡ false → RoseBy (file.limit + 1) shelf.before.counts.bytes_read shelf.now.counts.bytes_read

-- why a fetch is refused: it failed, or else there is no such file, or it is too long
abbrev pub FetchCause : Shelves → Wanted → Bool → FileFault → Type 0
FetchCause shelf file true Read = FetchFailed shelf.before.counts shelf.now.counts
FetchCause shelf file true TooLong = ⊥
FetchCause shelf file true (Image why) = ⊥
FetchCause shelf file true (Ports why) = ⊥
FetchCause shelf file true (Sequence why) = ⊥
FetchCause shelf file true (Certificate why) = ⊥
FetchCause shelf file true (Assembly why) = ⊥
FetchCause shelf file true (Script why) = ⊥
FetchCause shelf file true OtherSource = ⊥
FetchCause shelf file false Read = IsTrue shelf.tells × (shelf.before.files file.name ≡ None) × NoFetchFailed shelf.before.counts shelf.now.counts
FetchCause shelf file false TooLong = IsLong shelf file × NoFetchFailed shelf.before.counts shelf.now.counts
FetchCause shelf file false (Image why) = ⊥
FetchCause shelf file false (Ports why) = ⊥
FetchCause shelf file false (Sequence why) = ⊥
FetchCause shelf file false (Certificate why) = ⊥
FetchCause shelf file false (Assembly why) = ⊥
FetchCause shelf file false (Script why) = ⊥
FetchCause shelf file false OtherSource = ⊥

-- the refusal to which a fault of the shelf leads
abbrev pub of_shelf_fault : List ℕ → ShelfFault → Why
of_shelf_fault name shelf_faults.Failed = OfFile name Read
of_shelf_fault name shelf_faults.Absent = OfFile name Read
of_shelf_fault name (shelf_faults.TooLong at_least) = OfFile name TooLong
of_shelf_fault name shelf_faults.NoMemory = OfMemory

-- one file can't be fetched: those before it were, it was the last one that was asked for, and it is the one that is named; of a reliable
-- shelf its fetch didn't fail
pub record FileRefused (shelf : Shelves) (files : List Wanted) (why : Why) : Type 0 where
  pub before : List Wanted
  pub last : Wanted
  pub behind : List Wanted
  pub parts : files ≡ before ++ last ∷ behind
  pub fetched : AreFetched shelf before
  pub failed : Bool
  pub unreliable : IsTrue failed → ¬ IsTrue shelf.before.reliable
  pub asked : AreAsked shelf (map (fetch_of false) before ++ fetch_of failed last ∷ [])
  pub fault : FileFault
  pub cause : FetchCause shelf last failed fault
  pub named : why ≡ OfFile last.name fault

-- memory was wanting behind the fetches of some of the files, or at the next one, which may have been asked for
pub record FetchesStopped (shelf : Shelves) (files : List Wanted) : Type 0 where
  pub before : List Wanted
  pub next : List Wanted
  pub behind : List Wanted
  pub parts : files ≡ before ++ (next ++ behind)
  pub fetched : AreFetched shelf before
  pub at_most : length next ≤ 1
  pub none_failed : NoneFailed shelf (before ++ next)

-- why not all of the files were fetched
pub data NotFetched (shelf : Shelves) (files : List Wanted) (why : Why) : Type 0 where
  AtFile : FileRefused shelf files why → NotFetched shelf files why
  ForMemory : why ≡ OfMemory → FetchesStopped shelf files → NotFetched shelf files why
