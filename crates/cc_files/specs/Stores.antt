-- What a command stores: texts under names, one behind another (docs/COMMANDS.md, "Statuses and lines").
use Rattle.std.specs.Prelude.{◌≡◌, ◌≢◌, ◌⊎◌, ℕ, Bool, true, false, IsTrue, List, [], ◌∷◌, ◌++◌, map, Some}
use Rattle.cc_shelf.specs.Counts.{StoreFailed}
use Rattle.cc_shelf.specs.Files.{Unchanged}
use Rattle.cc_shelf.specs.Reliable.{StaysReliable}
use Rattle.cc_shelf.specs.ShelfAnswers.{StoresFoundMemory, OneStoreWanted}
use Rattle.cc_shelf.specs.Stock.{Call}
use Rattle.cc_shelf.specs.declared.shelf.ShelfFault.{ShelfFault}
use Rattle.cc_shelf.specs.declared.shelf.ShelfFault.TheVariants as shelf_faults
use Rattle.cc_text.specs.Refusals.{Why, OfStore, OfMemory}
use Rattle.cc_files.specs.World.{Shelves}

-- a text, and the name under which it is stored
pub record Stored : Type 0 where
  pub name : List ℕ
  pub text : List ℕ

-- a text is stored under a name
abbrev pub one_text : List ℕ → List ℕ → List Stored
one_text name text = record { name = name; text = text } ∷ []

abbrev pub names_of : List Stored → List (List ℕ)
names_of texts = map (λ s. s.name) texts

-- the store of a text, and whether it failed
abbrev pub store_of : Bool → Stored → Call
store_of failed s = record { name = s.name; failed = failed }

-- the texts were stored, one behind another
abbrev pub stores_of : List Stored → List Call
stores_of texts = map (store_of false) texts

-- these stores and no others were tried, in this order, but for those that found no memory
abbrev pub AreTried : Shelves → List Call → Type 0
AreTried shelf stores = IsTrue shelf.tells → shelf.now.stored ≡ shelf.before.stored ++ stores

-- no file changed, no store was tried, and none failed or found no memory
pub record NothingStored (shelf : Shelves) : Type 0 where
  pub files : Unchanged shelf.before.files shelf.now.files
  pub faults : shelf.now.counts.store_faults ≡ shelf.before.counts.store_faults
  pub tried : IsTrue shelf.tells → shelf.now.stored ≡ shelf.before.stored
  pub wants : StoresFoundMemory shelf.before.counts shelf.now.counts
  pub reliable : StaysReliable shelf.before shelf.now

-- the store under a name failed, and it was tried once
pub record StoreFails (name : List ℕ) (shelf : Shelves) : Type 0 where
  pub failed : StoreFailed shelf.before.counts shelf.now.counts
  pub tried : AreTried shelf (record { name = name; failed = true } ∷ [])
  pub wants : StoresFoundMemory shelf.before.counts shelf.now.counts
  pub unreliable : ¬ IsTrue shelf.before.reliable

-- one store found no memory, and nothing is stored
pub record StoreWants (shelf : Shelves) : Type 0 where
  pub files : Unchanged shelf.before.files shelf.now.files
  pub faults : shelf.now.counts.store_faults ≡ shelf.before.counts.store_faults
  pub tried : IsTrue shelf.tells → shelf.now.stored ≡ shelf.before.stored
  pub wants : OneStoreWanted shelf.before.counts shelf.now.counts
  pub reliable : StaysReliable shelf.before shelf.now

-- a store is refused: it failed, or it found no memory
abbrev pub StoreStopped : List ℕ → Shelves → Why → Type 0
StoreStopped name shelf why = ((why ≡ OfStore) × StoreFails name shelf) ⊎ ((why ≡ OfMemory) × StoreWants shelf)

-- the refusal to which a fault of a store leads
abbrev pub of_store_fault : ShelfFault → Why
of_store_fault shelf_faults.Failed = OfStore
of_store_fault shelf_faults.Absent = OfStore
of_store_fault (shelf_faults.TooLong at_least) = OfStore
of_store_fault shelf_faults.NoMemory = OfMemory

-- each name holds its text
abbrev pub Hold : Shelves → List Stored → Type 0
Hold shelf [] = Unit {0}
Hold shelf (s ∷ more) = (IsTrue shelf.tells → shelf.now.files s.name ≡ Some s.text) × Hold shelf more

-- a name is none of these
abbrev pub IsOther : List ℕ → List (List ℕ) → Type 0
IsOther n [] = Unit {0}
IsOther n (name ∷ names) = (n ≢ name) × IsOther n names

-- each name but these holds what it held
abbrev pub OnlyUnder : List (List ℕ) → Shelves → Type 0
OnlyUnder names shelf = (n : List ℕ) → IsOther n names → shelf.now.files n ≡ shelf.before.files n

-- these texts are stored, each by one store, and nothing else is; no store failed or found no memory
pub record AreStored (texts : List Stored) (shelf : Shelves) : Type 0 where
  pub hold : Hold shelf texts
  pub others : OnlyUnder (names_of texts) shelf
  pub faults : shelf.now.counts.store_faults ≡ shelf.before.counts.store_faults
  pub tried : AreTried shelf (stores_of texts)
  pub wants : StoresFoundMemory shelf.before.counts shelf.now.counts
  pub reliable : StaysReliable shelf.before shelf.now

-- the store of one of the texts failed, and it was the last that was tried: those before it are stored, and its name may hold anything
pub record FailsAtOne (texts : List Stored) (shelf : Shelves) : Type 0 where
  pub done : List Stored
  pub next : Stored
  pub left : List Stored
  pub parts : texts ≡ done ++ next ∷ left
  pub hold : Hold shelf done
  pub others : OnlyUnder (names_of (done ++ next ∷ [])) shelf
  pub failed : StoreFailed shelf.before.counts shelf.now.counts
  pub tried : AreTried shelf (stores_of done ++ store_of true next ∷ [])
  pub wants : StoresFoundMemory shelf.before.counts shelf.now.counts
  pub unreliable : ¬ IsTrue shelf.before.reliable

-- where these texts are left, no store found no memory, or one of them did
abbrev pub AtMostOneWanted : List Stored → Shelves → Type 0
AtMostOneWanted left shelf =
    StoresFoundMemory shelf.before.counts shelf.now.counts ⊎ ((left ≢ []) × OneStoreWanted shelf.before.counts shelf.now.counts)

-- some first ones of the texts are stored, each by one store, and no others; one store at most found no memory, and was the last
pub record StopsBehind (texts : List Stored) (shelf : Shelves) : Type 0 where
  pub done : List Stored
  pub left : List Stored
  pub parts : texts ≡ done ++ left
  pub hold : Hold shelf done
  pub others : OnlyUnder (names_of done) shelf
  pub faults : shelf.now.counts.store_faults ≡ shelf.before.counts.store_faults
  pub tried : AreTried shelf (stores_of done)
  pub wants : AtMostOneWanted left shelf
  pub reliable : StaysReliable shelf.before shelf.now

-- the stores of texts are refused: one failed, or memory was wanting for one
abbrev pub StoresStopped : List Stored → Shelves → Why → Type 0
StoresStopped texts shelf why = ((why ≡ OfStore) × FailsAtOne texts shelf) ⊎ ((why ≡ OfMemory) × StopsBehind texts shelf)
