-- When a shelf gives each refusal, and what its calls make of its counts (docs/COMMANDS.md, "Faults").
use Rattle.std.specs.Prelude.{◌≡◌, ℕ, ◌<◌, ◌≤◌, Bool, false, IsTrue, List, length, Some, None}
use Rattle.cc_shelf.specs.Counts.{Counts, FetchFailed, StoreFailed, RoseBy, raised}
use Rattle.cc_shelf.specs.Stock.{Stock}
use Rattle.cc_shelf.specs.declared.shelf.ShelfFault.{ShelfFault}
use Rattle.cc_shelf.specs.declared.shelf.ShelfFault.TheVariants.{Failed, Absent, TooLong, NoMemory}

-- no fetch failed between the two
abbrev pub NoFetchFailed : Counts → Counts → Type 0
NoFetchFailed before now = now.fetch_faults ≡ before.fetch_faults

-- no store failed between the two
abbrev pub NoStoreFailed : Counts → Counts → Type 0
NoStoreFailed before now = now.store_faults ≡ before.store_faults

-- every store found memory between the two
abbrev pub StoresFoundMemory : Counts → Counts → Type 0
StoresFoundMemory before now = now.store_wants ≡ before.store_wants

-- one store found no memory between the two
abbrev pub OneStoreWanted : Counts → Counts → Type 0
OneStoreWanted before now = now.store_wants ≡ raised before.store_wants 1

-- when a fetch of at most `max` bytes of this name is refused so
abbrev pub FetchRefused : Bool → List ℕ → ℕ → Stock → Stock → ShelfFault → Type 0
FetchRefused tells name max before now Failed = FetchFailed before.counts now.counts
FetchRefused tells name max before now Absent =
    IsTrue tells × (before.files name ≡ None) × NoFetchFailed before.counts now.counts
FetchRefused tells name max before now (TooLong at_least) =
    (max < at_least)
    × (IsTrue tells → (bytes : List ℕ) × (before.files name ≡ Some bytes) × (at_least ≤ length bytes))
    × (tells ≡ false → RoseBy at_least before.counts.bytes_read now.counts.bytes_read)
    × NoFetchFailed before.counts now.counts
FetchRefused tells name max before now NoMemory = NoFetchFailed before.counts now.counts

-- when a store is refused so
abbrev pub StoreRefused : Counts → Counts → ShelfFault → Type 0
StoreRefused before now Failed = StoreFailed before now × StoresFoundMemory before now
StoreRefused before now Absent = ⊥
StoreRefused before now (TooLong at_least) = ⊥
StoreRefused before now NoMemory = NoStoreFailed before now × OneStoreWanted before now

-- the counts behind a fetch
pub record AfterFetch (before now : Counts) : Type 0 where
  pub fetch_faults : before.fetch_faults ≤ now.fetch_faults
  pub store_faults : now.store_faults ≡ before.store_faults
  pub store_wants : now.store_wants ≡ before.store_wants
  pub bytes_read : before.bytes_read ≤ now.bytes_read

-- the counts behind a store
pub record AfterStore (before now : Counts) : Type 0 where
  pub fetch_faults : now.fetch_faults ≡ before.fetch_faults
  pub store_faults : before.store_faults ≤ now.store_faults
  pub bytes_read : before.bytes_read ≤ now.bytes_read
