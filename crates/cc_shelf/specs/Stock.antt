-- All that a contract may say of a shelf at one moment.
use Rattle.std.specs.Prelude.{ℕ, Bool, false, List, [], None}
use Rattle.cc_shelf.specs.Counts.{Counts}
use Rattle.cc_shelf.specs.Files.{Files}

-- the name that a fetch or a store asked for, and whether it failed
pub record Call : Type 0 where
  pub name : List ℕ
  pub failed : Bool

-- the files, the fetches and the stores so far, in order, but for stores that found no memory, the counts, and whether no call that
-- comes can fail
pub record Stock : Type 0 where
  pub files : Files
  pub fetched : List Call
  pub stored : List Call
  pub counts : Counts
  pub reliable : Bool

-- of a shelf that tells only its counts, and takes no memory for a store
abbrev pub untold_stock : ℕ → ℕ → ℕ → Stock
untold_stock fetch_faults store_faults bytes_read = record {
  files = λ name. None;
  fetched = [];
  stored = [];
  counts = record { fetch_faults = fetch_faults; store_faults = store_faults; store_wants = 0; bytes_read = bytes_read };
  reliable = false;
}
