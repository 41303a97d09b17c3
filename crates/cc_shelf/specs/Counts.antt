-- The counts of shelves and sinks, which never fall and stay at their greatest value (docs/COMMANDS.md, "Faults").
use Rattle.std.specs.Prelude.{ℕ, ◌+◌, ◌-◌, ◌^◌, ◌≤◌, min}

-- the counts of a shelf: failed fetches, failed stores, stores that found no memory, and bytes read
pub record Counts : Type 0 where
  pub fetch_faults : ℕ
  pub store_faults : ℕ
  pub store_wants : ℕ
  pub bytes_read : ℕ

-- a count raised by n, where its 64 bits hold that, else its greatest value
abbrev pub raised : ℕ → ℕ → ℕ
raised count n = min (count + n) (2 ^ 64 - 1)

-- the count is greater by at least n, or stands at its greatest value
abbrev pub RoseBy : ℕ → ℕ → ℕ → Type 0
RoseBy n before now = raised before n ≤ now

-- the count is greater, or stands at its greatest value
abbrev pub Rose : ℕ → ℕ → Type 0
Rose before now = RoseBy 1 before now

-- a fetch failed between the two
abbrev pub FetchFailed : Counts → Counts → Type 0
FetchFailed before now = Rose before.fetch_faults now.fetch_faults

-- a store failed between the two
abbrev pub StoreFailed : Counts → Counts → Type 0
StoreFailed before now = Rose before.store_faults now.store_faults
