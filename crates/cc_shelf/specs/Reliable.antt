-- Shelves and sinks of which no call that comes can fail (docs/COMMANDS.md, "Faults").
use Rattle.std.specs.Prelude.{◌≡◌, IsTrue}
use Rattle.cc_shelf.specs.Stock.{Stock}
use Rattle.cc_shelf.specs.Output.{Output}
use Rattle.cc_shelf.specs.ShelfAnswers.{NoFetchFailed, NoStoreFailed}

-- no call failed between the two, and none that comes can
pub record NoCallFails (before now : Stock) : Type 0 where
  pub reliable : IsTrue now.reliable
  pub fetches : NoFetchFailed before.counts now.counts
  pub stores : NoStoreFailed before.counts now.counts

-- so it is, where none that came could fail
abbrev pub StaysReliable : Stock → Stock → Type 0
StaysReliable before now = IsTrue before.reliable → NoCallFails before now

-- no put failed between the two, and none that comes can
pub record NoPutFails (before now : Output) : Type 0 where
  pub reliable : IsTrue now.reliable
  pub faults : now.faults ≡ before.faults

abbrev pub PutsStayReliable : Output → Output → Type 0
PutsStayReliable before now = IsTrue before.reliable → NoPutFails before now
