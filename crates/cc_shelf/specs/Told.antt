-- What a call makes of the fetches and the stores that a shelf tells (docs/COMMANDS.md, "Faults").
use Rattle.std.specs.Prelude.{◌≡◌, ℕ, Bool, true, false, IsTrue, List, [], ◌∷◌, ◌++◌, ◌⊎◌, Result, Ok, Err}
use Rattle.cc_shelf.specs.Stock.{Stock}
use Rattle.cc_shelf.specs.declared.shelf.ShelfFault.{ShelfFault}
use Rattle.cc_shelf.specs.declared.shelf.ShelfFault.TheVariants.{Failed, Absent, TooLong, NoMemory}

-- the name stands behind the fetches before, with whether this one failed
abbrev pub TellsFetch : Bool → List ℕ → Bool → Stock → Stock → Type 0
TellsFetch tells name failed before now = IsTrue tells → now.fetched ≡ before.fetched ++ record { name = name; failed = failed } ∷ []

-- it stands there as one that didn't fail, or for want of memory the fetches are as before
abbrev pub MayTellFetch : Bool → List ℕ → Stock → Stock → Type 0
MayTellFetch tells name before now =
    IsTrue tells
    → (now.fetched ≡ before.fetched ++ record { name = name; failed = false } ∷ []) ⊎ (now.fetched ≡ before.fetched)

-- the fetches behind one of this name, by its answer
abbrev pub FetchTold : {T : Type 0} → Bool → List ℕ → Stock → Stock → Result T ShelfFault → Type 0
FetchTold tells name before now (Ok bytes) = TellsFetch tells name false before now
FetchTold tells name before now (Err Failed) = TellsFetch tells name true before now
FetchTold tells name before now (Err Absent) = TellsFetch tells name false before now
FetchTold tells name before now (Err (TooLong at_least)) = TellsFetch tells name false before now
FetchTold tells name before now (Err NoMemory) = MayTellFetch tells name before now

-- the name follows the stores before, with whether this one failed
abbrev pub TellsStore : Bool → List ℕ → Bool → Stock → Stock → Type 0
TellsStore tells name failed before now = IsTrue tells → now.stored ≡ before.stored ++ record { name = name; failed = failed } ∷ []

-- the stores after one of this name, by its answer: one that found no memory leaves no trace there, and is counted
abbrev pub StoreTold : {T : Type 0} → Bool → List ℕ → Stock → Stock → Result T ShelfFault → Type 0
StoreTold tells name before now (Ok done) = TellsStore tells name false before now
StoreTold tells name before now (Err Failed) = TellsStore tells name true before now
StoreTold tells name before now (Err Absent) = ⊥
StoreTold tells name before now (Err (TooLong at_least)) = ⊥
StoreTold tells name before now (Err NoMemory) = IsTrue tells → now.stored ≡ before.stored
