-- A store, and calls that store nothing.
use Rattle.std.proofs.Common.{◌≡◌, ◌≢◌, ◌∙◌, ℕ, Bool, false, List, Some, refl, ap, subst, inl, inr}
use Rattle.std.specs.Prelude.{Result, Err, IsErrOf, IsTrue}
use Rattle.cc_shelf.specs.Files.{Unchanged}
use Rattle.cc_shelf.specs.Reliable.{StaysReliable}
use Rattle.cc_shelf.specs.ShelfAnswers.{AfterFetch, StoreRefused, NoStoreFailed, StoresFoundMemory}
use Rattle.cc_shelf.specs.Stock.{Stock}
use Rattle.cc_shelf.specs.Told.{TellsStore, StoreTold}
use Rattle.cc_shelf.specs.declared.shelf.ShelfFault.{ShelfFault}
use Rattle.cc_shelf.specs.declared.shelf.ShelfFault.TheVariants as shelf_faults
use Rattle.cc_files.specs.World.{shelves}
use Rattle.cc_files.specs.Stores.{one_text, of_store_fault, NothingStored, AreStored, StoreStopped}

-- calls that follow calls
pub both_reliable : (first between last : Stock) → StaysReliable first between → StaysReliable between last → StaysReliable first last
both_reliable first between last one more reliable =
    let former = one reliable in
    let latter = more former.reliable in
    record { reliable = latter.reliable; fetches = latter.fetches ∙ former.fetches; stores = latter.stores ∙ former.stores }

-- before any call nothing is stored
pub nothing_yet : (tells : Bool) (stock : Stock) → NothingStored (shelves tells stock stock)
nothing_yet tells stock = record {
  files = λ n. refl;
  faults = refl;
  tried = λ t. refl;
  wants = refl;
  reliable = λ reliable. record { reliable = reliable; fetches = refl; stores = refl };
}

-- a fetch stores nothing
pub fetch_stores : (tells : Bool) (before now : Stock) → Unchanged before.files now.files → AfterFetch before.counts now.counts → now.stored ≡ before.stored → StaysReliable before now
    → NothingStored (shelves tells before now)
fetch_stores tells before now files counts stored reliable = record {
  files = files;
  faults = counts.store_faults;
  tried = λ t. stored;
  wants = counts.store_wants;
  reliable = reliable;
}

pub nothing_both : (tells : Bool) (first between last : Stock) → NothingStored (shelves tells first between) → NothingStored (shelves tells between last) → NothingStored (shelves tells first last)
nothing_both tells first between last one two = record {
  files = λ n. two.files n ∙ one.files n;
  faults = two.faults ∙ one.faults;
  tried = λ t. two.tried t ∙ one.tried t;
  wants = two.wants ∙ one.wants;
  reliable = both_reliable first between last one.reliable two.reliable;
}

-- a text is stored
pub one_stored : (tells : Bool) (before now : Stock) (name text : List ℕ) → (IsTrue tells → now.files name ≡ Some text) → ((n : List ℕ) → n ≢ name → now.files n ≡ before.files n)
    → NoStoreFailed before.counts now.counts → StoresFoundMemory before.counts now.counts → TellsStore tells name false before now → StaysReliable before now
    → AreStored (one_text name text) (shelves tells before now)
one_stored tells before now name text told others faults wants tried reliable = record {
  hold = (told, tt {0});
  others = λ n other. others n other.0;
  faults = faults;
  tried = tried;
  wants = wants;
  reliable = reliable;
}

refused_as : (T : Type 0) (tells : Bool) (before now : Stock) (name : List ℕ) (fault : ShelfFault) → (fault ≡ shelf_faults.NoMemory → Unchanged before.files now.files)
    → StoreRefused before.counts now.counts fault → StoreTold {T = T} tells name before now (Err fault) → StaysReliable before now → (fault ≡ shelf_faults.Failed → ¬ IsTrue before.reliable)
    → StoreStopped name (shelves tells before now) (of_store_fault fault)
refused_as T tells before now name shelf_faults.Failed same r tried reliable unreliable =
    inl (refl, record { failed = r.0; tried = tried; wants = r.1; unreliable = unreliable refl })
refused_as T tells before now name shelf_faults.Absent same r tried reliable unreliable = absurd r
refused_as T tells before now name (shelf_faults.TooLong at_least) same r tried reliable unreliable = absurd r
refused_as T tells before now name shelf_faults.NoMemory same r tried reliable unreliable =
    inr (refl, record { files = same refl; faults = r.0; tried = tried; wants = r.1; reliable = reliable })

-- a store that the shelf refuses
pub store_refused : {T : Type 0} (answer : Result T ShelfFault) (tells : Bool) (before now : Stock) (name : List ℕ) (fault : ShelfFault) → answer ≡ Err fault
    → (IsErrOf answer shelf_faults.NoMemory → Unchanged before.files now.files) → StoreRefused before.counts now.counts fault → StoreTold tells name before now answer → StaysReliable before now
    → (IsErrOf answer shelf_faults.Failed → ¬ IsTrue before.reliable) → StoreStopped name (shelves tells before now) (of_store_fault fault)
store_refused {T} answer tells before now name fault is same r tried reliable unreliable =
    refused_as T tells before now name fault (λ e. same (is ∙ ap Err e)) r (subst (λ x. StoreTold tells name before now x) is tried) reliable (λ e. unreliable (is ∙ ap Err e))
