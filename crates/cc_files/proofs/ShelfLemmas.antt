-- Fetches one behind another.
use Rattle.std.proofs.Common.{true≢false, length, ◌≡◌, ◌∙◌, ◌≤◌, ◌++◌, ◌+◌, ℕ, Bool, true, false, List, [], ◌∷◌, map, refl, sym, ap, subst, inl, inr, arith, append_assoc, append-nil}
use Rattle.std.specs.Prelude.{◌⊎◌, Result, Err, IsTrue, IsErrOf}
use Rattle.cc_shelf.specs.Counts.{RoseBy}
use Rattle.cc_shelf.specs.Files.{Unchanged}
use Rattle.cc_shelf.specs.Stock.{Stock, Call}
use Rattle.cc_shelf.specs.Reliable.{StaysReliable}
use Rattle.cc_shelf.specs.Told.{FetchTold, MayTellFetch}
use Rattle.cc_shelf.specs.ShelfAnswers.{AfterFetch, FetchRefused, NoFetchFailed}
use Rattle.cc_shelf.specs.declared.shelf.ShelfFault.{ShelfFault}
use Rattle.cc_shelf.specs.declared.shelf.ShelfFault.TheVariants as shelf_faults
use Rattle.cc_text.specs.declared.refusal.FileFault.{FileFault}
use Rattle.cc_text.specs.declared.refusal.FileFault.TheVariants.{Read, TooLong, Image, Ports, Sequence, Certificate, Assembly, Script, OtherSource}
use Rattle.cc_text.specs.Refusals.{Why, OfFile, OfMemory}
use Rattle.cc_files.specs.World.{Shelves, shelves}
use Rattle.cc_files.specs.Fetches.{Wanted, wanted, of_shelf_fault, fetch_of, IsFetched, AreFetched, AreAsked, NoneFailed, FetchCause, NotFetched, AtFile, ForMemory}

-- what rose by so many rose by fewer
rose_less : (m n a b : ℕ) → m ≤ n → RoseBy n a b → RoseBy m a b
rose_less m n a b less rose = omega (arith, less, rose)

-- one fetch is refused
one_refused : (shelf : Shelves) (w : Wanted) (failed : Bool) (fault : FileFault) → (IsTrue failed → ¬ IsTrue shelf.before.reliable) → FetchCause shelf w failed fault → AreAsked shelf (fetch_of failed w ∷ []) → NotFetched shelf (w ∷ []) (OfFile w.name fault)
one_refused shelf w failed fault unreliable cause asked = AtFile (record {
  before = [];
  last = w;
  behind = [];
  parts = refl;
  fetched = tt {0};
  failed = failed;
  unreliable = unreliable;
  asked = asked;
  fault = fault;
  cause = cause;
  named = refl;
})

-- one fetch found no memory
one_stopped : (tells : Bool) (before now : Stock) (w : Wanted) → NoFetchFailed before.counts now.counts → MayTellFetch tells w.name before now → NotFetched (shelves tells before now) (w ∷ []) OfMemory
one_stopped tells before now w count may = go tells may
  where
    stopped : (t : Bool) (next behind : List Wanted) → w ∷ [] ≡ next ++ behind → length next ≤ 1 → AreAsked (shelves t before now) (map (fetch_of false) next) → NotFetched (shelves t before now) (w ∷ []) OfMemory
    stopped t next behind parts at_most asked = ForMemory refl (record {
      before = [];
      next = next;
      behind = behind;
      parts = parts;
      fetched = tt {0};
      at_most = at_most;
      none_failed = record { asked = asked; count = count };
    })

    either : (now.fetched ≡ before.fetched ++ fetch_of false w ∷ []) ⊎ (now.fetched ≡ before.fetched) → NotFetched (shelves true before now) (w ∷ []) OfMemory
    either (inl e) = stopped true (w ∷ []) [] refl (omega arith) (λ t. e)
    either (inr e) = stopped true [] (w ∷ []) refl (omega arith) (λ t. e ∙ sym (append-nil before.fetched))

    go : (t : Bool) → MayTellFetch t w.name before now → NotFetched (shelves t before now) (w ∷ []) OfMemory
    go false m = stopped false [] (w ∷ []) refl (omega arith) (λ t. absurd (true≢false (sym t)))
    go true m = either (m refl)

not_failed : {A : Type 0} → IsTrue false → A
not_failed t = absurd (true≢false (sym t))

refused_as : (T : Type 0) (tells : Bool) (before now : Stock) (name : List ℕ) (limit : ℕ) (fault : ShelfFault) → (fault ≡ shelf_faults.Failed → ¬ IsTrue before.reliable) → FetchRefused tells name limit before now fault
    → FetchTold {T = T} tells name before now (Err fault) → NotFetched (shelves tells before now) (wanted name limit ∷ []) (of_shelf_fault name fault)
refused_as T tells before now name limit shelf_faults.Failed unreliable r asked = one_refused (shelves tells before now) (wanted name limit) true Read (λ t. unreliable refl) r asked
refused_as T tells before now name limit shelf_faults.Absent unreliable r asked = one_refused (shelves tells before now) (wanted name limit) false Read (λ t. not_failed t) r asked
refused_as T tells before now name limit (shelf_faults.TooLong at_least) unreliable r asked = one_refused (shelves tells before now) (wanted name limit) false TooLong (λ t. not_failed t) (
  record {
    told = λ t. let h = r.1 t in (h.0, h.1, omega (arith, r.0, h.2));
    not_told = λ t. rose_less (limit + 1) at_least before.counts.bytes_read now.counts.bytes_read (omega (arith, r.0)) (r.2 t);
  },
  r.3,
) asked
refused_as T tells before now name limit shelf_faults.NoMemory unreliable r asked = one_stopped tells before now (wanted name limit) r asked

-- a fetch that the shelf refuses
pub fetch_refused : {T : Type 0} (answer : Result T ShelfFault) (tells : Bool) (before now : Stock) (name : List ℕ) (limit : ℕ) (fault : ShelfFault) → answer ≡ Err fault
    → (IsErrOf answer shelf_faults.Failed → ¬ IsTrue before.reliable) → FetchRefused tells name limit before now fault → FetchTold tells name before now answer → NotFetched (shelves tells before now) (wanted name limit ∷ []) (of_shelf_fault name fault)
fetch_refused {T} answer tells before now name limit fault is unreliable r asked = refused_as T tells before now name limit fault (λ e. unreliable (is ∙ ap Err e)) r (subst (λ x. FetchTold tells name before now x) is asked)

-- the first file is refused, and so it is of more files
pub first_refused : (shelf : Shelves) (w : Wanted) (vs : List Wanted) (why : Why) → NotFetched shelf (w ∷ []) why → NotFetched shelf (w ∷ vs) why
first_refused shelf w vs why (AtFile r) = AtFile (record {
  before = r.before;
  last = r.last;
  behind = r.behind ++ vs;
  parts = ap (λ ws. ws ++ vs) r.parts ∙ append_assoc r.before (r.last ∷ r.behind) vs;
  fetched = r.fetched;
  failed = r.failed;
  unreliable = r.unreliable;
  asked = r.asked;
  fault = r.fault;
  cause = r.cause;
  named = r.named;
})
first_refused shelf w vs why (ForMemory e s) = ForMemory e (record {
  before = s.before;
  next = s.next;
  behind = s.behind ++ vs;
  parts = ap (λ ws. ws ++ vs) s.parts ∙ append_assoc s.before (s.next ++ s.behind) vs ∙ ap (λ ws. s.before ++ ws) (append_assoc s.next s.behind vs);
  fetched = s.fetched;
  at_most = s.at_most;
  none_failed = s.none_failed;
})

rose_later : (n a b c : ℕ) → a ≤ b → RoseBy n b c → RoseBy n a c
rose_later n a b c later rose = omega (arith, later, rose)

module _ (tells : Bool) (first between last : Stock) (same : Unchanged first.files between.files) (counts : AfterFetch first.counts between.counts) where
  pub fetched_before : (w : Wanted) (bytes : List ℕ) → IsFetched (shelves tells between last) w bytes → IsFetched (shelves tells first last) w bytes
  fetched_before w bytes f = record { told = λ t. sym (same w.name) ∙ f.told t; fits = f.fits }

  pub still_fetched : (ws : List Wanted) → AreFetched (shelves tells between last) ws → AreFetched (shelves tells first last) ws
  still_fetched [] t = tt {0}
  still_fetched (w ∷ ws) t = ((t.0.0, fetched_before w t.0.0 t.0.1), still_fetched ws t.1)

  still_asked : (w : Wanted) (fs : List Call) → AreAsked (shelves tells first between) (fetch_of false w ∷ []) → AreAsked (shelves tells between last) fs → AreAsked (shelves tells first last) (fetch_of false w ∷ fs)
  still_asked w fs one more = λ t. more t ∙ ap (λ names. names ++ fs) (one t) ∙ append_assoc first.fetched (fetch_of false w ∷ []) fs

  pub still_cause : NoFetchFailed first.counts between.counts → (w : Wanted) (failed : Bool) (fault : FileFault) → FetchCause (shelves tells between last) w failed fault → FetchCause (shelves tells first last) w failed fault
  still_cause none w true Read c = rose_later 1 first.counts.fetch_faults between.counts.fetch_faults last.counts.fetch_faults counts.fetch_faults c
  still_cause none w true TooLong c = absurd c
  still_cause none w true (Image why) c = absurd c
  still_cause none w true (Ports why) c = absurd c
  still_cause none w true (Sequence why) c = absurd c
  still_cause none w true (Certificate why) c = absurd c
  still_cause none w true (Assembly why) c = absurd c
  still_cause none w true (Script why) c = absurd c
  still_cause none w true OtherSource c = absurd c
  still_cause none w false Read c = (c.0, sym (same w.name) ∙ c.1, c.2 ∙ none)
  still_cause none w false TooLong long = (
    record {
      told = λ t. let l = long.0.told t in (l.0, sym (same w.name) ∙ l.1, l.2);
      not_told = λ t. rose_later (w.limit + 1) first.counts.bytes_read between.counts.bytes_read last.counts.bytes_read counts.bytes_read (long.0.not_told t);
    },
    long.1 ∙ none,
  )
  still_cause none w false (Image why) c = absurd c
  still_cause none w false (Ports why) c = absurd c
  still_cause none w false (Sequence why) c = absurd c
  still_cause none w false (Certificate why) c = absurd c
  still_cause none w false (Assembly why) c = absurd c
  still_cause none w false (Script why) c = absurd c
  still_cause none w false OtherSource c = absurd c

  -- a file is fetched, and then others are, or as many as there is memory for
  pub both_asked : (w : Wanted) (ws : List Wanted) → NoneFailed (shelves tells first between) (w ∷ []) → NoneFailed (shelves tells between last) ws → NoneFailed (shelves tells first last) (w ∷ ws)
  both_asked w ws one more = record { asked = still_asked w (map (fetch_of false) ws) one.asked more.asked; count = more.count ∙ one.count }

  -- behind a file that was fetched one of the others is refused
  pub second_refused : (w : Wanted) (vs : List Wanted) (why : Why) → ((bytes : List ℕ) × IsFetched (shelves tells first last) w bytes) → NoneFailed (shelves tells first between) (w ∷ [])
      → StaysReliable first between → NotFetched (shelves tells between last) vs why → NotFetched (shelves tells first last) (w ∷ vs) why
  second_refused w vs why fetched one stays (AtFile r) = AtFile (record {
    before = w ∷ r.before;
    last = r.last;
    behind = r.behind;
    parts = ap (λ ws. w ∷ ws) r.parts;
    fetched = (fetched, still_fetched r.before r.fetched);
    failed = r.failed;
    unreliable = λ failed reliable. r.unreliable failed (stays reliable).reliable;
    asked = still_asked w (map (fetch_of false) r.before ++ fetch_of r.failed r.last ∷ []) one.asked r.asked;
    fault = r.fault;
    cause = still_cause one.count r.last r.failed r.fault r.cause;
    named = r.named;
  })
  second_refused w vs why fetched one stays (ForMemory e s) = ForMemory e (record {
    before = w ∷ s.before;
    next = s.next;
    behind = s.behind;
    parts = ap (λ ws. w ∷ ws) s.parts;
    fetched = (fetched, still_fetched s.before s.fetched);
    at_most = s.at_most;
    none_failed = both_asked w (s.before ++ s.next) one s.none_failed;
  })
