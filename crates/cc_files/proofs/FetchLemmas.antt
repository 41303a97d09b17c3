-- Fetches of the files of a list, one behind another.
use Rattle.std.proofs.Common.{◌≡◌, ◌∙◌, ◌<◌, ◌≤◌, ◌++◌, ◌+◌, ℕ, zero, suc, Bool, List, [], ◌∷◌, length, map, take, drop, refl, sym, ap, subst, arith, append_assoc, append-nil, false, get_or}
use Rattle.std.proofs.lemmas.List.{map-append, take-append-drop}
use Rattle.std.proofs.Math.Seq.{drop-cons, take-suc}
use Rattle.std.specs.Borrow.{Bor}
use Rattle.std.specs.Prelude.{All, IsTrue, Vec, unwrap_or}
use Rattle.std.specs.declared.alloc.Global.{Global}
use Rattle.cc_files.specs.Wants.{of_names, contents_of}
use Rattle.cc_shelf.specs.Stock.{Stock, Call}
use Rattle.cc_shelf.specs.ShelfAnswers.{AfterFetch}
use Rattle.cc_text.specs.Refusals.{Why, OfMemory}
use Rattle.cc_files.specs.World.{Shelves, shelves}
use Rattle.cc_files.specs.Fetches.{Wanted, wanted, fetch_of, IsFetched, AreFetched, AllFetched, AreAsked, NoneFailed, NotFetched, AtFile, ForMemory}
use Rattle.cc_files.specs.Stores.{NothingStored}
use Rattle.cc_files.proofs.StoreLemmas.{nothing_yet, nothing_both}
use Rattle.cc_files.proofs.ShelfLemmas.{first_refused, fetched_before, still_fetched, still_cause}

-- the first files of a list were fetched
pub record SoFar (shelf : Shelves) (ws : List Wanted) (contents : List (List ℕ)) : Type 0 where
  pub fetched : AllFetched shelf ws contents
  pub none_failed : NoneFailed shelf ws
  pub stored : NothingStored shelf
  pub counts : AfterFetch shelf.before.counts shelf.now.counts

pub none_so_far : (tells : Bool) (stock : Stock) → SoFar (shelves tells stock stock) [] []
none_so_far tells stock = record {
  fetched = tt {0};
  none_failed = record { asked = λ t. sym (append-nil stock.fetched); count = refl };
  stored = nothing_yet tells stock;
  counts = record { fetch_faults = omega arith; store_faults = refl; store_wants = refl; bytes_read = omega arith };
}

-- what is fetched has bytes
pub with_bytes : (shelf : Shelves) (ws : List Wanted) (contents : List (List ℕ)) → AllFetched shelf ws contents → AreFetched shelf ws
with_bytes shelf [] [] all = tt {0}
with_bytes shelf [] (bytes ∷ contents) all = absurd all
with_bytes shelf (w ∷ ws) [] all = absurd all
with_bytes shelf (w ∷ ws) (bytes ∷ contents) all = ((bytes, all.0), with_bytes shelf ws contents all.1)

both_fetched : (shelf : Shelves) (ws vs : List Wanted) → AreFetched shelf ws → AreFetched shelf vs → AreFetched shelf (ws ++ vs)
both_fetched shelf [] vs one more = more
both_fetched shelf (w ∷ ws) vs one more = (one.0, both_fetched shelf ws vs one.1 more)

-- memory was wanting behind the fetches
stopped_behind : (shelf : Shelves) (ws vs : List Wanted) (contents : List (List ℕ)) → SoFar shelf ws contents → NotFetched shelf (ws ++ vs) OfMemory
stopped_behind shelf ws vs contents so_far = ForMemory refl (record {
  before = ws;
  next = [];
  behind = vs;
  parts = refl;
  fetched = with_bytes shelf ws contents so_far.fetched;
  at_most = omega arith;
  none_failed = subst (NoneFailed shelf) (sym (append-nil ws)) so_far.none_failed;
})

module _ (tells : Bool) (first between last : Stock) where
  pub fetched_still : (ws : List Wanted) (contents : List (List ℕ)) → AllFetched (shelves tells first between) ws contents → AllFetched (shelves tells first last) ws contents
  fetched_still [] [] all = all
  fetched_still [] (bytes ∷ contents) all = absurd all
  fetched_still (w ∷ ws) [] all = absurd all
  fetched_still (w ∷ ws) (bytes ∷ contents) all = (record { told = all.0.told; fits = all.0.fits }, fetched_still ws contents all.1)

  one_more_fetched : (ws : List Wanted) (contents : List (List ℕ)) (w : Wanted) (bytes : List ℕ) → AllFetched (shelves tells first last) ws contents → IsFetched (shelves tells first last) w bytes
      → AllFetched (shelves tells first last) (ws ++ w ∷ []) (contents ++ bytes ∷ [])
  one_more_fetched [] [] w bytes all one = (one, tt {0})
  one_more_fetched [] (more ∷ contents) w bytes all one = absurd all
  one_more_fetched (v ∷ ws) [] w bytes all one = absurd all
  one_more_fetched (v ∷ ws) (more ∷ contents) w bytes all one = (all.0, one_more_fetched ws contents w bytes all.1 one)

  module _ (ws : List Wanted) (contents : List (List ℕ)) (so_far : SoFar (shelves tells first between) ws contents) where
    names_asked : (fs : List Call) → AreAsked (shelves tells between last) fs → AreAsked (shelves tells first last) (map (fetch_of false) ws ++ fs)
    names_asked fs more t = more t ∙ ap (λ names. names ++ fs) (so_far.none_failed.asked t) ∙ append_assoc first.fetched (map (fetch_of false) ws) fs

    all_asked : (vs : List Wanted) → NoneFailed (shelves tells between last) vs → NoneFailed (shelves tells first last) (ws ++ vs)
    all_asked vs more = record {
      asked = subst (AreAsked (shelves tells first last)) (sym (map-append (fetch_of false) ws vs)) (names_asked (map (fetch_of false) vs) more.asked);
      count = more.count ∙ so_far.none_failed.count;
    }

    fetched_by_now : AreFetched (shelves tells first last) ws
    fetched_by_now = with_bytes (shelves tells first last) ws contents (fetched_still ws contents so_far.fetched)

    -- one more file was fetched
    one_more : (w : Wanted) (bytes : List ℕ) → IsFetched (shelves tells between last) w bytes → NoneFailed (shelves tells between last) (w ∷ []) → NothingStored (shelves tells between last)
        → AfterFetch between.counts last.counts → SoFar (shelves tells first last) (ws ++ w ∷ []) (contents ++ bytes ∷ [])
    one_more w bytes one asked stored counts = record {
      fetched = one_more_fetched ws contents w bytes (fetched_still ws contents so_far.fetched) (fetched_before tells first between last so_far.stored.files so_far.counts w bytes one);
      none_failed = all_asked (w ∷ []) asked;
      stored = nothing_both tells first between last so_far.stored stored;
      counts = record {
        fetch_faults = omega (arith, counts.fetch_faults, so_far.counts.fetch_faults);
        store_faults = counts.store_faults ∙ so_far.counts.store_faults;
        store_wants = counts.store_wants ∙ so_far.counts.store_wants;
        bytes_read = omega (arith, counts.bytes_read, so_far.counts.bytes_read);
      };
    }

    -- one of the files behind is refused
    later_refused : (vs : List Wanted) (why : Why) → NotFetched (shelves tells between last) vs why → NotFetched (shelves tells first last) (ws ++ vs) why
    later_refused vs why (AtFile r) = AtFile (record {
      before = ws ++ r.before;
      last = r.last;
      behind = r.behind;
      parts = ap (λ more. ws ++ more) r.parts ∙ sym (append_assoc ws r.before (r.last ∷ r.behind));
      fetched = both_fetched (shelves tells first last) ws r.before fetched_by_now (still_fetched tells first between last so_far.stored.files so_far.counts r.before r.fetched);
      failed = r.failed;
      unreliable = λ failed reliable. r.unreliable failed (so_far.stored.reliable reliable).reliable;
      asked = subst (AreAsked (shelves tells first last))
          (sym (append_assoc (map (fetch_of false) ws) (map (fetch_of false) r.before) (fetch_of r.failed r.last ∷ []))
          ∙ ap (λ names. names ++ fetch_of r.failed r.last ∷ []) (sym (map-append (fetch_of false) ws r.before)))
          (names_asked (map (fetch_of false) r.before ++ fetch_of r.failed r.last ∷ []) r.asked);
      fault = r.fault;
      cause = still_cause tells first between last so_far.stored.files so_far.counts so_far.none_failed.count r.last r.failed r.fault r.cause;
      named = r.named;
    })
    later_refused vs why (ForMemory e s) = ForMemory e (record {
      before = ws ++ s.before;
      next = s.next;
      behind = s.behind;
      parts = ap (λ more. ws ++ more) s.parts ∙ sym (append_assoc ws s.before (s.next ++ s.behind));
      fetched = both_fetched (shelves tells first last) ws s.before fetched_by_now (still_fetched tells first between last so_far.stored.files so_far.counts s.before s.fetched);
      at_most = s.at_most;
      none_failed = subst (NoneFailed (shelves tells first last)) (sym (append_assoc ws s.before s.next)) (all_asked (s.before ++ s.next) s.none_failed);
    })

    -- the next one is refused
    next_refused : (w : Wanted) (vs : List Wanted) (why : Why) → NotFetched (shelves tells between last) (w ∷ []) why → NotFetched (shelves tells first last) (ws ++ w ∷ vs) why
    next_refused w vs why r = later_refused (w ∷ vs) why (first_refused (shelves tells between last) w vs why r)

-- files by their names: those before a name, its own and those behind it
names_parted : (names : List (Bor (List ℕ))) (limit i : ℕ) (d : Bor (List ℕ)) → i < length names
    → of_names names limit ≡ of_names (take i names) limit ++ wanted (get_or names i d).now limit ∷ of_names (drop (suc i) names) limit
names_parted names limit i d lt =
    ap (λ all. of_names all limit) (sym (take-append-drop i names) ∙ ap (λ rest. take i names ++ rest) (drop-cons names i d lt))
    ∙ map-append (λ name. wanted name.now limit) (take i names) (get_or names i d ∷ drop (suc i) names)

one_more_name : (names : List (Bor (List ℕ))) (limit i : ℕ) (d : Bor (List ℕ)) → i < length names
    → of_names (take i names) limit ++ wanted (get_or names i d).now limit ∷ [] ≡ of_names (take (i + 1) names) limit
one_more_name names limit i d lt =
    let next : suc i ≡ i + 1 = omega arith in
    sym (map-append (λ name. wanted name.now limit) (take i names) (get_or names i d ∷ []))
    ∙ ap (λ all. of_names all limit) (sym (take-suc names i d lt) ∙ ap (λ n. take n names) next)

module _ (tells : Bool) (first between last : Stock) (names : List (Bor (List ℕ))) (limit i : ℕ) (d : Bor (List ℕ)) (lt : i < length names) where
  -- that of one more name was, and its bytes are kept
  pub one_more_file : (files : List (Vec ℕ Global)) (bytes : Vec ℕ Global) → SoFar (shelves tells first between) (of_names (take i names) limit) (contents_of files)
      → IsFetched (shelves tells between last) (wanted (get_or names i d).now limit) bytes.items → NoneFailed (shelves tells between last) (wanted (get_or names i d).now limit ∷ [])
      → NothingStored (shelves tells between last) → AfterFetch between.counts last.counts
      → SoFar (shelves tells first last) (of_names (take (i + 1) names) limit) (contents_of (files ++ bytes ∷ []))
  one_more_file files bytes so_far one asked stored counts =
      subst (λ ws. SoFar (shelves tells first last) ws (contents_of (files ++ bytes ∷ []))) (one_more_name names limit i d lt)
      (subst (SoFar (shelves tells first last) (of_names (take i names) limit ++ wanted (get_or names i d).now limit ∷ [])) (sym (map-append (λ (file : Vec ℕ Global). file.items) files (bytes ∷ [])))
      (one_more tells first between last (of_names (take i names) limit) (contents_of files) so_far (wanted (get_or names i d).now limit) bytes.items one asked stored counts))

  -- it is refused
  pub next_name_refused : (contents : List (List ℕ)) (why : Why) → SoFar (shelves tells first between) (of_names (take i names) limit) contents
      → NotFetched (shelves tells between last) (wanted (get_or names i d).now limit ∷ []) why → NotFetched (shelves tells first last) (of_names names limit) why
  next_name_refused contents why so_far r = subst (λ ws. NotFetched (shelves tells first last) ws why) (sym (names_parted names limit i d lt))
      (next_refused tells first between last (of_names (take i names) limit) contents so_far (wanted (get_or names i d).now limit) (of_names (drop (suc i) names) limit) why r)

  -- its bytes find no memory
  pub next_name_stopped : (contents : List (List ℕ)) → SoFar (shelves tells first last) (of_names (take (i + 1) names) limit) contents → NotFetched (shelves tells first last) (of_names names limit) OfMemory
  next_name_stopped contents so_far = subst (λ ws. NotFetched (shelves tells first last) ws OfMemory) parted
      (stopped_behind (shelves tells first last) (of_names (take (i + 1) names) limit) (of_names (drop (i + 1) names) limit) contents so_far)
    where
      parted : of_names (take (i + 1) names) limit ++ of_names (drop (i + 1) names) limit ≡ of_names names limit
      parted = sym (map-append (λ name. wanted name.now limit) (take (i + 1) names) (drop (i + 1) names)) ∙ ap (λ all. of_names all limit) (take-append-drop (i + 1) names)

-- as many files as names, each within the limit
pub as_many_fetched : (shelf : Shelves) (names : List (Bor (List ℕ))) (limit : ℕ) (files : List (Vec ℕ Global)) → AllFetched shelf (of_names names limit) (contents_of files) → length files ≡ length names
as_many_fetched shelf [] limit [] all = refl
as_many_fetched shelf [] limit (file ∷ files) all = absurd all
as_many_fetched shelf (name ∷ names) limit [] all = absurd all
as_many_fetched shelf (name ∷ names) limit (file ∷ files) all = ap suc (as_many_fetched shelf names limit files all.1)

pub each_fits : (shelf : Shelves) (names : List (Bor (List ℕ))) (limit : ℕ) (files : List (Vec ℕ Global)) → AllFetched shelf (of_names names limit) (contents_of files)
    → All (λ file. length file.items ≤ limit) files
each_fits shelf names limit [] all k d lt = absurd (omega (arith, lt))
each_fits shelf [] limit (file ∷ files) all k d lt = absurd all
each_fits shelf (name ∷ names) limit (file ∷ files) all zero d lt = all.0.fits
each_fits shelf (name ∷ names) limit (file ∷ files) all (suc k) d lt = each_fits shelf names limit files all.1 k d (omega (arith, lt))

-- files by the texts of their names
pub names_as_texts : (names : List (Bor (List ℕ))) (limit : ℕ) → map (λ name. wanted name limit) (map (λ name. name.now) names) ≡ of_names names limit
names_as_texts [] limit = refl
names_as_texts (name ∷ names) limit = ap (λ ws. wanted name.now limit ∷ ws) (names_as_texts names limit)

-- what is told of files are the same bytes
pub same_contents : (shelf : Shelves) → IsTrue shelf.tells → (ws : List Wanted) (a b : List (List ℕ)) → AllFetched shelf ws a → AllFetched shelf ws b → a ≡ b
same_contents shelf tells [] [] [] f g = refl
same_contents shelf tells [] (x ∷ a) b f g = absurd f
same_contents shelf tells [] [] (y ∷ b) f g = absurd g
same_contents shelf tells (w ∷ ws) [] b f g = absurd f
same_contents shelf tells (w ∷ ws) (x ∷ a) [] f g = absurd g
same_contents shelf tells (w ∷ ws) (x ∷ a) (y ∷ b) f g =
    let here : x ≡ y = ap (λ o. unwrap_or o x) (sym (f.0.told tells) ∙ g.0.told tells) in
    ap (λ bytes. bytes ∷ a) here ∙ ap (λ contents. y ∷ contents) (same_contents shelf tells ws a b f.1 g.1)
