-- Stores one behind another, and behind fetches.
use Rattle.std.proofs.Common.{inl, inr, ◌≡◌, ◌≢◌, ◌∙◌, ℕ, Bool, List, [], ◌∷◌, ◌++◌, Some, true, IsTrue, codes, refl, sym, ap, subst, length, append-nil, append_assoc, length-append, arith}
use Rattle.cc_shelf.specs.Counts.{Rose}
use Rattle.cc_shelf.specs.Stock.{Stock, Call}
use Rattle.cc_shelf.specs.Reliable.{StaysReliable}
use Rattle.cc_shelf.specs.Counts.{raised}
use Rattle.cc_files.specs.cc_text.Refusals.{Why}
use Rattle.cc_files.specs.World.{shelves}
use Rattle.cc_files.proofs.StoreLemmas.{both_reliable}
use Rattle.cc_driver.specs.Build.{certificate_name}
use Rattle.cc_driver.specs.Profile.{weighted_name}
use Rattle.cc_files.specs.Stores.{Stored, NothingStored, Hold, OnlyUnder, AreTried, AtMostOneWanted, AreStored, FailsAtOne, StopsBehind, StoreFails, StoreWants, StoreStopped, StoresStopped, names_of, stores_of, store_of}

-- the certificate has another name than its image
pub other_name : (image : List ℕ) → image ≢ certificate_name image
other_name image e =
    let four : length (codes ".crt") ≡ 4 = refl in
    omega (arith, ap length e, length-append image (codes ".crt"), four)

-- and so has that of weighted frames
pub other_weighted_name : (image : List ℕ) → image ≢ weighted_name image
other_weighted_name image e =
    let four : length (codes ".prf") ≡ 4 = refl in
    omega (arith, ap length e, length-append image (codes ".prf"), four)

-- nothing is stored
pub none_stored : (tells : Bool) (first last : Stock) → NothingStored (shelves tells first last) → AreStored [] (shelves tells first last)
none_stored tells first last kept = record {
  hold = tt {0};
  others = λ n other. kept.files n;
  faults = kept.faults;
  tried = λ t. kept.tried t ∙ sym (append-nil first.stored);
  wants = kept.wants;
  reliable = kept.reliable;
}

-- of texts of which none is stored the first one's store failed
fails_first : (tells : Bool) (before now : Stock) (one : Stored) (more : List Stored) → ((n : List ℕ) → n ≢ one.name → now.files n ≡ before.files n) → StoreFails one.name (shelves tells before now)
    → FailsAtOne (one ∷ more) (shelves tells before now)
fails_first tells before now one more others f = record {
  done = [];
  next = one;
  left = more;
  parts = refl;
  hold = tt {0};
  others = λ n other. others n other.0;
  failed = f.failed;
  tried = f.tried;
  wants = f.wants;
  unreliable = f.unreliable;
}

-- or it found no memory
wants_first : (tells : Bool) (before now : Stock) (one : Stored) (more : List Stored) → StoreWants (shelves tells before now) → StopsBehind (one ∷ more) (shelves tells before now)
wants_first tells before now one more w = record {
  done = [];
  left = one ∷ more;
  parts = refl;
  hold = tt {0};
  others = λ n other. w.files n;
  faults = w.faults;
  tried = λ t. w.tried t ∙ sym (append-nil before.stored);
  wants = inr ((λ e. cc), w.wants);
  reliable = w.reliable;
}

pub stopped_at_first : (tells : Bool) (before now : Stock) (one : Stored) (more : List Stored) → ((n : List ℕ) → n ≢ one.name → now.files n ≡ before.files n) → (why : Why)
    → StoreStopped one.name (shelves tells before now) why → StoresStopped (one ∷ more) (shelves tells before now) why
stopped_at_first tells before now one more others why (inl failed) = inl (failed.0, fails_first tells before now one more others failed.1)
stopped_at_first tells before now one more others why (inr wanting) = inr (wanting.0, wants_first tells before now one more wanting.1)

-- stores that follow stores
both_tried : (tells : Bool) (first middle last : Stock) (some others : List Call) → AreTried (shelves tells first middle) some → AreTried (shelves tells middle last) others
    → AreTried (shelves tells first last) (some ++ others)
both_tried tells first middle last some others one more t = more t ∙ ap (λ calls. calls ++ others) (one t) ∙ append_assoc first.stored some others

-- a first text is stored, which has another name than the second one
module _ (tells : Bool) (first middle last : Stock) (one two : Stored) (differ : one.name ≢ two.name) (is : AreStored (one ∷ []) (shelves tells first middle))
    (more : (n : List ℕ) → n ≢ two.name → last.files n ≡ middle.files n) where
  still_holds : IsTrue tells → last.files one.name ≡ Some one.text
  still_holds t = more one.name differ ∙ is.hold.0 t

  pub both_under : OnlyUnder (names_of (one ∷ two ∷ [])) (shelves tells first last)
  both_under n other = more n other.1.0 ∙ is.others n (other.0, tt {0})

  pub both_stored : AreStored (two ∷ []) (shelves tells middle last) → AreStored (one ∷ two ∷ []) (shelves tells first last)
  both_stored also = record {
    hold = (still_holds, also.hold);
    others = both_under;
    faults = also.faults ∙ is.faults;
    tried = both_tried tells first middle last (stores_of (one ∷ [])) (stores_of (two ∷ [])) is.tried also.tried;
    wants = also.wants ∙ is.wants;
    reliable = both_reliable first middle last is.reliable also.reliable;
  }

  second_fails : StoreFails two.name (shelves tells middle last) → FailsAtOne (one ∷ two ∷ []) (shelves tells first last)
  second_fails f = record {
    done = one ∷ [];
    next = two;
    left = [];
    parts = refl;
    hold = (still_holds, tt {0});
    others = both_under;
    failed = subst (λ n. Rose n last.counts.store_faults) is.faults f.failed;
    tried = both_tried tells first middle last (stores_of (one ∷ [])) (store_of true two ∷ []) is.tried f.tried;
    wants = f.wants ∙ is.wants;
    unreliable = λ reliable. f.unreliable (is.reliable reliable).reliable;
  }

  second_wants : StoreWants (shelves tells middle last) → StopsBehind (one ∷ two ∷ []) (shelves tells first last)
  second_wants w = record {
    done = one ∷ [];
    left = two ∷ [];
    parts = refl;
    hold = ((λ t. w.files one.name ∙ is.hold.0 t), tt {0});
    others = λ n other. w.files n ∙ is.others n other;
    faults = w.faults ∙ is.faults;
    tried = λ t. w.tried t ∙ is.tried t;
    wants = inr ((λ e. cc), w.wants ∙ ap (λ n. raised n 1) is.wants);
    reliable = both_reliable first middle last is.reliable w.reliable;
  }

  pub second_stopped : (why : Why) → StoreStopped two.name (shelves tells middle last) why → StoresStopped (one ∷ two ∷ []) (shelves tells first last) why
  second_stopped why (inl failed) = inl (failed.0, second_fails failed.1)
  second_stopped why (inr wanting) = inr (wanting.0, second_wants wanting.1)

-- behind calls that stored nothing
module _ (tells : Bool) (first between last : Stock) (kept : NothingStored (shelves tells first between)) where
  still_hold : (texts : List Stored) → Hold (shelves tells between last) texts → Hold (shelves tells first last) texts
  still_hold [] h = tt {0}
  still_hold (t ∷ ts) h = (h.0, still_hold ts h.1)

  pub still_under : (names : List (List ℕ)) → OnlyUnder names (shelves tells between last) → OnlyUnder names (shelves tells first last)
  still_under names others = λ n other. others n other ∙ kept.files n

  still_tried : (calls : List Call) → AreTried (shelves tells between last) calls → AreTried (shelves tells first last) calls
  still_tried calls tried t = tried t ∙ ap (λ before. before ++ calls) (kept.tried t)

  still_reliable : StaysReliable between last → StaysReliable first last
  still_reliable more = both_reliable first between last kept.reliable more

  pub still_stored : (texts : List Stored) → AreStored texts (shelves tells between last) → AreStored texts (shelves tells first last)
  still_stored texts are = record {
    hold = still_hold texts are.hold;
    others = still_under (names_of texts) are.others;
    faults = are.faults ∙ kept.faults;
    tried = still_tried (stores_of texts) are.tried;
    wants = are.wants ∙ kept.wants;
    reliable = still_reliable are.reliable;
  }

  pub still_fails : (texts : List Stored) → FailsAtOne texts (shelves tells between last) → FailsAtOne texts (shelves tells first last)
  still_fails texts h = record {
    done = h.done;
    next = h.next;
    left = h.left;
    parts = h.parts;
    hold = still_hold h.done h.hold;
    others = still_under (names_of (h.done ++ h.next ∷ [])) h.others;
    failed = subst (λ n. Rose n last.counts.store_faults) kept.faults h.failed;
    tried = still_tried (stores_of h.done ++ store_of true h.next ∷ []) h.tried;
    wants = h.wants ∙ kept.wants;
    unreliable = λ reliable. h.unreliable (kept.reliable reliable).reliable;
  }

  still_wanted : (left : List Stored) → AtMostOneWanted left (shelves tells between last) → AtMostOneWanted left (shelves tells first last)
  still_wanted left (inl none) = inl (none ∙ kept.wants)
  still_wanted left (inr one) = inr (one.0, one.1 ∙ ap (λ n. raised n 1) kept.wants)

  pub still_stops : (texts : List Stored) → StopsBehind texts (shelves tells between last) → StopsBehind texts (shelves tells first last)
  still_stops texts h = record {
    done = h.done;
    left = h.left;
    parts = h.parts;
    hold = still_hold h.done h.hold;
    others = still_under (names_of h.done) h.others;
    faults = h.faults ∙ kept.faults;
    tried = still_tried (stores_of h.done) h.tried;
    wants = still_wanted h.left h.wants;
    reliable = still_reliable h.reliable;
  }
