-- What a command leaves, by what its work leaves.
use Rattle.std.proofs.Common.{inl, inr, ◌≡◌, ◌≢◌, ◌∙◌, ℕ, List, [], ◌∷◌, Option, Some, None, refl, sym, ap, append-nil, Ok, Err, arith}
use Rattle.std.specs.Prelude.{◌⊎◌}
use Rattle.cc_shelf.specs.ShelfAnswers.{StoresFoundMemory}
use Rattle.cc_shelf.specs.Reliable.{StaysReliable}
use Rattle.cc_words.specs.Asked.{Asked}
use Rattle.cc_answers.specs.declared.answer.Answer.{Answer}
use Rattle.cc_files.specs.cc_text.declared.refusal.Refusal.{Refusal}
use Rattle.cc_answers.specs.Answers.{Answered, answered}
use Rattle.cc_files.specs.cc_text.Refusals.{Why, why_of, refusal_status}
use Rattle.cc_files.specs.World.{Shelves, Sinks}
use Rattle.cc_files.specs.Puts.{AnswerPut, PutsText, Refused, PutWhole, PutPart, PutNothing}
use Rattle.cc_files.specs.Stores.{NothingStored}
use Rattle.cc_driver.specs.Commands.{stores_under}
use Rattle.cc_driver.specs.Work.{WorkDone, WorkRefused, WorkLeaves, StoresStop, AtFetch, AtFiles, AtStore, AtMemory, AtStoreForMemory}
use Rattle.cc_driver.specs.Answers.{Leaves}
use Rattle.cc_driver.proofs.StatusLemmas.{refused_status}

-- a refusal but that of a store and that for want of memory stores nothing
nothing_stored : (what : Asked) (shelf : Shelves) (why : Why) → WorkRefused what shelf why → refusal_status why ≢ 4 → refusal_status why ≢ 5 → NothingStored shelf
nothing_stored what shelf why (AtFetch n kept) other another = kept
nothing_stored what shelf why (AtFiles asked r kept) other another = kept
nothing_stored what shelf why (AtStore e r) other another = absurd (other (ap refusal_status e))
nothing_stored what shelf why (AtMemory e asked fetched kept) other another = kept
nothing_stored what shelf why (AtStoreForMemory e r) other another = absurd (another (ap refusal_status e))

-- but for that of a store, what is stored is some first ones of the texts, or nothing
some_stored : (what : Asked) (shelf : Shelves) (why : Why) → WorkRefused what shelf why → refusal_status why ≢ 4 → NothingStored shelf ⊎ StoresStop what shelf
some_stored what shelf why (AtFetch n kept) other = inl kept
some_stored what shelf why (AtFiles asked r kept) other = inl kept
some_stored what shelf why (AtStore e r) other = absurd (other (ap refusal_status e))
some_stored what shelf why (AtMemory e asked fetched kept) other = inl kept
some_stored what shelf why (AtStoreForMemory e r) other = inr r

-- the store that failed and those before it found memory
found_memory : (what : Asked) (shelf : Shelves) (why : Why) → WorkRefused what shelf why → refusal_status why ≢ 5 → StoresFoundMemory shelf.before.counts shelf.now.counts
found_memory what shelf why (AtFetch n kept) other = kept.wants
found_memory what shelf why (AtFiles asked r kept) other = kept.wants
found_memory what shelf why (AtStore e r) other = r.ends.wants
found_memory what shelf why (AtMemory e asked fetched kept) other = kept.wants
found_memory what shelf why (AtStoreForMemory e r) other = absurd (other (ap refusal_status e))

same_faults : (what : Asked) (shelf : Shelves) → NothingStored shelf ⊎ StoresStop what shelf → shelf.now.counts.store_faults ≡ shelf.before.counts.store_faults
same_faults what shelf (inl kept) = kept.faults
same_faults what shelf (inr stop) = stop.ends.faults

not_four : (status : ℕ) → status ≡ 5 → status ≢ 4
not_four status e f = omega (arith, e, f)

module _ (what : Asked) (shelf : Shelves) (refusal : Refusal) (status : ℕ) (left : WorkLeaves what shelf (Err refusal)) (work : WorkRefused what shelf (why_of refusal)) where
  -- the refusal's own status is answered
  same_status : status ≡ refusal_status (why_of refusal) → Leaves what shelf status
  same_status e = record {
    others = left.others;
    kept = λ done stored wanting. nothing_stored what shelf (why_of refusal) work (λ f. stored (e ∙ f)) (λ f. wanting (e ∙ f));
    wanting = λ five. some_stored what shelf (why_of refusal) work (λ f. not_four status five (e ∙ f));
    faults = λ stored. same_faults what shelf (some_stored what shelf (why_of refusal) work (λ f. stored (e ∙ f)));
    memory = λ wanting. found_memory what shelf (why_of refusal) work (λ f. wanting (e ∙ f));
    no_store = left.no_store;
  }

  -- or that of want of memory, where nothing is stored
  wanting_status : status ≡ 5 → NothingStored shelf → Leaves what shelf status
  wanting_status five kept = record {
    others = left.others;
    kept = λ done stored wanting. kept;
    wanting = λ e. inl kept;
    faults = λ stored. kept.faults;
    memory = λ wanting. kept.wants;
    no_store = left.no_store;
  }

  pub refused_leaves : (sink : Sinks) → Refused (why_of refusal) sink status → Leaves what shelf status
  refused_leaves sink refused = go (refused_status (why_of refusal) sink status refused)
    where
      go : (status ≡ refusal_status (why_of refusal)) ⊎ ((status ≡ 5) × (refusal_status (why_of refusal) ≢ 4) × (refusal_status (why_of refusal) ≢ 5)) → Leaves what shelf status
      go (inl e) = same_status e
      go (inr e) = wanting_status e.0 (nothing_stored what shelf (why_of refusal) work e.1 e.2)

module _ (what : Asked) (shelf : Shelves) (answer : Answer) (sink : Sinks) (status : ℕ) (left : WorkLeaves what shelf (Ok answer)) where
  -- the status of an answer that is put, or that of its put
  put_status : (a : Answered) → AnswerPut a sink status → (status ≡ a.status) ⊎ ((status ≡ 4) ⊎ (status ≡ 5))
  put_status a put = go a.text put
    where
      go : (text : Option (List ℕ)) → PutsText text a.status sink status → (status ≡ a.status) ⊎ ((status ≡ 4) ⊎ (status ≡ 5))
      go None put = inl put.0
      go (Some text) (PutWhole e calls same put) = inl e
      go (Some text) (PutPart e calls failed part) = inr (inl e)
      go (Some text) (PutNothing e calls line) = inr (inr e)

  -- a command that stores and is done ends with 0, unless its put fails
  kept_where : (names : List (List ℕ)) → stores_under what ≡ names → AnswerPut (answered answer) sink status → status ≢ 0 → status ≢ 4 → status ≢ 5 → NothingStored shelf
  kept_where [] e put zero four five = left.no_store e
  kept_where (name ∷ names) e put zero four five = absurd (go (put_status (answered answer) put))
    where
      some : stores_under what ≢ []
      some none = let k : name ∷ names ≡ [] = sym e ∙ none in cc

      go : (status ≡ (answered answer).status) ⊎ ((status ≡ 4) ⊎ (status ≡ 5)) → ⊥
      go (inl is) = zero (is ∙ left.ends some)
      go (inr (inl is)) = four is
      go (inr (inr is)) = five is

  pub done_leaves : WorkDone what shelf (answered answer) → AnswerPut (answered answer) sink status → Leaves what shelf status
  done_leaves work put = record {
    others = left.others;
    kept = λ zero four five. kept_where (stores_under what) refl put zero four five;
    wanting = λ five. inr (record {
      fetched = work.fetched;
      answer = answered answer;
      texts = work.texts;
      comes = work.comes;
      ends = record {
        done = work.texts;
        left = [];
        parts = sym (append-nil work.texts);
        hold = work.stored.hold;
        others = work.stored.others;
        faults = work.stored.faults;
        tried = work.stored.tried;
        wants = inl work.stored.wants;
        reliable = work.stored.reliable;
      };
    });
    faults = λ e. work.stored.faults;
    memory = λ e. work.stored.wants;
    no_store = left.no_store;
  }

-- the work of a command on a reliable shelf: a store that fails is none of it
pub refused_reliable : (what : Asked) (shelf : Shelves) (why : Why) → WorkRefused what shelf why → StaysReliable shelf.before shelf.now
refused_reliable what shelf why (AtFetch n kept) = kept.reliable
refused_reliable what shelf why (AtFiles asked r kept) = kept.reliable
refused_reliable what shelf why (AtStore e r) = λ reliable. absurd (r.ends.unreliable reliable)
refused_reliable what shelf why (AtMemory e asked fetched kept) = kept.reliable
refused_reliable what shelf why (AtStoreForMemory e r) = r.ends.reliable
