-- What is told decides the status, where no call failed and memory was there.
use Rattle.std.proofs.Common.{◌≡◌, ◌≢◌, ◌∙◌, ◌++◌, ℕ, Bool, true, false, List, [], ◌∷◌, Option, Some, None, refl, sym, ap, subst, inl, inr, IsTrue}
use Rattle.std.specs.Prelude.{◌⊎◌, IsSome}
use Rattle.cc_shelf.specs.Counts.{FetchFailed, StoreFailed, Rose}
use Rattle.cc_words.specs.Asked.{Asked}
use Rattle.cc_answers.specs.Answers.{Answered}
use Rattle.cc_files.specs.cc_text.declared.refusal.FileFault.{FileFault}
use Rattle.cc_files.specs.cc_text.declared.refusal.FileFault.TheVariants.{Read, TooLong, Image, Ports, Sequence, Certificate, Assembly, Script, OtherSource}
use Rattle.cc_files.specs.cc_text.Refusals.{Why, file_status, refusal_status}
use Rattle.cc_files.specs.World.{Shelves, Sinks}
use Rattle.cc_files.specs.Puts.{PutsText, PutWhole, PutPart, PutNothing}
use Rattle.cc_files.specs.Fetches.{Wanted, AreFetched, FetchCause, NotFetched, AtFile, ForMemory}
use Rattle.cc_files.specs.Stores.{Stored}
use Rattle.cc_driver.specs.Commands.{files_of, stores_under, Comes, Rejects}
use Rattle.cc_driver.specs.Work.{WorkRefused, AtFetch, AtFiles, AtStore, AtMemory, AtStoreForMemory}
use Rattle.cc_driver.specs.Answers.{Answers, IsDone, IsRefused, NamesCause, Decided, IsWrong, ToFile, ToRefusal, IsUnfetchable, NoFile, LongFile}
use Rattle.cc_driver.proofs.StatusLemmas.{IsNamed, refused_status, refusal_said, refusal_not_two, put_not_named, put_not_two}
use Rattle.cc_driver.proofs.FileLemmas.{all_told, first_one}
use Rattle.cc_driver.proofs.CommandLemmas.{comes_told, refuses_told, comes_one, comes_not, refuses_one, comes_status, some_store}

-- an answer that no put failed at has its status
text_decides : (text : Option (List ℕ)) (ends : ℕ) (sink : Sinks) (status : ℕ) → PutsText text ends sink status → (IsSome text → ¬ Rose sink.before.faults sink.now.faults)
    → (status ≡ ends) ⊎ (status ≡ 5)
text_decides None ends sink status put whole = inl put.0
text_decides (Some text) ends sink status (PutWhole e calls same put) whole = inl e
text_decides (Some text) ends sink status (PutPart e calls failed part) whole = absurd (whole refl failed)
text_decides (Some text) ends sink status (PutNothing e calls line) whole = inr e

same_either : (a b s : ℕ) → a ≡ b → (b ≡ s) ⊎ (b ≡ 5) → (a ≡ s) ⊎ (a ≡ 5)
same_either a b s e (inl f) = inl (e ∙ f)
same_either a b s e (inr f) = inr (e ∙ f)

then_either : (a b s : ℕ) → (a ≡ b) ⊎ (a ≡ 5) → b ≡ s → (a ≡ s) ⊎ (a ≡ 5)
then_either a b s (inl e) f = inl (e ∙ f)
then_either a b s (inr e) f = inr e

module _ (what : Asked) (shelf : Shelves) (tells : IsTrue shelf.tells) where
  -- where files come to something, nothing is wrong with them
  nothing_wrong : (answer : Answered) (texts : List Stored) (s : ℕ) → Comes what shelf answer texts → IsWrong what shelf s → ⊥
  nothing_wrong answer texts s c (ToFile before w behind e told m) =
      all_told shelf tells before w behind s (subst (AreFetched shelf) e (comes_told what shelf answer texts c)) m
  nothing_wrong answer texts s c (ToRefusal why r e) = comes_not what shelf tells answer texts why c r

  -- what is refused is the first that is wrong
  refuses_first : (why : Why) (s : ℕ) → Rejects what shelf why → IsWrong what shelf s → refusal_status why ≡ s
  refuses_first why s r (ToFile before w behind e told m) =
      absurd (all_told shelf tells before w behind s (subst (AreFetched shelf) e (refuses_told what shelf why r)) m)
  refuses_first why s r (ToRefusal other q e) = refuses_one what shelf tells why other r q ∙ sym e

  -- and so is a file that is missing behind others that are told
  missing_first : (before : List Wanted) (w : Wanted) (behind : List Wanted) (a s : ℕ) → files_of what ≡ before ++ w ∷ behind → AreFetched shelf before → IsUnfetchable shelf.before.files w a
      → IsWrong what shelf s → a ≡ s
  missing_first before w behind a s e told m (ToFile front v back f also n) = first_one shelf tells before w behind front v back a s (sym e ∙ f) told also m n
  missing_first before w behind a s e told m (ToRefusal why r f) =
      absurd (all_told shelf tells before w behind a (subst (AreFetched shelf) e (refuses_told what shelf why r)) m)

  missing_comes : (before : List Wanted) (w : Wanted) (behind : List Wanted) (a : ℕ) (answer : Answered) (texts : List Stored) → files_of what ≡ before ++ w ∷ behind → IsUnfetchable shelf.before.files w a
      → Comes what shelf answer texts → ⊥
  missing_comes before w behind a answer texts e m c =
      all_told shelf tells before w behind a (subst (AreFetched shelf) e (comes_told what shelf answer texts c)) m

  module _ (none_failed : ¬ FetchFailed shelf.before.counts shelf.now.counts) where
    pub missing : (w : Wanted) (failed : Bool) (fault : FileFault) → FetchCause shelf w failed fault → IsUnfetchable shelf.before.files w (file_status fault)
    missing w true Read c = absurd (none_failed c)
    missing w true TooLong c = absurd c
    missing w true (Image why) c = absurd c
    missing w true (Ports why) c = absurd c
    missing w true (Sequence why) c = absurd c
    missing w true (Certificate why) c = absurd c
    missing w true (Assembly why) c = absurd c
    missing w true (Script why) c = absurd c
    missing w true OtherSource c = absurd c
    missing w false Read c = NoFile c.1 refl
    missing w false TooLong c = let l = c.0.told tells in LongFile l.0 l.1 l.2 refl
    missing w false (Image why) c = absurd c
    missing w false (Ports why) c = absurd c
    missing w false (Sequence why) c = absurd c
    missing w false (Certificate why) c = absurd c
    missing w false (Assembly why) c = absurd c
    missing w false (Script why) c = absurd c
    missing w false OtherSource c = absurd c

    -- a refusal has the status of the first thing that is wrong
    fetch_wrong : (why : Why) (s : ℕ) → NotFetched shelf (files_of what) why → IsWrong what shelf s → (refusal_status why ≡ s) ⊎ (refusal_status why ≡ 5)
    fetch_wrong why s (AtFile r) l =
        inl (ap refusal_status r.named ∙ missing_first r.before r.last r.behind (file_status r.fault) s r.parts r.fetched (missing r.last r.failed r.fault r.cause) l)
    fetch_wrong why s (ForMemory e stopped) l = inr (ap refusal_status e)

    work_wrong : (why : Why) (s : ℕ) → WorkRefused what shelf why → IsWrong what shelf s → (refusal_status why ≡ s) ⊎ (refusal_status why ≡ 5)
    work_wrong why s (AtFetch n kept) l = fetch_wrong why s n l
    work_wrong why s (AtFiles fetched r kept) l = inl (refuses_first why s r l)
    work_wrong why s (AtStore e r) l = absurd (nothing_wrong r.answer r.texts s r.comes l)
    work_wrong why s (AtMemory e asked fetched kept) l = inr (ap refusal_status e)
    work_wrong why s (AtStoreForMemory e r) l = inr (ap refusal_status e)

    -- where the files come to something, it's refused at its store alone
    fetch_right : (why : Why) (answer : Answered) (texts : List Stored) → NotFetched shelf (files_of what) why → Comes what shelf answer texts → refusal_status why ≡ 5
    fetch_right why answer texts (AtFile r) c =
        absurd (missing_comes r.before r.last r.behind (file_status r.fault) answer texts r.parts (missing r.last r.failed r.fault r.cause) c)
    fetch_right why answer texts (ForMemory e stopped) c = ap refusal_status e

    work_right : (why : Why) (answer : Answered) (texts : List Stored) → (stores_under what ≢ [] → ¬ StoreFailed shelf.before.counts shelf.now.counts) → WorkRefused what shelf why
        → Comes what shelf answer texts → refusal_status why ≡ 5
    work_right why answer texts store (AtFetch n kept) c = fetch_right why answer texts n c
    work_right why answer texts store (AtFiles fetched r kept) c = absurd (comes_not what shelf tells answer texts why c r)
    work_right why answer texts store (AtStore e r) c = absurd (store (some_store what shelf r.answer r.texts r.comes r.ends) r.ends.failed)
    work_right why answer texts store (AtMemory e asked fetched kept) c = ap refusal_status e
    work_right why answer texts store (AtStoreForMemory e r) c = ap refusal_status e

pub answers_decide : (what : Asked) (shelf : Shelves) (sink : Sinks) (status : ℕ) → Answers what shelf sink status → Decided what shelf sink status
answers_decide what shelf sink status (IsDone answer work put) = record {
  wrong = λ due tells none_failed l. absurd (nothing_wrong what shelf tells answer work.texts due work.comes l);
  right = λ other texts tells none_failed store whole c.
      let same = comes_one what shelf tells answer other work.texts texts work.comes c in
      then_either status answer.status other.status
      (text_decides answer.text answer.status sink status put (subst (λ a. IsSome a.text → ¬ Rose sink.before.faults sink.now.faults) (sym same) whole))
      (ap (λ a. a.status) same);
}
answers_decide what shelf sink status (IsRefused why work refused) = go (refused_status why sink status refused)
  where
    go : (status ≡ refusal_status why) ⊎ ((status ≡ 5) × (refusal_status why ≢ 4) × (refusal_status why ≢ 5)) → Decided what shelf sink status
    go (inl is) = record {
      wrong = λ due tells none_failed l. same_either status (refusal_status why) due is (work_wrong what shelf tells none_failed why due work l);
      right = λ other texts tells none_failed store whole c. inr (is ∙ work_right what shelf tells none_failed why other texts store work c);
    }
    go (inr want) = record {
      wrong = λ due tells none_failed l. inr want.0;
      right = λ other texts tells none_failed store whole c. inr want.0;
    }

-- at 1, 3 and 9 the line that names the cause came
pub cause_named : (what : Asked) (shelf : Shelves) (sink : Sinks) (status : ℕ) → Answers what shelf sink status → IsNamed status → NamesCause what shelf sink status
cause_named what shelf sink status (IsDone answer work put) named =
    absurd (put_not_named answer.text answer.status sink status (comes_status what shelf answer work.texts work.comes) put named)
cause_named what shelf sink status (IsRefused why work refused) named =
    let said = refusal_said why sink status refused named in
    record { why = why; refused = work; status_is = said.0; line = said.1 }

-- 2 is answered for no command
pub answers_not_two : (what : Asked) (shelf : Shelves) (sink : Sinks) (status : ℕ) → Answers what shelf sink status → status ≢ 2
answers_not_two what shelf sink status (IsDone answer work put) =
    put_not_two answer.text answer.status sink status (comes_status what shelf answer work.texts work.comes) put
answers_not_two what shelf sink status (IsRefused why work refused) = refusal_not_two why sink status refused
