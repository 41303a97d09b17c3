-- On what a list of files holds.
use Rattle.std.proofs.Common.{◌≡◌, ◌≢◌, ◌<◌, ◌+◌, suc, ℕ, Bool, List, [], ◌∷◌, ◌++◌, length, get_or, set, take, drop, Option, Some, None, refl, sym, ap, ◌∙◌, subst, true, false, cond, arith, length-append, drop-cons, zero, ⊎_elim}
use Rattle.std.specs.List.{AllPairs}
use Rattle.std.proofs.lemmas.Bool.{cases_lt}
use Rattle.std.proofs.lemmas.List.{append-nil, take_more, take-append-drop, length-take-le, map-append, length-map}
use Rattle.std.proofs.Math.ListN.{get_or-append}
use Rattle.std.proofs.Math.Seq.{get_or-append_seam, set-append_seam, map-set_same}
use Rattle.std.specs.Str.{bytes_eq}
use Rattle.std.proofs.lemmas.Slice.Eq.{bytes_eq-Decides}
use Rattle.cc_memory.specs.Held.{held, FirstAt, names_of, NamesDiffer}
use Rattle.cc_memory.specs.declared.mem_shelf.MemFile.{MemFile}

chosen_none : {A : Type 0} (b : Bool) (x : A) (y : Option A) → cond b (Some x) y ≡ None → (b ≡ false) × (y ≡ None)
chosen_none true x y h = cc
chosen_none false x y h = (refl, h)

not_true : (b : Bool) → (b ≡ true → ⊥) → b ≡ false
not_true true h = absurd (h refl)
not_true false h = refl

pub same_name : (f : MemFile) (fs : List MemFile) (n : List ℕ) → f.name ≡ n → held (f ∷ fs) n ≡ Some f.bytes.items
same_name f fs n e = ap (λ b. cond b (Some f.bytes.items) (held fs n)) ((bytes_eq-Decides f.name n).1 e)

pub other_name : (f : MemFile) (fs : List MemFile) (n : List ℕ) → f.name ≢ n → held (f ∷ fs) n ≡ held fs n
other_name f fs n ne =
    ap (λ b. cond b (Some f.bytes.items) (held fs n)) (not_true (bytes_eq f.name n) (λ e. ne ((bytes_eq-Decides f.name n).0 e)))

pub past_none : (front rest : List MemFile) (n : List ℕ) → held front n ≡ None → held (front ++ rest) n ≡ held rest n
past_none [] rest n h = refl
past_none (f ∷ front) rest n h =
    let c = chosen_none (bytes_eq f.name n) f.bytes.items (held front n) h in
    ap (λ b. cond b (Some f.bytes.items) (held (front ++ rest) n)) c.0 ∙ past_none front rest n c.1

pub same_past : (front a b : List MemFile) (n : List ℕ) → held a n ≡ held b n → held (front ++ a) n ≡ held (front ++ b) n
same_past [] a b n h = h
same_past (f ∷ front) a b n h = ap (λ o. cond (bytes_eq f.name n) (Some f.bytes.items) o) (same_past front a b n h)

pub held_more : (files : List MemFile) (i : ℕ) (f : MemFile) (n : List ℕ) → i < length files → f ≡ get_or files i f → held (take i files) n ≡ None → bytes_eq f.name n ≡ false → held (take (i + 1) files) n ≡ None
held_more files i f n lt is none differs =
    ap (λ l. held l n) (take_more files i f lt ∙ ap (λ x. take i files ++ x ∷ []) (sym is))
    ∙ past_none (take i files) (f ∷ []) n none
    ∙ ap (λ b. cond b (Some f.bytes.items) None) differs

pub first_at : (files : List MemFile) (i : ℕ) (f : MemFile) (n : List ℕ) → i < length files → f ≡ get_or files i f → held (take i files) n ≡ None → bytes_eq f.name n ≡ true → FirstAt files n i
first_at files i f n lt is none same = record {
  front = take i files;
  file = f;
  back = drop (suc i) files;
  parts = sym (take-append-drop i files) ∙ ap (λ l. take i files ++ l) (drop-cons files i f lt ∙ ap (λ x. x ∷ drop (suc i) files) (sym is));
  at = sym (length-take-le i files (omega arith));
  none_before = none;
  named = (bytes_eq-Decides f.name n).0 same;
}

pub first_within : (files : List MemFile) (n : List ℕ) (i : ℕ) → FirstAt files n i → i < length files
first_within files n i a = omega (arith, ap length a.parts, length-append a.front (a.file ∷ a.back), a.at)

module _ (files : List MemFile) (n : List ℕ) (i : ℕ) (a : FirstAt files n i) where
  pub first_get : (d : MemFile) → get_or files i d ≡ a.file
  first_get d = ap (λ l. get_or l i d) a.parts ∙ ap (λ k. get_or (a.front ++ a.file ∷ a.back) k d) a.at ∙ get_or-append_seam a.front a.file a.back d

  pub first_held : held files n ≡ Some a.file.bytes.items
  first_held = ap (λ l. held l n) a.parts ∙ past_none a.front (a.file ∷ a.back) n a.none_before ∙ same_name a.file a.back n a.named

  pub first_held_at : (d : MemFile) → held files n ≡ Some (get_or files i d).bytes.items
  first_held_at d = first_held ∙ ap (λ (f : MemFile). Some f.bytes.items) (sym (first_get d))

  set_parts : (new : MemFile) → set files i new ≡ a.front ++ new ∷ a.back
  set_parts new = ap (λ l. set l i new) a.parts ∙ ap (λ k. set (a.front ++ a.file ∷ a.back) k new) a.at ∙ set-append_seam a.front a.file a.back new

  pub stored_told : (new : MemFile) → new.name ≡ n → held (set files i new) n ≡ Some new.bytes.items
  stored_told new named =
      ap (λ l. held l n) (set_parts new) ∙ past_none a.front (new ∷ a.back) n a.none_before ∙ same_name new a.back n named

  pub stored_others : (new : MemFile) → new.name ≡ n → (m : List ℕ) → m ≢ n → held (set files i new) m ≡ held files m
  stored_others new named m ne =
      ap (λ l. held l m) (set_parts new)
      ∙ same_past a.front (new ∷ a.back) (a.file ∷ a.back) m (other_name new a.back m (λ e. ne (sym e ∙ named)) ∙ sym (other_name a.file a.back m (λ e. ne (sym e ∙ a.named))))
      ∙ ap (λ l. held l m) (sym a.parts)

pub pushed_told : (files : List MemFile) (n : List ℕ) (new : MemFile) → held files n ≡ None → new.name ≡ n → held (files ++ new ∷ []) n ≡ Some new.bytes.items
pushed_told files n new none named = past_none files (new ∷ []) n none ∙ same_name new [] n named

pub pushed_others : (files : List MemFile) (n : List ℕ) (new : MemFile) → new.name ≡ n → (m : List ℕ) → m ≢ n → held (files ++ new ∷ []) m ≡ held files m
pushed_others files n new named m ne =
    same_past files (new ∷ []) [] m (other_name new [] m (λ e. ne (sym e ∙ named))) ∙ ap (λ l. held l m) (append-nil files)

-- the file at the place that was found
pub found : (files shown : List MemFile) (n : List ℕ) (i : ℕ) (f : MemFile) → shown ≡ files → FirstAt shown n i → f ≡ get_or files i f → held files n ≡ Some f.bytes.items
found files shown n i f value first is =
    let a : FirstAt files n i = subst (λ l. FirstAt l n i) value first in
    first_held_at files n i a f ∙ ap (λ (x : MemFile). Some x.bytes.items) (sym is)

module _ (files shown : List MemFile) (n : List ℕ) (i : ℕ) (f next : MemFile) (value : shown ≡ files) (first : FirstAt shown n i) (is : f ≡ get_or files i f) (kept : next.name ≡ f.name) where
  abbrev here : FirstAt files n i
  here = subst (λ l. FirstAt l n i) value first

  named : next.name ≡ n
  named = kept ∙ ap (λ (x : MemFile). x.name) (is ∙ first_get files n i here f) ∙ here.named

  -- bytes put into the file at the place that was found
  pub put_told : held (set files i next) n ≡ Some next.bytes.items
  put_told = stored_told files n i here next named

  pub put_others : (m : List ℕ) → m ≢ n → held (set files i next) m ≡ held files m
  put_others m ne = stored_others files n i here next named m ne

  pub put_names : NamesDiffer files → NamesDiffer (set files i next)
  put_names differ =
      subst (AllPairs (λ a b. a ≢ b)) (sym (map-set_same (λ (x : MemFile). x.name) files i next f (kept ∙ ap (λ (x : MemFile). x.name) is))) differ

some_not_none : {A : Type 0} {x : A} → Some x ≡ None → ⊥
some_not_none e = cc

-- a name behind names that differ from it
pairs_more : (ns : List (List ℕ)) (n : List ℕ) → AllPairs (λ a b. a ≢ b) ns → ((i : ℕ) (d : List ℕ) → i < length ns → get_or ns i d ≢ n) → AllPairs (λ a b. a ≢ b) (ns ++ n ∷ [])
pairs_more ns n differ new i j d lt within =
    let all : length (ns ++ n ∷ []) ≡ length ns + 1 = length-append ns (n ∷ []) in
    let low : i < length ns = omega arith in
    let left : get_or (ns ++ n ∷ []) i d ≡ get_or ns i d = get_or-append ns (n ∷ []) d i low in
    ⊎_elim
    (λ below e. differ i j d lt below (sym left ∙ e ∙ get_or-append ns (n ∷ []) d j below))
    (λ last e. let at : j ≡ length ns = omega arith in new i d low (sym left ∙ e ∙ ap (λ k. get_or (ns ++ n ∷ []) k d) at ∙ get_or-append_seam ns n [] d))
    (cases_lt j (length ns))

-- a name that no file has
pub no_file : (files : List MemFile) (n : List ℕ) (i : ℕ) (d : List ℕ) → held files n ≡ None → i < length files → get_or (names_of files) i d ≢ n
no_file [] n i d none lt = absurd (omega arith)
no_file (f ∷ fs) n zero d none lt = λ e. absurd (some_not_none (sym (same_name f fs n e) ∙ none))
no_file (f ∷ fs) n (suc i) d none lt = no_file fs n i d (chosen_none (bytes_eq f.name n) f.bytes.items (held fs n) none).1 (omega arith)

pub pushed_names : (files : List MemFile) (n : List ℕ) (new : MemFile) → held files n ≡ None → new.name ≡ n → NamesDiffer files → NamesDiffer (files ++ new ∷ [])
pushed_names files n new none named differ =
    subst (AllPairs (λ a b. a ≢ b)) (sym (map-append (λ (x : MemFile). x.name) files (new ∷ [])))
    (pairs_more (names_of files) new.name differ (λ i d lt e. no_file files n i d none (omega (arith, length-map files (λ (x : MemFile). x.name))) (e ∙ named)))

-- behind a push that may have failed
pub names_behind_push : (ok : Bool) (files after : List MemFile) (n : List ℕ) (new : MemFile) → after ≡ cond ok (files ++ new ∷ []) files → held files n ≡ None → new.name ≡ n → NamesDiffer files → NamesDiffer after
names_behind_push true files after n new e none is differ =
    subst NamesDiffer (sym e) (pushed_names files n new none is differ)
names_behind_push false files after n new e none is differ = subst NamesDiffer (sym e) differ
