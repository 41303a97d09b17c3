-- The entries of a function's items stand, each label with the address of its place, wherever the items do.
use Rattle.std.proofs.Common.{◌≡◌, ◌≢◌, ℕ, ◌+◌, ◌<◌, ◌≤◌, Bool, true, false, ◌⊎◌, inl, inr, List, [], ◌∷◌, ◌++◌, ⊎_elim, refl, sym, ap, ◌∙◌, subst, arith}
use Rattle.std.specs.Prelude.{◌==◌, if◌then◌else◌}
use Rattle.std.proofs.lemmas.Bool.{eq-eqb, eqb-true}
use Rattle.c25_isa.specs.State.{Memory}
use Rattle.c25_isa.specs.declared.piece.PieceItem.{PieceItem}
use Rattle.c25_isa.specs.Pieces.{items_size, ItemsAt}
use Rattle.c25_code.specs.Items.{plain_items, entry_code, return_code}
use Rattle.c25_code.specs.Links.{IsMarkOf}
use Rattle.c25_code.proofs.Items.{items_size-append, items_front, items_back}
use Rattle.acc_code.specs.AccTree.{ItemList}
use Rattle.acc_code.specs.Emittable.{IsPlaced}
use Rattle.emit_control.specs.declared.setting.Words.{Words}
use Rattle.emit_control.specs.declared.state.Before.{Before}
use Rattle.emit_control.specs.declared.state.Before.TheVariants.{Open, Shut, Gone}
use Rattle.emit_control.specs.Entries.{Entry, Run, Head, Place, Close, Branch, Goto, Dispatch, CallTo, CallHelper, Wipe, Ret, Finish}
use Rattle.emit_control.specs.Flow.{body_entries}
use Rattle.emit_control.specs.Settings.{Setting, cells_of, code_in}
use Rattle.emit_control.specs.Cuts.{State, begun, place_items, close_items, finish_items, dispatch_items, entry_items, behind_entry, cut, function_items}
use Rattle.emit_proof.specs.Calls.{IsJumpTo}
use Rattle.emit_proof.proofs.Anywhere.{Later}
use Rattle.emit_proof.proofs.Entries.{front_jump, back_jump, split_mark, plain_mark, close_mark, dispatch_mark}
use Rattle.emit_proof.proofs.Keeping.{placed_any, no_cases_directly, no_case}
use Rattle.emit_proof.proofs.PieceLabels.{Places, Avoids, PlacesOnce, Apart, Between, labels_once}
use Rattle.emit_proof.proofs.Pieces.{Ending, ending, entry_places, unmarked, piece_marked}
use Rattle.emit_proof.proofs.Words.{Passed, Finishes, cut_word}
use Rattle.emit_proof.specs.Entries.{Passes, HasLabel, EntryAt, EntriesAt}

-- an entry whose label is this one
abbrev is_label : ℕ → Entry → Bool
is_label k (Run os) = false
is_label k (Head l) = l == k
is_label k (Place l) = l == k
is_label k (Close h l) = false
is_label k (Branch t l) = false
is_label k (Goto l) = false
is_label k (Dispatch cs l b) = false
is_label k (CallTo f) = false
is_label k (CallHelper name) = false
is_label k (Wipe v from l) = l == k
is_label k Ret = false
is_label k (Finish l) = l == k

places_label : (k : ℕ) (e : Entry) → Places k e → is_label k e ≡ true
places_label k (Run os) p = absurd p
places_label k (Head l) p = eq-eqb l k p
places_label k (Place l) p = eq-eqb l k p
places_label k (Close h l) p = absurd p
places_label k (Branch t l) p = absurd p
places_label k (Goto l) p = absurd p
places_label k (Dispatch cs l b) p = absurd p
places_label k (CallTo f) p = absurd p
places_label k (CallHelper name) p = absurd p
places_label k (Wipe v from l) p = eq-eqb l k p
places_label k Ret p = absurd p
places_label k (Finish l) p = eq-eqb l k p

label_places : (k : ℕ) (e : Entry) → is_label k e ≡ true → Places k e
label_places k (Run os) p = cc
label_places k (Head l) p = eqb-true l k p
label_places k (Place l) p = eqb-true l k p
label_places k (Close h l) p = cc
label_places k (Branch t l) p = cc
label_places k (Goto l) p = cc
label_places k (Dispatch cs l b) p = cc
label_places k (CallTo f) p = cc
label_places k (CallHelper name) p = cc
label_places k (Wipe v from l) p = eqb-true l k p
label_places k Ret p = cc
label_places k (Finish l) p = eqb-true l k p

-- the entry that places a label is there
abbrev PlacedIn : ℕ → List Entry → Type 0
PlacedIn k es = Later (Places k) es

module _ (program : Memory) (marks : ℕ → ℕ) (names : List ℕ → ℕ) (m : Setting) where
  -- the address of an entry's label: where its items begin or end; a clearing loop's is its mark
  abbrev address_for : ℕ → ℕ → Entry → ℕ
  address_for pc behind (Run os) = 0
  address_for pc behind (Head l) = pc
  address_for pc behind (Place l) = behind
  address_for pc behind (Close h l) = 0
  address_for pc behind (Branch t l) = 0
  address_for pc behind (Goto l) = 0
  address_for pc behind (Dispatch cs l b) = 0
  address_for pc behind (CallTo f) = 0
  address_for pc behind (CallHelper name) = 0
  address_for pc behind (Wipe v from l) = marks l
  address_for pc behind Ret = 0
  address_for pc behind (Finish l) = pc

  -- by the first entry that places it
  abbrev pub label_from : ℕ → State → List Entry → ℕ → ℕ
  label_from pc s [] k = 0
  label_from pc s (e ∷ es) k =
      if is_label k e then address_for pc (pc + items_size (entry_items m s e)) e
      else label_from (pc + items_size (entry_items m s e)) (behind_entry m s e) es k

  abbrev size : State → Entry → ℕ
  size s e = items_size (entry_items m s e)

  -- a mark of an entry's items is at the address of its label
  place_at : (b : Bool) (x : Before) (l k pc : ℕ) → ItemsAt program marks names pc (place_items b x l) → IsMarkOf k (place_items b x l) → marks k ≡ pc + items_size (place_items b x l)
  place_at true x l k pc at (inl e) = let f : marks l ≡ pc = at.0 in let g : marks l ≡ marks k = ap marks e in omega (arith, f, g)
  place_at true x l k pc at (inr h) = absurd h
  place_at false Open l k pc at (inl e) = let f : marks l ≡ pc + 2 = at.1.0 in let g : marks l ≡ marks k = ap marks e in omega (arith, f, g)
  place_at false Open l k pc at (inr h) = absurd h
  place_at false Shut l k pc at h = absurd h
  place_at false Gone l k pc at h = absurd h

  finish_at : (b : Bool) (x : Before) (l k pc : ℕ) → ItemsAt program marks names pc (finish_items m b x l) → IsMarkOf k (finish_items m b x l) → marks k ≡ pc
  finish_at true x l k pc at (inl e) = sym (ap marks e) ∙ at.0
  finish_at true x l k pc at (inr h) = absurd (plain_mark k (return_code m.back) h)
  finish_at false Open l k pc at h = absurd (plain_mark k (return_code m.back) h)
  finish_at false Shut l k pc at h = absurd (plain_mark k (return_code m.back) h)
  finish_at false Gone l k pc at h = absurd h

  mark_here : (e : Entry) (s : State) (pc k : ℕ) → ItemsAt program marks names pc (entry_items m s e) → IsMarkOf k (entry_items m s e) → marks k ≡ address_for pc (pc + size s e) e
  mark_here (Run os) s pc k at h = absurd (plain_mark k (code_in m os) h)
  mark_here (Head l) s pc k at (inl e) = sym (ap marks e) ∙ at.0
  mark_here (Head l) s pc k at (inr h) = absurd h
  mark_here (Place l) s pc k at h = place_at (s.named l) s.before l k pc at h
  mark_here (Close x l) s pc k at h = absurd (close_mark (s.named x) s.before x l k h)
  mark_here (Branch t l) s pc k at h = absurd h
  mark_here (Goto l) s pc k at h = absurd h
  mark_here (Dispatch cs l b) s pc k at h = absurd (dispatch_mark cs l b k h)
  mark_here (CallTo f) s pc k at h = absurd h
  mark_here (CallHelper name) s pc k at h = absurd h
  mark_here (Wipe v from l) s pc k at h = sym (ap marks (entry_places m (Wipe v from l) s k h))
  mark_here Ret s pc k at h = absurd (plain_mark k (return_code m.back) h)
  mark_here (Finish l) s pc k at h = finish_at (s.named l) s.before l k pc at h

  -- the label of the first entry, and one of another
  first_label : (e : Entry) (es : List Entry) (s : State) (pc k : ℕ) → Places k e → label_from pc s (e ∷ es) k ≡ address_for pc (pc + size s e) e
  first_label e es s pc k p = ap (λ b. if b then address_for pc (pc + size s e) e else label_from (pc + size s e) (behind_entry m s e) es k) (places_label k e p)

  other_label : (e : Entry) (es : List Entry) (s : State) (pc k : ℕ) → (Places k e → ⊥) → label_from pc s (e ∷ es) k ≡ label_from (pc + size s e) (behind_entry m s e) es k
  other_label e es s pc k away = by (is_label k e) refl
    where
      by : (b : Bool) → is_label k e ≡ b → (if b then address_for pc (pc + size s e) e else label_from (pc + size s e) (behind_entry m s e) es k) ≡ label_from (pc + size s e) (behind_entry m s e) es k
      by true is = absurd (away (label_places k e is))
      by false is = refl

  avoided : (k : ℕ) (es : List Entry) → Avoids k es → PlacedIn k es → ⊥
  avoided k [] a p = p
  avoided k (e ∷ es) a (inl p) = a.0 p
  avoided k (e ∷ es) a (inr p) = avoided k es a.1 p

  -- each mark is at its label's address
  marks_from : (es : List Entry) (s : State) (pc k : ℕ) → ItemsAt program marks names pc (cut m s es) → PlacesOnce es → IsMarkOf k (cut m s es) → marks k ≡ label_from pc s es k
  marks_from [] s pc k at once h = absurd h
  marks_from (e ∷ es) s pc k at once h =
      ⊎_elim
      (λ p. mark_here e s pc k (items_front program marks names (entry_items m s e) _ pc at) p ∙ sym (first_label e es s pc k (entry_places m e s k p)))
      (λ q. marks_from es (behind_entry m s e) (pc + size s e) k (items_back program marks names (entry_items m s e) _ pc at) once.1 q
      ∙ sym (other_label e es s pc k (λ p. unmarked m es (behind_entry m s e) k (once.0 k p) q)))
      (split_mark k (entry_items m s e) _ h)

  -- what is marked is placed
  marked_placed : (es : List Entry) (s : State) (k : ℕ) → IsMarkOf k (cut m s es) → PlacedIn k es
  marked_placed [] s k h = absurd h
  marked_placed (e ∷ es) s k h = ⊎_elim (λ p. inl (entry_places m e s k p)) (λ q. inr (marked_placed es (behind_entry m s e) k q)) (split_mark k (entry_items m s e) _ h)

  passed : (x : Before) → Passes x → Passed x
  passed Open p = tt
  passed Shut p = tt
  passed Gone p = absurd p

  finishes_gone : (e : Entry) (s : State) → Finishes e → Passes (behind_entry m s e).before → ⊥
  finishes_gone (Run os) s f p = f
  finishes_gone (Head l) s f p = f
  finishes_gone (Place l) s f p = f
  finishes_gone (Close h l) s f p = f
  finishes_gone (Branch t l) s f p = f
  finishes_gone (Goto l) s f p = f
  finishes_gone (Dispatch cs l b) s f p = f
  finishes_gone (CallTo g) s f p = f
  finishes_gone (CallHelper name) s f p = f
  finishes_gone (Wipe v from l) s f p = f
  finishes_gone Ret s f p = f
  finishes_gone (Finish l) s f p = p

  module _ (label : ℕ → ℕ) where
    -- labels of these entries are where they are placed
    abbrev AreLabels : List Entry → State → ℕ → Type 0
    AreLabels es s pc = (k : ℕ) → PlacedIn k es → label k ≡ label_from pc s es k

    has_label : (e : Entry) (es : List Entry) (s : State) (pc : ℕ) → AreLabels (e ∷ es) s pc → HasLabel label pc (pc + size s e) e
    has_label (Run os) es s pc are = tt
    has_label (Head l) es s pc are = are l (inl refl) ∙ first_label (Head l) es s pc l refl
    has_label (Place l) es s pc are = are l (inl refl) ∙ first_label (Place l) es s pc l refl
    has_label (Close h l) es s pc are = tt
    has_label (Branch t l) es s pc are = tt
    has_label (Goto l) es s pc are = tt
    has_label (Dispatch cs l b) es s pc are = tt
    has_label (CallTo g) es s pc are = tt
    has_label (CallHelper name) es s pc are = tt
    has_label (Wipe v from l) es s pc are = tt
    has_label Ret es s pc are = tt
    has_label (Finish l) es s pc are = are l (inl refl) ∙ first_label (Finish l) es s pc l refl

    pub entries_stand : (es : List Entry) (s : State) (pc : ℕ) → ItemsAt program marks names pc (cut m s es) → pc + items_size (cut m s es) ≤ 65536 → PlacesOnce es → Ending es → AreLabels es s pc → ((k : ℕ) → IsJumpTo k (cut m s es) → marks k ≡ label k) → EntriesAt program marks names m label pc s es
    entries_stand [] s pc at fits once ends are jumps = tt
    entries_stand (e ∷ es) s pc at fits once ends are jumps = (
      record {
        items = items_front program marks names (entry_items m s e) _ pc at;
        placed = has_label e es s pc are;
        jumps = λ k j. jumps k (front_jump k (entry_items m s e) _ j);
        room = λ p. ⊎_elim (λ f. absurd (finishes_gone e s f p)) (λ later. let word = cut_word m es (behind_entry m s e) later (passed (behind_entry m s e).before p) in omega (arith, word, whole)) ends.0;
      },
      entries_stand es (behind_entry m s e) (pc + size s e) (items_back program marks names (entry_items m s e) _ pc at) whole once.1 ends.1
          (λ k placed. are k (inr placed) ∙ other_label e es s pc k (λ p. avoided k es (once.0 k p) placed))
          (λ k j. jumps k (back_jump k (entry_items m s e) _ j)),
    )
      where
        whole : pc + size s e + items_size (cut m (behind_entry m s e) es) ≤ 65536
        whole = omega (arith, fits, items_size-append (entry_items m s e) (cut m (behind_entry m s e) es))

body_once : (body : ItemList) → IsPlaced false false false body → PlacesOnce (body_entries body)
body_once body p =
    let none = no_cases_directly body p in
    (labels_once body (placed_any body p) [] _ 1 1 1 (omega arith) (omega arith) (no_case (Between 1 1) 0 _ none) (subst (Apart 0) (sym none) tt)).by 0 (Finish 0 ∷ []) (λ k q. tt, tt) (λ l h g. (omega (arith, h), tt))

module _ (program : Memory) (marks : ℕ → ℕ) (names : List ℕ → ℕ) (m : Setting) (body : ItemList) (entry : ℕ) where
  abbrev first : ℕ
  first = entry + items_size (plain_items (entry_code m.back))

  pub function_stands : IsPlaced false false false body → ItemsAt program marks names entry (function_items m body) → entry + items_size (function_items m body) ≤ 65536
      → EntriesAt program marks names m (label_from program marks names m first begun (body_entries body)) first begun (body_entries body)
  function_stands placed at fits =
      entries_stand program marks names m (label_from program marks names m first begun (body_entries body)) (body_entries body) begun first
      behind (omega (arith, fits, items_size-append (plain_items (entry_code m.back)) (cut m begun (body_entries body)))) (body_once body placed) (ending body) (λ k p. refl)
      (λ k j. marks_from program marks names m (body_entries body) begun first k behind (body_once body placed) (body_mark k (piece_marked m body k placed (back_jump k (plain_items (entry_code m.back)) _ j))))
    where
      behind : ItemsAt program marks names first (cut m begun (body_entries body))
      behind = items_back program marks names (plain_items (entry_code m.back)) _ entry at

      body_mark : (k : ℕ) → IsMarkOf k (function_items m body) → IsMarkOf k (cut m begun (body_entries body))
      body_mark k h = ⊎_elim (λ q. absurd (plain_mark k (entry_code m.back) q)) (λ q. q) (split_mark k (plain_items (entry_code m.back)) _ h)
