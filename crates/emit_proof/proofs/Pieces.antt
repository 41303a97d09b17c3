-- The marks, jumps and calls of the items that entries become.
use Rattle.std.proofs.Common.{◌≡◌, ◌≢◌, ℕ, suc, ◌≤◌, Bool, true, false, ◌⊎◌, inl, inr, List, [], ◌∷◌, ◌++◌, ⊎_elim, refl, sym, ◌∙◌, ap, subst, arith}
use Rattle.std.specs.Prelude.{◌==◌, if◌then◌else◌, AllPairs}
use Rattle.c25_isa.specs.declared.instruction.Instr.{Instr}
use Rattle.c25_isa.specs.declared.piece.PieceItem.{PieceItem}
use Rattle.c25_isa.specs.declared.piece.PieceItem.TheVariants as piece
use Rattle.c25_isa.specs.Pieces.{items_size}
use Rattle.c25_code.specs.Items.{plain_items, entry_code, return_code}
use Rattle.c25_code.specs.Links.{IsMarkOf, MarksDiffer, MarksAtWords}
use Rattle.c25_code.proofs.Items.{items_size-append}
use Rattle.c25_code.proofs.Links.{differ-append}
use Rattle.c25_code.proofs.Returns.{return_size}
use Rattle.acc_code.specs.declared.item.CaseLabel.{CaseLabel}
use Rattle.acc_code.specs.declared.item.CaseLabel.TheVariants.{Value, Default}
use Rattle.acc_code.specs.AccTree.{Item, Call, Helper, ItemList}
use Rattle.acc_code.specs.Emittable.{Throughout, IsPlaced}
use Rattle.emit_control.specs.declared.setting.Words.{Words}
use Rattle.emit_control.specs.declared.state.Before.{Before}
use Rattle.emit_control.specs.declared.state.Before.TheVariants.{Open, Shut, Gone}
use Rattle.emit_control.specs.Entries.{Entry, Run, Head, Place, Close, Branch, Goto, Dispatch, CallTo, CallHelper, Wipe, Ret, Finish}
use Rattle.emit_control.specs.Flow.{body_entries}
use Rattle.emit_control.specs.Settings.{Setting, cells_of, code_in}
use Rattle.emit_control.specs.Cuts.{State, begun, shut, naming, less_by, case_items, default_label, dispatch_items, wipe_items, place_items, behind_place, close_items, wiped_items, behind_wipe, finish_items, entry_items, behind_entry, cut, function_items}
use Rattle.emit_proof.specs.Calls.{IsJumpTo, CallsAre, IsNameOf}
use Rattle.emit_proof.proofs.Anywhere.{Later, kept_anywhere}
use Rattle.emit_proof.proofs.Keeping.{Any, Closes, IsClosed, Allowed, placed, placed_any, any, no_cases_directly, no_case, kept}
use Rattle.emit_proof.proofs.Words.{Passed, Finishes, cut_word}
use Rattle.emit_proof.proofs.PieceLabels.{Places, Avoids, PlacesOnce, Apart, Between, labels_once}
use Rattle.emit_proof.proofs.Names.{Ends, Names, IsHead, Bound, bound}
use Rattle.emit_proof.proofs.Entries.{front_mark, back_mark, split_mark, front_jump, back_jump, split_jump, plain_mark, plain_jump, no_marks, name_here, name_more, name_cases, place_mark, place_jump, place_once, place_named, place_behind, place_keeps, place_marked, close_mark, close_jump, close_behind, close_keeps, close_closes, dispatch_mark, cases_keep, dispatch_jump, dispatch_behind}

-- what is known of an entry of items, apart from its labels
abbrev pub Told : (Item → Type 0) → Entry → Type 0
Told C (Run os) = Unit {0}
Told C (Head l) = Unit {0}
Told C (Place l) = Unit {0}
Told C (Close h l) = Unit {0}
Told C (Branch t l) = Unit {0}
Told C (Goto l) = Unit {0}
Told C (Dispatch cs l b) = AllPairs (λ k m. k ≢ m) cs
Told C (CallTo f) = C (Call f)
Told C (CallHelper name) = C (Helper name)
Told C (Wipe v from l) = Unit {0}
Told C Ret = Unit {0}
Told C (Finish l) = Unit {0}

told : (M : ℕ → Type 0) (C : Item → Type 0) (e : Entry) → Allowed M C e → Told C e
told M C (Run os) a = tt
told M C (Head l) a = tt
told M C (Place l) a = tt
told M C (Close h l) a = tt
told M C (Branch t l) a = tt
told M C (Goto l) a = tt
told M C (Dispatch cs l b) a = a
told M C (CallTo f) a = a
told M C (CallHelper name) a = a
told M C (Wipe v from l) a = tt
told M C Ret a = tt
told M C (Finish l) a = tt

-- each head's loop is closed, and the rest is as known
abbrev pub Sound : (Item → Type 0) → List Entry → Type 0
Sound C [] = Unit {0}
Sound C (e ∷ es) = IsClosed e es × Told C e × Sound C es

abbrev AnyLabel : ℕ → Type 0
AnyLabel l = Unit {0}

pub sound : (C : Item → Type 0) (body : ItemList) → IsPlaced false false false body → Throughout C body → Sound C (body_entries body)
sound C body p t =
    (kept AnyLabel C (Sound C) (λ e es a c h. (c, told AnyLabel C e a, h)) body (placed C false false false body p t) [] _ 1 (λ l g h. tt) (no_case AnyLabel 0 _ (no_cases_directly body p))).by 0 (Finish 0 ∷ []) (tt, tt, tt)

-- entries at a body's end
abbrev pub Ending : List Entry → Type 0
Ending [] = Unit {0}
Ending (e ∷ es) = Later Finishes (e ∷ es) × Ending es

pub ending : (body : ItemList) → Ending (body_entries body)
ending body = ((kept_anywhere (λ es. Later Finishes es × Ending es) (λ e es h. (inr h.0, (inr h.0, h.1))) body [] _ 1).by 0 (Finish 0 ∷ []) (inl tt, (inl tt, tt))).1

abbrev None_before : ℕ → Type 0
None_before k = ⊥

abbrev Unnamed : Bool → Type 0
Unnamed true = ⊥
Unnamed false = Unit {0}

-- a Clear
wipe_mark : (m : Setting) (w : Words) (l k : ℕ) (s : State) → IsMarkOf k (wiped_items m w l s) → l ≡ k
wipe_mark m w l k s h = by (w.count == 0) h
  where
    by : (b : Bool) → IsMarkOf k (if b then place_items (s.named l) s.before l else wipe_items w.first w.count l) → l ≡ k
    by true q = place_mark (s.named l) s.before l k q
    by false (inl e) = e
    by false (inr q) = absurd q

wipe_jump : (m : Setting) (w : Words) (l k : ℕ) (s : State) → IsJumpTo k (wiped_items m w l s) → IsMarkOf k (wiped_items m w l s)
wipe_jump m w l k s h = by (w.count == 0) h
  where
    by : (b : Bool) → IsJumpTo k (if b then place_items (s.named l) s.before l else wipe_items w.first w.count l) → IsMarkOf k (if b then place_items (s.named l) s.before l else wipe_items w.first w.count l)
    by true q = place_jump (s.named l) s.before l k q
    by false q = q

wipe_once : (m : Setting) (w : Words) (l : ℕ) (s : State) → MarksDiffer (wiped_items m w l s)
wipe_once m w l s = by (w.count == 0)
  where
    by : (b : Bool) → MarksDiffer (if b then place_items (s.named l) s.before l else wipe_items w.first w.count l)
    by true = place_once (s.named l) s.before l
    by false = (λ h. h, tt)

wipe_named : (m : Setting) (w : Words) (l k : ℕ) (s : State) → IsMarkOf k (wiped_items m w l s) → (s.named k ≡ true) ⊎ IsJumpTo k (wiped_items m w l s)
wipe_named m w l k s h = by (w.count == 0) h
  where
    by : (b : Bool) → IsMarkOf k (if b then place_items (s.named l) s.before l else wipe_items w.first w.count l) → (s.named k ≡ true) ⊎ IsJumpTo k (if b then place_items (s.named l) s.before l else wipe_items w.first w.count l)
    by true q = place_named s.before s.named l k q
    by false q = inr q

wipe_behind : (m : Setting) (w : Words) (l k : ℕ) (s : State) → (behind_wipe m w l s).named k ≡ true → (s.named k ≡ true) ⊎ IsJumpTo k (wiped_items m w l s)
wipe_behind m w l k s h = by (w.count == 0) h
  where
    by : (b : Bool) → (if b then behind_place (s.named l) l s else shut (naming l s)).named k ≡ true → (s.named k ≡ true) ⊎ IsJumpTo k (if b then place_items (s.named l) s.before l else wipe_items w.first w.count l)
    by true q = place_behind (s.named l) s.before s.named l k q
    by false q = ⊎_elim (λ e. inr (inl e)) (λ g. inl g) (name_cases k l (s.named k) q)

wipe_keeps : (m : Setting) (w : Words) (l k : ℕ) (s : State) → s.named k ≡ true → (behind_wipe m w l s).named k ≡ true
wipe_keeps m w l k s h = by (w.count == 0)
  where
    by : (b : Bool) → (if b then behind_place (s.named l) l s else shut (naming l s)).named k ≡ true
    by true = place_keeps (s.named l) s.before s.named l k h
    by false = name_more k l (s.named k) h

-- the end of a body
module _ (m : Setting) where
  finish_mark : (b : Bool) (x : Before) (l k : ℕ) → IsMarkOf k (finish_items m b x l) → l ≡ k
  finish_mark true x l k (inl e) = e
  finish_mark true x l k (inr h) = absurd (plain_mark k (return_code m.back) h)
  finish_mark false Open l k h = absurd (plain_mark k (return_code m.back) h)
  finish_mark false Shut l k h = absurd (plain_mark k (return_code m.back) h)
  finish_mark false Gone l k h = absurd h

  finish_jump : (b : Bool) (x : Before) (l k : ℕ) → IsJumpTo k (finish_items m b x l) → ⊥
  finish_jump true x l k h = plain_jump k (return_code m.back) h
  finish_jump false Open l k h = plain_jump k (return_code m.back) h
  finish_jump false Shut l k h = plain_jump k (return_code m.back) h
  finish_jump false Gone l k h = h

  plain_once : (code : List Instr) → MarksDiffer (plain_items code)
  plain_once code = no_marks (plain_items code) (λ k h. plain_mark k code h)

  finish_once : (b : Bool) (x : Before) (l : ℕ) → MarksDiffer (finish_items m b x l)
  finish_once true x l = (plain_mark l (return_code m.back), plain_once (return_code m.back))
  finish_once false Open l = plain_once (return_code m.back)
  finish_once false Shut l = plain_once (return_code m.back)
  finish_once false Gone l = tt

  finish_named : (x : Before) (n : ℕ → Bool) (l k : ℕ) → IsMarkOf k (finish_items m (n l) x l) → n k ≡ true
  finish_named x n l k h = by (n l) x refl h
    where
      by : (b : Bool) (y : Before) → n l ≡ b → IsMarkOf k (finish_items m b y l) → n k ≡ true
      by true y e (inl q) = subst (λ m. n m ≡ true) q e
      by true y e (inr q) = absurd (plain_mark k (return_code m.back) q)
      by false Open e q = absurd (plain_mark k (return_code m.back) q)
      by false Shut e q = absurd (plain_mark k (return_code m.back) q)
      by false Gone e q = absurd q

  finish_marked : (b : Bool) (x : Before) (l : ℕ) → b ≡ true → IsMarkOf l (finish_items m b x l)
  finish_marked true x l e = inl refl
  finish_marked false x l e = absurd (subst Unset (sym e) tt)
    where
      Unset : Bool → Type 0
      Unset true = Unit {0}
      Unset false = ⊥

  -- an entry's marks are its own label
  pub entry_places : (e : Entry) (s : State) (k : ℕ) → IsMarkOf k (entry_items m s e) → Places k e
  entry_places (Run os) s k h = plain_mark k (code_in m os) h
  entry_places (Head l) s k (inl e) = e
  entry_places (Head l) s k (inr h) = absurd h
  entry_places (Place l) s k h = place_mark (s.named l) s.before l k h
  entry_places (Close x l) s k h = close_mark (s.named x) s.before x l k h
  entry_places (Branch t l) s k h = h
  entry_places (Goto l) s k h = h
  entry_places (Dispatch cs l b) s k h = dispatch_mark cs l b k h
  entry_places (CallTo f) s k h = h
  entry_places (CallHelper name) s k h = h
  entry_places (Wipe v from l) s k h = wipe_mark m (cells_of m v from) l k s h
  entry_places Ret s k h = plain_mark k (return_code m.back) h
  entry_places (Finish l) s k h = finish_mark (s.named l) s.before l k h

  entry_once : (e : Entry) (s : State) → MarksDiffer (entry_items m s e)
  entry_once (Run os) s = plain_once (code_in m os)
  entry_once (Head l) s = (λ h. h, tt)
  entry_once (Place l) s = place_once (s.named l) s.before l
  entry_once (Close x l) s = no_marks (close_items (s.named x) s.before x l) (close_mark (s.named x) s.before x l)
  entry_once (Branch t l) s = tt
  entry_once (Goto l) s = tt
  entry_once (Dispatch cs l b) s = no_marks (dispatch_items cs l b) (dispatch_mark cs l b)
  entry_once (CallTo f) s = tt
  entry_once (CallHelper name) s = tt
  entry_once (Wipe v from l) s = wipe_once m (cells_of m v from) l s
  entry_once Ret s = plain_once (return_code m.back)
  entry_once (Finish l) s = finish_once (s.named l) s.before l

  -- its jumps go to its own mark, or to labels that are named behind it
  entry_jumps : (e : Entry) (s : State) (k : ℕ) → IsJumpTo k (entry_items m s e) → IsMarkOf k (entry_items m s e) ⊎ (Names k e × ((behind_entry m s e).named k ≡ true))
  entry_jumps (Run os) s k h = absurd (plain_jump k (code_in m os) h)
  entry_jumps (Head l) s k h = absurd h
  entry_jumps (Place l) s k h = inl (place_jump (s.named l) s.before l k h)
  entry_jumps (Close x l) s k h = inr (close_jump (s.named x) s.before s.named x l k h)
  entry_jumps (Branch t l) s k (inl e) = inr (e, name_here k l (s.named k) e)
  entry_jumps (Branch t l) s k (inr h) = absurd h
  entry_jumps (Goto l) s k (inl e) = inr (e, name_here k l (s.named k) e)
  entry_jumps (Goto l) s k (inr h) = absurd h
  entry_jumps (Dispatch cs l b) s k h = inr (dispatch_jump cs l b k s h)
  entry_jumps (CallTo f) s k h = absurd h
  entry_jumps (CallHelper name) s k h = absurd h
  entry_jumps (Wipe v from l) s k h = inl (wipe_jump m (cells_of m v from) l k s h)
  entry_jumps Ret s k h = absurd (plain_jump k (return_code m.back) h)
  entry_jumps (Finish l) s k h = absurd (finish_jump (s.named l) s.before l k h)

  -- its marks are named, or heads of loops
  entry_named : (e : Entry) (es : List Entry) (s : State) (k : ℕ) → IsClosed e es → IsMarkOf k (entry_items m s e) → ((s.named k ≡ true) ⊎ IsJumpTo k (entry_items m s e)) ⊎ Later (Closes k) es
  entry_named (Run os) es s k c h = absurd (plain_mark k (code_in m os) h)
  entry_named (Head l) es s k c (inl e) = inr (subst (λ n. Later (Closes n) es) e c)
  entry_named (Head l) es s k c (inr h) = absurd h
  entry_named (Place l) es s k c h = inl (place_named s.before s.named l k h)
  entry_named (Close x l) es s k c h = absurd (close_mark (s.named x) s.before x l k h)
  entry_named (Branch t l) es s k c h = absurd h
  entry_named (Goto l) es s k c h = absurd h
  entry_named (Dispatch cs l b) es s k c h = absurd (dispatch_mark cs l b k h)
  entry_named (CallTo f) es s k c h = absurd h
  entry_named (CallHelper name) es s k c h = absurd h
  entry_named (Wipe v from l) es s k c h = inl (wipe_named m (cells_of m v from) l k s h)
  entry_named Ret es s k c h = absurd (plain_mark k (return_code m.back) h)
  entry_named (Finish l) es s k c h = inl (inl (finish_named s.before s.named l k h))

  -- what is named behind it was named before, or by its jumps
  entry_behind : (C : Item → Type 0) (e : Entry) (s : State) (k : ℕ) → Told C e → (behind_entry m s e).named k ≡ true → (s.named k ≡ true) ⊎ IsJumpTo k (entry_items m s e)
  entry_behind C (Run os) s k t h = inl h
  entry_behind C (Head l) s k t h = inl h
  entry_behind C (Place l) s k t h = place_behind (s.named l) s.before s.named l k h
  entry_behind C (Close x l) s k t h = close_behind (s.named x) s.before s.named x l k h
  entry_behind C (Branch q l) s k t h = ⊎_elim (λ e. inr (inl e)) (λ g. inl g) (name_cases k l (s.named k) h)
  entry_behind C (Goto l) s k t h = ⊎_elim (λ e. inr (inl e)) (λ g. inl g) (name_cases k l (s.named k) h)
  entry_behind C (Dispatch cs l b) s k t h = dispatch_behind cs l b k s t h
  entry_behind C (CallTo f) s k t h = inl h
  entry_behind C (CallHelper name) s k t h = inl h
  entry_behind C (Wipe v from l) s k t h = wipe_behind m (cells_of m v from) l k s h
  entry_behind C Ret s k t h = inl h
  entry_behind C (Finish l) s k t h = inl h

  entry_keeps : (e : Entry) (s : State) (k : ℕ) → s.named k ≡ true → (behind_entry m s e).named k ≡ true
  entry_keeps (Run os) s k h = h
  entry_keeps (Head l) s k h = h
  entry_keeps (Place l) s k h = place_keeps (s.named l) s.before s.named l k h
  entry_keeps (Close x l) s k h = close_keeps (s.named x) s.before s.named x l k h
  entry_keeps (Branch t l) s k h = name_more k l (s.named k) h
  entry_keeps (Goto l) s k h = name_more k l (s.named k) h
  entry_keeps (Dispatch cs l b) s k h = name_more k (default_label cs l b) _ (cases_keep cs l k s h)
  entry_keeps (CallTo f) s k h = h
  entry_keeps (CallHelper name) s k h = h
  entry_keeps (Wipe v from l) s k h = wipe_keeps m (cells_of m v from) l k s h
  entry_keeps Ret s k h = h
  entry_keeps (Finish l) s k h = h

  -- a label that was named has its mark where it is placed
  entry_marked : (e : Entry) (s : State) (k : ℕ) → s.named k ≡ true → Ends k e → IsMarkOf k (entry_items m s e)
  entry_marked (Run os) s k h q = absurd q
  entry_marked (Head l) s k h q = absurd q
  entry_marked (Place l) s k h q = subst (λ n. IsMarkOf n (place_items (s.named l) s.before l)) q (place_marked (s.named l) s.before l (ap s.named q ∙ h))
  entry_marked (Close x l) s k h q = absurd q
  entry_marked (Branch t l) s k h q = absurd q
  entry_marked (Goto l) s k h q = absurd q
  entry_marked (Dispatch cs l b) s k h q = absurd q
  entry_marked (CallTo f) s k h q = absurd q
  entry_marked (CallHelper name) s k h q = absurd q
  entry_marked (Wipe v from l) s k h q = absurd q
  entry_marked Ret s k h q = absurd q
  entry_marked (Finish l) s k h q = subst (λ n. IsMarkOf n (finish_items m (s.named l) s.before l)) q (finish_marked (s.named l) s.before l (ap s.named q ∙ h))

  -- the end of a loop names its head
  entry_closes : (e : Entry) (s : State) (k : ℕ) → Closes k e → (s.named k ≡ true) ⊎ IsJumpTo k (entry_items m s e)
  entry_closes (Run os) s k q = absurd q
  entry_closes (Head l) s k q = absurd q
  entry_closes (Place l) s k q = absurd q
  entry_closes (Close x l) s k q = subst (λ n. (s.named n ≡ true) ⊎ IsJumpTo n (entry_items m s (Close x l))) q (close_closes s.before s.named x l)
  entry_closes (Branch t l) s k q = absurd q
  entry_closes (Goto l) s k q = absurd q
  entry_closes (Dispatch cs l b) s k q = absurd q
  entry_closes (CallTo f) s k q = absurd q
  entry_closes (CallHelper name) s k q = absurd q
  entry_closes (Wipe v from l) s k q = absurd q
  entry_closes Ret s k q = absurd q
  entry_closes (Finish l) s k q = absurd q

  -- each mark once
  pub unmarked : (es : List Entry) (s : State) (k : ℕ) → Avoids k es → IsMarkOf k (cut m s es) → ⊥
  unmarked [] s k a h = h
  unmarked (e ∷ es) s k a h = ⊎_elim (λ p. a.0 (entry_places e s k p)) (λ q. unmarked es (behind_entry m s e) k a.1 q) (split_mark k (entry_items m s e) _ h)

  once : (es : List Entry) (s : State) → PlacesOnce es → MarksDiffer (cut m s es)
  once [] s g = tt
  once (e ∷ es) s g =
      differ-append (entry_items m s e) _ (entry_once e s) (once es (behind_entry m s e) g.1)
      (λ k p q. unmarked es (behind_entry m s e) k (g.0 k (entry_places e s k p)) q)

  -- a label that is named and placed later has a mark
  named_marked : (es : List Entry) (s : State) (k : ℕ) → s.named k ≡ true → Later (Ends k) es → IsMarkOf k (cut m s es)
  named_marked [] s k n l = absurd l
  named_marked (e ∷ es) s k n (inl q) = front_mark k (entry_items m s e) _ (entry_marked e s k n q)
  named_marked (e ∷ es) s k n (inr l) = back_mark k (entry_items m s e) _ (named_marked es (behind_entry m s e) k (entry_keeps e s k n) l)

  -- each jump has its mark
  head_marked : (e : Entry) (s : State) (k : ℕ) → IsHead k e → IsMarkOf k (entry_items m s e)
  head_marked (Run os) s k q = absurd q
  head_marked (Head l) s k q = inl q
  head_marked (Place l) s k q = absurd q
  head_marked (Close x l) s k q = absurd q
  head_marked (Branch t l) s k q = absurd q
  head_marked (Goto l) s k q = absurd q
  head_marked (Dispatch cs l b) s k q = absurd q
  head_marked (CallTo f) s k q = absurd q
  head_marked (CallHelper name) s k q = absurd q
  head_marked (Wipe v from l) s k q = absurd q
  head_marked Ret s k q = absurd q
  head_marked (Finish l) s k q = absurd q

  marked : (H : ℕ → Type 0) (es : List Entry) (s : State) (k : ℕ) → Bound H es → IsJumpTo k (cut m s es) → H k ⊎ IsMarkOf k (cut m s es)
  marked H [] s k b h = absurd h
  marked H (e ∷ es) s k b h =
      ⊎_elim
      (λ p. ⊎_elim (λ q. inr (front_mark k (entry_items m s e) _ q)) (λ q. ⊎_elim (λ x. inl x) (λ l. inr (back_mark k (entry_items m s e) _ (named_marked es (behind_entry m s e) k q.1 l))) (b.0 k q.0)) (entry_jumps e s k p))
      (λ p. ⊎_elim (λ x. ⊎_elim (λ q. inr (front_mark k (entry_items m s e) _ (head_marked e s k q))) (λ y. inl y) x) (λ q. inr (back_mark k (entry_items m s e) _ q)) (marked (λ n. IsHead n e ⊎ H n) es (behind_entry m s e) k b.1 p))
      (split_jump k (entry_items m s e) _ h)

  -- each mark is named
  onward : (C : Item → Type 0) (e : Entry) (es : List Entry) (s : State) (k : ℕ) → Told C e → ((behind_entry m s e).named k ≡ true) ⊎ IsJumpTo k (cut m (behind_entry m s e) es) → (s.named k ≡ true) ⊎ IsJumpTo k (cut m s (e ∷ es))
  onward C e es s k t (inl h) = ⊎_elim (λ n. inl n) (λ j. inr (front_jump k (entry_items m s e) _ j)) (entry_behind C e s k t h)
  onward C e es s k t (inr h) = inr (back_jump k (entry_items m s e) _ h)

  closed : (C : Item → Type 0) (es : List Entry) (s : State) (k : ℕ) → Sound C es → Later (Closes k) es → (s.named k ≡ true) ⊎ IsJumpTo k (cut m s es)
  closed C [] s k f l = absurd l
  closed C (e ∷ es) s k f (inl q) = ⊎_elim (λ n. inl n) (λ j. inr (front_jump k (entry_items m s e) _ j)) (entry_closes e s k q)
  closed C (e ∷ es) s k f (inr l) = onward C e es s k f.1 (closed C es (behind_entry m s e) k f.2 l)

  named : (C : Item → Type 0) (es : List Entry) (s : State) (k : ℕ) → Sound C es → IsMarkOf k (cut m s es) → (s.named k ≡ true) ⊎ IsJumpTo k (cut m s es)
  named C [] s k f h = absurd h
  named C (e ∷ es) s k f h =
      ⊎_elim
      (λ p. ⊎_elim (λ q. ⊎_elim (λ n. inl n) (λ j. inr (front_jump k (entry_items m s e) _ j)) q) (λ l. onward C e es s k f.1 (closed C es (behind_entry m s e) k f.2 l)) (entry_named e es s k f.0 p))
      (λ p. onward C e es s k f.1 (named C es (behind_entry m s e) k f.2 p))
      (split_mark k (entry_items m s e) _ h)

  -- a word stands behind each mark
  words_front : (a b : List PieceItem) → MarksAtWords a → MarksAtWords b → MarksAtWords (a ++ b)
  words_front [] b h g = g
  words_front (piece.Do i ∷ a) b h g = words_front a b h g
  words_front (piece.Mark l ∷ a) b h g = (omega (arith, h.0, items_size-append a b), words_front a b h.1 g)
  words_front (piece.Jump op to o ∷ a) b h g = words_front a b h g
  words_front (piece.CallTo name o ∷ a) b h g = words_front a b h g

  words_before : (a b : List PieceItem) → 1 ≤ items_size b → MarksAtWords b → MarksAtWords (a ++ b)
  words_before [] b h g = g
  words_before (piece.Do i ∷ a) b h g = words_before a b h g
  words_before (piece.Mark l ∷ a) b h g = (omega (arith, h, items_size-append a b), words_before a b h g)
  words_before (piece.Jump op to o ∷ a) b h g = words_before a b h g
  words_before (piece.CallTo name o ∷ a) b h g = words_before a b h g

  words_plain : (items : List PieceItem) → ((k : ℕ) → IsMarkOf k items → ⊥) → MarksAtWords items
  words_plain [] f = tt
  words_plain (piece.Do i ∷ items) f = words_plain items f
  words_plain (piece.Mark l ∷ items) f = absurd (f l (inl refl))
  words_plain (piece.Jump op to o ∷ items) f = words_plain items f
  words_plain (piece.CallTo name o ∷ items) f = words_plain items f

  finish_words : (b : Bool) (x : Before) (l : ℕ) → MarksAtWords (finish_items m b x l)
  finish_words true x l = (return_size m.back, words_plain (plain_items (return_code m.back)) (λ k h. plain_mark k (return_code m.back) h))
  finish_words false Open l = words_plain (plain_items (return_code m.back)) (λ k h. plain_mark k (return_code m.back) h)
  finish_words false Shut l = words_plain (plain_items (return_code m.back)) (λ k h. plain_mark k (return_code m.back) h)
  finish_words false Gone l = tt

  place_passes : (b : Bool) (x : Before) (n : ℕ → Bool) (l : ℕ) → Passed (behind_place b l (record { before = x; named = n })).before
  place_passes true x n l = tt
  place_passes false Open n l = tt
  place_passes false Shut n l = tt
  place_passes false Gone n l = tt

  wipe_passes : (w : Words) (l : ℕ) (s : State) → Passed (behind_wipe m w l s).before
  wipe_passes w l s = by (w.count == 0)
    where
      by : (b : Bool) → Passed (if b then behind_place (s.named l) l s else shut (naming l s)).before
      by true = place_passes (s.named l) s.before s.named l
      by false = tt

  -- its marks have words behind them in it, or control passes behind it
  entry_words : (e : Entry) (s : State) → MarksAtWords (entry_items m s e) ⊎ (Passed (behind_entry m s e).before × (Finishes e → ⊥))
  entry_words (Run os) s = inl (words_plain (plain_items (code_in m os)) (λ k h. plain_mark k (code_in m os) h))
  entry_words (Head l) s = inr (tt, λ q. q)
  entry_words (Place l) s = inr (place_passes (s.named l) s.before s.named l, λ q. q)
  entry_words (Close x l) s = inl (words_plain (close_items (s.named x) s.before x l) (close_mark (s.named x) s.before x l))
  entry_words (Branch t l) s = inl tt
  entry_words (Goto l) s = inl tt
  entry_words (Dispatch cs l b) s = inl (words_plain (dispatch_items cs l b) (dispatch_mark cs l b))
  entry_words (CallTo f) s = inl tt
  entry_words (CallHelper name) s = inl tt
  entry_words (Wipe v from l) s = inr (wipe_passes (cells_of m v from) l s, λ q. q)
  entry_words Ret s = inl (words_plain (plain_items (return_code m.back)) (λ k h. plain_mark k (return_code m.back) h))
  entry_words (Finish l) s = inl (finish_words (s.named l) s.before l)

  words : (es : List Entry) (s : State) → Ending es → MarksAtWords (cut m s es)
  words [] s h = tt
  words (e ∷ es) s h =
      ⊎_elim (λ w. words_front (entry_items m s e) _ w (words es (behind_entry m s e) h.1))
      (λ p. ⊎_elim (λ q. absurd (p.1 q)) (λ l. words_before (entry_items m s e) _ (cut_word m es (behind_entry m s e) l p.0) (words es (behind_entry m s e) h.1)) h.0)
      (entry_words e s)

  -- calls
  calls_front : (P : List ℕ → Type 0) (a b : List PieceItem) → CallsAre P a → CallsAre P b → CallsAre P (a ++ b)
  calls_front P [] b h g = g
  calls_front P (piece.Do i ∷ a) b h g = calls_front P a b h g
  calls_front P (piece.Mark l ∷ a) b h g = calls_front P a b h g
  calls_front P (piece.Jump op to o ∷ a) b h g = calls_front P a b h g
  calls_front P (piece.CallTo name o ∷ a) b h g = (h.0, calls_front P a b h.1 g)

  calls_plain : (P : List ℕ → Type 0) (code : List Instr) → CallsAre P (plain_items code)
  calls_plain P [] = tt
  calls_plain P (i ∷ is) = calls_plain P is

  calls_place : (P : List ℕ → Type 0) (b : Bool) (x : Before) (l : ℕ) → CallsAre P (place_items b x l)
  calls_place P true x l = tt
  calls_place P false Open l = tt
  calls_place P false Shut l = tt
  calls_place P false Gone l = tt

  calls_close : (P : List ℕ → Type 0) (b : Bool) (x : Before) (h l : ℕ) → CallsAre P (close_items b x h l)
  calls_close P true x h l = tt
  calls_close P false Open h l = tt
  calls_close P false Shut h l = tt
  calls_close P false Gone h l = tt

  calls_cases : (P : List ℕ → Type 0) (cs : List CaseLabel) (l before : ℕ) → CallsAre P (case_items cs l before)
  calls_cases P [] l before = tt
  calls_cases P (Value v ∷ cs) l before = calls_front P (plain_items (less_by before v)) _ (calls_plain P (less_by before v)) (calls_cases P cs (suc l) v)
  calls_cases P (Default ∷ cs) l before = calls_cases P cs (suc l) before

  calls_wipe : (P : List ℕ → Type 0) (w : Words) (l : ℕ) (s : State) → CallsAre P (wiped_items m w l s)
  calls_wipe P w l s = by (w.count == 0)
    where
      by : (b : Bool) → CallsAre P (if b then place_items (s.named l) s.before l else wipe_items w.first w.count l)
      by true = calls_place P (s.named l) s.before l
      by false = tt

  calls_finish : (P : List ℕ → Type 0) (b : Bool) (x : Before) (l : ℕ) → CallsAre P (finish_items m b x l)
  calls_finish P true x l = calls_plain P (return_code m.back)
  calls_finish P false Open l = calls_plain P (return_code m.back)
  calls_finish P false Shut l = calls_plain P (return_code m.back)
  calls_finish P false Gone l = tt

  entry_calls : (C : Item → Type 0) (e : Entry) (s : State) → Told C e → CallsAre (IsNameOf C m) (entry_items m s e)
  entry_calls C (Run os) s t = calls_plain (IsNameOf C m) (code_in m os)
  entry_calls C (Head l) s t = tt
  entry_calls C (Place l) s t = calls_place (IsNameOf C m) (s.named l) s.before l
  entry_calls C (Close x l) s t = calls_close (IsNameOf C m) (s.named x) s.before x l
  entry_calls C (Branch q l) s t = tt
  entry_calls C (Goto l) s t = tt
  entry_calls C (Dispatch cs l b) s t = calls_front (IsNameOf C m) (case_items cs l 0) _ (calls_cases (IsNameOf C m) cs l 0) tt
  entry_calls C (CallTo f) s t = (inl (f, t, refl), tt)
  entry_calls C (CallHelper name) s t = (inr (name, t, refl), tt)
  entry_calls C (Wipe v from l) s t = calls_wipe (IsNameOf C m) (cells_of m v from) l s
  entry_calls C Ret s t = calls_plain (IsNameOf C m) (return_code m.back)
  entry_calls C (Finish l) s t = calls_finish (IsNameOf C m) (s.named l) s.before l

  calls : (C : Item → Type 0) (es : List Entry) (s : State) → Sound C es → CallsAre (IsNameOf C m) (cut m s es)
  calls C [] s f = tt
  calls C (e ∷ es) s f = calls_front (IsNameOf C m) (entry_items m s e) _ (entry_calls C e s f.1) (calls C es (behind_entry m s e) f.2)

  -- the piece of a function
  pub piece_once : (body : ItemList) → IsPlaced false false false body → MarksDiffer (function_items m body)
  piece_once body p =
      let none = no_cases_directly body p in
      let g : PlacesOnce (body_entries body) = (labels_once body (placed_any body p) [] _ 1 1 1 (omega arith) (omega arith) (no_case (Between 1 1) 0 _ none) (subst (Apart 0) (sym none) tt)).by 0 (Finish 0 ∷ []) (λ k q. tt, tt) (λ l h g. (omega (arith, h), tt)) in
      differ-append (plain_items (entry_code m.back)) _ (plain_once (entry_code m.back)) (once (body_entries body) begun g) (λ k q r. plain_mark k (entry_code m.back) q)

  pub piece_marked : (body : ItemList) (k : ℕ) → IsPlaced false false false body → IsJumpTo k (function_items m body) → IsMarkOf k (function_items m body)
  piece_marked body k p h =
      let b : Bound None_before (body_entries body) = (bound None_before body (placed_any body p) [] _ 1).by 0 (Finish 0 ∷ []) (inr (inl refl)) (inr (inl refl)) (inr (inl refl)) (inr (inl refl)) (λ k q. absurd q, tt) in
      ⊎_elim (λ q. absurd (plain_jump k (entry_code m.back) q)) (λ q. back_mark k (plain_items (entry_code m.back)) _ (⊎_elim (λ x. absurd x) (λ r. r) (marked None_before (body_entries body) begun k b q))) (split_jump k (plain_items (entry_code m.back)) _ h)

  pub piece_named : (body : ItemList) (k : ℕ) → IsPlaced false false false body → IsMarkOf k (function_items m body) → IsJumpTo k (function_items m body)
  piece_named body k p h =
      ⊎_elim (λ q. absurd (plain_mark k (entry_code m.back) q)) (λ q. back_jump k (plain_items (entry_code m.back)) _ (⊎_elim (λ x. absurd (subst Unnamed x tt)) (λ r. r) (named Any (body_entries body) begun k (sound Any body p (any body)) q))) (split_mark k (plain_items (entry_code m.back)) _ h)

  pub piece_words : (body : ItemList) → MarksAtWords (function_items m body)
  piece_words body = words_front (plain_items (entry_code m.back)) _ (words_plain (plain_items (entry_code m.back)) (λ k h. plain_mark k (entry_code m.back) h)) (words (body_entries body) begun (ending body))

  pub piece_calls : (C : Item → Type 0) (body : ItemList) → IsPlaced false false false body → Throughout C body → CallsAre (IsNameOf C m) (function_items m body)
  piece_calls C body p t = calls_front (IsNameOf C m) (plain_items (entry_code m.back)) _ (calls_plain (IsNameOf C m) (entry_code m.back)) (calls C (body_entries body) begun (sound C body p t))
