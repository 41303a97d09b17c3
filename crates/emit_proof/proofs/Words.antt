-- A function's piece has a word: behind what control passes, the end of a body writes the return.
use Rattle.std.proofs.Common.{◌≡◌, ℕ, ◌≤◌, Bool, true, false, ◌⊎◌, inl, inr, List, [], ◌∷◌, ◌++◌, ⊎_elim, refl, subst, arith}
use Rattle.std.specs.Prelude.{◌==◌, if◌then◌else◌}
use Rattle.c25_isa.specs.declared.instruction.JumpOp.TheVariants as jump
use Rattle.c25_isa.specs.declared.piece.PieceItem.{PieceItem}
use Rattle.c25_isa.specs.Pieces.{items_size}
use Rattle.c25_code.specs.Items.{plain_items, entry_code}
use Rattle.c25_code.proofs.Items.{items_size-append}
use Rattle.c25_code.proofs.Returns.{return_size}
use Rattle.acc_code.specs.AccTree.{ItemList}
use Rattle.emit_control.specs.declared.setting.Words.{Words}
use Rattle.emit_control.specs.declared.state.Before.{Before}
use Rattle.emit_control.specs.declared.state.Before.TheVariants.{Open, Shut, Gone}
use Rattle.emit_control.specs.Entries.{Entry, Run, Head, Place, Close, Branch, Goto, Dispatch, CallTo, CallHelper, Wipe, Ret, Finish}
use Rattle.emit_control.specs.Flow.{body_entries}
use Rattle.emit_control.specs.Settings.{Setting, cells_of}
use Rattle.emit_control.specs.Cuts.{State, begun, shut, naming, has_access, behind_run, case_items, default_label, jump_item, wipe_items, place_items, behind_place, close_items, behind_close, wiped_items, behind_wipe, finish_items, entry_items, behind_entry, cut, function_items}
use Rattle.emit_proof.proofs.Anywhere.{Later, later}

-- control passes
abbrev pub Passed : Before → Type 0
Passed Open = Unit {0}
Passed Shut = Unit {0}
Passed Gone = ⊥

-- the entry is the end of a body
abbrev pub Finishes : Entry → Type 0
Finishes (Run os) = ⊥
Finishes (Head l) = ⊥
Finishes (Place l) = ⊥
Finishes (Close h l) = ⊥
Finishes (Branch t l) = ⊥
Finishes (Goto l) = ⊥
Finishes (Dispatch cs l b) = ⊥
Finishes (CallTo f) = ⊥
Finishes (CallHelper name) = ⊥
Finishes (Wipe v from l) = ⊥
Finishes Ret = ⊥
Finishes (Finish l) = Unit {0}

front_word : (a b : List PieceItem) → 1 ≤ items_size a → 1 ≤ items_size (a ++ b)
front_word a b h = omega (arith, h, items_size-append a b)

back_word : (a b : List PieceItem) → 1 ≤ items_size b → 1 ≤ items_size (a ++ b)
back_word a b h = omega (arith, h, items_size-append a b)

-- an entry's items have a word, or control passes behind them as it did before
abbrev WordOrPassed : List PieceItem → Before → Type 0
WordOrPassed items b = (1 ≤ items_size items) ⊎ Passed b

run_passed : (b : Bool) (x : Before) → Passed (behind_run b x)
run_passed true x = tt
run_passed false Open = tt
run_passed false Shut = tt
run_passed false Gone = tt

place_word : (b : Bool) (l : ℕ) (x : Before) (n : ℕ → Bool) → b ≡ n l → WordOrPassed (place_items (n l) x l) (behind_place (n l) l (record { before = x; named = n })).before
place_word b l x n e = subst (λ c. WordOrPassed (place_items c x l) (behind_place c l (record { before = x; named = n })).before) e (by b x)
  where
    by : (c : Bool) (y : Before) → WordOrPassed (place_items c y l) (behind_place c l (record { before = y; named = n })).before
    by true y = inr tt
    by false Open = inr tt
    by false Shut = inr tt
    by false Gone = inr tt

close_word : (b : Bool) (h l : ℕ) (x : Before) (n : ℕ → Bool) → Passed x → WordOrPassed (close_items b x h l) (behind_close b h l (record { before = x; named = n })).before
close_word true h l x n p = inr p
close_word false h l Open n p = inl (omega arith)
close_word false h l Shut n p = inl (omega arith)
close_word false h l Gone n p = absurd p

wipe_word : (m : Setting) (w : Words) (l : ℕ) (s : State) → WordOrPassed (wiped_items m w l s) (behind_wipe m w l s).before
wipe_word m w l s = by (w.count == 0)
  where
    by : (b : Bool) → WordOrPassed (if b then place_items (s.named l) s.before l else wipe_items w.first w.count l) (if b then behind_place (s.named l) l s else shut (naming l s)).before
    by true = place_word (s.named l) l s.before s.named refl
    by false = inr tt

finish_word : (m : Setting) (b : Bool) (x : Before) (l : ℕ) → Passed x → 1 ≤ items_size (finish_items m b x l)
finish_word m true x l p = omega (arith, return_size m.back)
finish_word m false Open l p = return_size m.back
finish_word m false Shut l p = return_size m.back
finish_word m false Gone l p = absurd p

last_word : (m : Setting) (e : Entry) (s : State) → Finishes e → Passed s.before → 1 ≤ items_size (entry_items m s e)
last_word m (Run os) s f p = absurd f
last_word m (Head l) s f p = absurd f
last_word m (Place l) s f p = absurd f
last_word m (Close h l) s f p = absurd f
last_word m (Branch t l) s f p = absurd f
last_word m (Goto l) s f p = absurd f
last_word m (Dispatch cs l b) s f p = absurd f
last_word m (CallTo g) s f p = absurd f
last_word m (CallHelper name) s f p = absurd f
last_word m (Wipe v from l) s f p = absurd f
last_word m Ret s f p = absurd f
last_word m (Finish l) s f p = finish_word m (s.named l) s.before l p

-- an entry has a word, or control passes behind it
entry_word : (m : Setting) (s : State) (e : Entry) → Passed s.before → WordOrPassed (entry_items m s e) (behind_entry m s e).before
entry_word m s (Run os) p = inr (run_passed (has_access os) s.before)
entry_word m s (Head l) p = inr tt
entry_word m s (Place l) p = place_word (s.named l) l s.before s.named refl
entry_word m s (Close h l) p = close_word (s.named h) h l s.before s.named p
entry_word m s (Branch t l) p = inr tt
entry_word m s (Goto l) p = inl (omega arith)
entry_word m s (Dispatch cs l b) p = inl (back_word (case_items cs l 0) (jump_item jump.B (default_label cs l b) ∷ []) (omega arith))
entry_word m s (CallTo g) p = inr tt
entry_word m s (CallHelper name) p = inr tt
entry_word m s (Wipe v from l) p = wipe_word m (cells_of m v from) l s
entry_word m s Ret p = inl (return_size m.back)
entry_word m s (Finish l) p = inl (finish_word m (s.named l) s.before l p)

-- where control comes to entries with an end of a body among them, there is a word
pub cut_word : (m : Setting) (es : List Entry) (s : State) → Later Finishes es → Passed s.before → 1 ≤ items_size (cut m s es)
cut_word m [] s q p = absurd q
cut_word m (e ∷ es) s (inl q) p = front_word (entry_items m s e) _ (last_word m e s q p)
cut_word m (e ∷ es) s (inr q) p = ⊎_elim (λ h. front_word (entry_items m s e) _ h) (λ h. back_word (entry_items m s e) _ (cut_word m es (behind_entry m s e) q h)) (entry_word m s e p)

pub body_finishes : (body : ItemList) → Later Finishes (body_entries body)
body_finishes body = (later Finishes body [] _ 1).by 0 (Finish 0 ∷ []) (inl tt)

pub piece_has_word : (m : Setting) (body : ItemList) → 1 ≤ items_size (function_items m body)
piece_has_word m body = back_word (plain_items (entry_code m.back)) _ (cut_word m (body_entries body) begun (body_finishes body) tt)
