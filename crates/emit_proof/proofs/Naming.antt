-- Labels that jumps of entries lead to are named behind them, and stay so.
use Rattle.std.proofs.Common.{◌≡◌, ℕ, Bool, true, false, inl, inr}
use Rattle.std.specs.Prelude.{◌==◌, if◌then◌else◌}
use Rattle.c25_code.specs.Items.{return_code}
use Rattle.emit_proof.specs.Calls.{IsJumpTo}
use Rattle.emit_proof.proofs.Entries.{plain_jump, name_here, name_more, place_keeps, close_jump, close_keeps, cases_keep, dispatch_jump}
use Rattle.emit_control.specs.declared.setting.Words.{Words}
use Rattle.emit_control.specs.declared.state.Before.{Before}
use Rattle.emit_control.specs.declared.state.Before.TheVariants.{Open, Shut, Gone}
use Rattle.emit_control.specs.Entries.{Entry, Run, Head, Place, Close, Branch, Goto, Dispatch, CallTo, CallHelper, Wipe, Ret, Finish}
use Rattle.emit_control.specs.Cuts.{State, entry_items, behind_entry, place_items, behind_place, wipe_items, shut, naming, default_label, finish_items}
use Rattle.emit_control.specs.Settings.{Setting, cells_of, code_in}

abbrev at : Before → (ℕ → Bool) → State
at x n = record { before = x; named = n }

place_names : (b : Bool) (x : Before) (n : ℕ → Bool) (l k : ℕ) → IsJumpTo k (place_items b x l) → (behind_place b l (at x n)).named k ≡ true
place_names true x n l k h = absurd h
place_names false Open n l k (inl e) = name_here k l (n k) e
place_names false Open n l k (inr h) = absurd h
place_names false Shut n l k h = absurd h
place_names false Gone n l k h = absurd h

wipe_names : (none : Bool) (a c l k : ℕ) (s : State) → IsJumpTo k (if none then place_items (s.named l) s.before l else wipe_items a c l) → (if none then behind_place (s.named l) l s else shut (naming l s)).named k ≡ true
wipe_names true a c l k s h = place_names (s.named l) s.before s.named l k h
wipe_names false a c l k s (inl e) = name_here k l (s.named k) e
wipe_names false a c l k s (inr h) = absurd h

wipe_keeps : (none : Bool) (l k : ℕ) (s : State) → s.named k ≡ true → (if none then behind_place (s.named l) l s else shut (naming l s)).named k ≡ true
wipe_keeps true l k s h = place_keeps (s.named l) s.before s.named l k h
wipe_keeps false l k s h = name_more k l (s.named k) h

module _ (m : Setting) where
  finish_jump : (b : Bool) (x : Before) (l k : ℕ) → IsJumpTo k (finish_items m b x l) → ⊥
  finish_jump true x l k h = plain_jump k (return_code m.back) h
  finish_jump false Open l k h = plain_jump k (return_code m.back) h
  finish_jump false Shut l k h = plain_jump k (return_code m.back) h
  finish_jump false Gone l k h = h

  pub finish_leads_nowhere : (s : State) (l k : ℕ) → IsJumpTo k (entry_items m s (Finish l)) → ⊥
  finish_leads_nowhere s l k h = finish_jump (s.named l) s.before l k h

  pub entry_names : (e : Entry) (s : State) (k : ℕ) → IsJumpTo k (entry_items m s e) → (behind_entry m s e).named k ≡ true
  entry_names (Run os) s k h = absurd (plain_jump k (code_in m os) h)
  entry_names (Head l) s k h = absurd h
  entry_names (Place l) s k h = place_names (s.named l) s.before s.named l k h
  entry_names (Close x l) s k h = (close_jump (s.named x) s.before s.named x l k h).1
  entry_names (Branch t l) s k (inl e) = name_here k l (s.named k) e
  entry_names (Branch t l) s k (inr h) = absurd h
  entry_names (Goto l) s k (inl e) = name_here k l (s.named k) e
  entry_names (Goto l) s k (inr h) = absurd h
  entry_names (Dispatch cs l b) s k h = (dispatch_jump cs l b k s h).1
  entry_names (CallTo f) s k h = absurd h
  entry_names (CallHelper name) s k h = absurd h
  entry_names (Wipe v from l) s k h = let w : Words = cells_of m v from in wipe_names (w.count == 0) w.first w.count l k s h
  entry_names Ret s k h = absurd (plain_jump k (return_code m.back) h)
  entry_names (Finish l) s k h = absurd (finish_leads_nowhere s l k h)

  pub entry_keeps : (e : Entry) (s : State) (k : ℕ) → s.named k ≡ true → (behind_entry m s e).named k ≡ true
  entry_keeps (Run os) s k h = h
  entry_keeps (Head l) s k h = h
  entry_keeps (Place l) s k h = place_keeps (s.named l) s.before s.named l k h
  entry_keeps (Close x l) s k h = close_keeps (s.named x) s.before s.named x l k h
  entry_keeps (Branch t l) s k h = name_more k l (s.named k) h
  entry_keeps (Goto l) s k h = name_more k l (s.named k) h
  entry_keeps (Dispatch cs l b) s k h = name_more k (default_label cs l b) _ (cases_keep cs l k s h)
  entry_keeps (CallTo f) s k h = h
  entry_keeps (CallHelper name) s k h = h
  entry_keeps (Wipe v from l) s k h = wipe_keeps ((cells_of m v from).count == 0) l k s h
  entry_keeps Ret s k h = h
  entry_keeps (Finish l) s k h = h
