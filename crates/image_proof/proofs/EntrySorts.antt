-- Each entry is a run, or ends the block before it, or is no code.
use Rattle.std.proofs.Common.{◌≡◌, ◌⊎◌, inl, inr, ℕ, Bool, true, false, List, [], ◌∷◌, Option, refl}
use Rattle.std.specs.Prelude.{◌==◌, if◌then◌else◌}
use Rattle.c25_isa.specs.declared.instruction.JumpOp.TheVariants as jump
use Rattle.c25_isa.specs.declared.piece.PieceItem.{PieceItem}
use Rattle.c25_isa.specs.Walk.{Placed, Known}
use Rattle.emit_blocks.specs.Steps.{Operation}
use Rattle.image_proof.specs.emit_control.declared.state.Before.{Before}
use Rattle.image_proof.specs.emit_control.declared.state.Before.TheVariants.{Open, Shut, Gone}
use Rattle.image_proof.specs.emit_control.declared.setting.Words.{Words}
use Rattle.image_proof.specs.emit_control.Entries.{Entry, Run, Head, Place, Close, Branch, Goto, Dispatch, CallTo, CallHelper, Wipe, Ret, Finish}
use Rattle.image_proof.specs.emit_control.Settings.{Setting, cells_of, function_name, helper_name}
use Rattle.image_proof.specs.emit_control.Cuts.{State, shut, naming, jump_on, place_items, behind_place, close_items, behind_close, wipe_items, finish_items, entry_items, behind_entry}
use Rattle.image_proof.proofs.Gathered.{entry_blocks}
use Rattle.image_proof.proofs.Apart.{CutFirst}
use Rattle.image_proof.proofs.Quiet.{AreQuiet}
use Rattle.image_proof.proofs.Closing.{Closes, jump_closes, call_closes, return_closes, mark_closes, mark_return_closes, jump_mark_closes, two_jumps_close, dispatch_closes, wipe_closes}

abbrev pub is_open : Before → Bool
is_open Open = true
is_open Shut = false
is_open Gone = false

-- what a run costs
abbrev pub entry_cost : (List Operation → ℕ) → Entry → ℕ
entry_cost c (Run os) = c os
entry_cost c e = 0

-- an entry that is no run has no block of its own
pub record IsNoRun (e : Entry) : Type 0 where
  pub blocks : (f : List Operation → List ℕ) (more : List (List ℕ)) → entry_blocks f e more ≡ more
  pub cost : (c : List Operation → ℕ) → entry_cost c e ≡ 0

-- no code, so the block that is open stays so
pub record IsNoCode (items : List PieceItem) (before after : Before) (e : Entry) : Type 0 where
  pub none : items ≡ []
  pub stays : is_open after ≡ is_open before
  pub later : is_open before ≡ true → (es : List Entry) → CutFirst (e ∷ es) → CutFirst es
  pub no_run : IsNoRun e

no_code : (before after : Before) (e : Entry) → is_open before ≡ false → is_open after ≡ false → IsNoRun e → IsNoCode [] before after e
no_code Open after e b a n = absurd cc
no_code Shut after e b a n = record { none = refl; stays = a; later = λ f. absurd cc; no_run = n }
no_code Gone after e b a n = record { none = refl; stays = a; later = λ f. absurd cc; no_run = n }

module _ (gives : Known → Placed → Option ℕ) (marks : ℕ → ℕ) (names : List ℕ → ℕ) (q : AreQuiet gives) where
  pub record IsCut (items : List PieceItem) (after : Before) (e : Entry) : Type 0 where
    pub closes : Closes gives marks names items
    pub shuts : is_open after ≡ false
    pub no_run : IsNoRun e

  abbrev Sort : List PieceItem → Before → Before → Entry → Type 0
  Sort items before after e = IsCut items after e ⊎ IsNoCode items before after e

  a_cut : (items : List PieceItem) (before after : Before) (e : Entry) → Closes gives marks names items → is_open after ≡ false → IsNoRun e → Sort items before after e
  a_cut items before after e c s n = inl (record { closes = c; shuts = s; no_run = n })

  place_sort : (b : Bool) (x : Before) (n : ℕ → Bool) (l : ℕ) (e : Entry) → IsNoRun e → Sort (place_items b x l) x (behind_place b l (record { before = x; named = n })).before e
  place_sort true x n l e r = a_cut _ _ _ e (mark_closes gives marks names q l) refl r
  place_sort false Open n l e r = a_cut _ _ _ e (jump_mark_closes gives marks names q jump.B l) refl r
  place_sort false Shut n l e r = inr (no_code Shut Shut e refl refl r)
  place_sort false Gone n l e r = inr (no_code Gone Shut e refl refl r)

  close_sort : (b : Bool) (x : Before) (n : ℕ → Bool) (h l : ℕ) → IsNoRun (Close h l) → Sort (close_items b x h l) x (behind_close b h l (record { before = x; named = n })).before (Close h l)
  close_sort true x n h l r = inr (record { none = refl; stays = refl; later = λ o es c. c; no_run = r })
  close_sort false Open n h l r = a_cut _ _ _ _ (two_jumps_close gives marks names q jump.B l h) refl r
  close_sort false Shut n h l r = a_cut _ _ _ _ (two_jumps_close gives marks names q jump.B l h) refl r
  close_sort false Gone n h l r = a_cut _ _ _ _ (jump_closes gives marks names q jump.B h) refl r

  module _ (m : Setting) where
    wipe_sort : (b : Bool) (w : Words) (l : ℕ) (s : State) (e : Entry) → IsNoRun e
        → Sort (if b then place_items (s.named l) s.before l else wipe_items w.first w.count l) s.before (if b then behind_place (s.named l) l s else shut (naming l s)).before e
    wipe_sort true w l s e r = place_sort (s.named l) s.before s.named l e r
    wipe_sort false w l s e r = a_cut _ _ _ e (wipe_closes gives marks names q w.first w.count l) refl r

    finish_sort : (b : Bool) (x : Before) (l : ℕ) → IsNoRun (Finish l) → Sort (finish_items m b x l) x Gone (Finish l)
    finish_sort true x l r = a_cut _ _ _ _ (mark_return_closes gives marks names q l m.back) refl r
    finish_sort false Open l r = a_cut _ _ _ _ (return_closes gives marks names q m.back) refl r
    finish_sort false Shut l r = a_cut _ _ _ _ (return_closes gives marks names q m.back) refl r
    finish_sort false Gone l r = inr (no_code Gone Gone _ refl refl r)

    -- the operations of a run
    pub record IsRun (e : Entry) : Type 0 where
      pub operations : List Operation
      pub is : e ≡ Run operations

    pub entry_sort : (s : State) (e : Entry) → IsCut (entry_items m s e) (behind_entry m s e).before e ⊎ (IsNoCode (entry_items m s e) s.before (behind_entry m s e).before e ⊎ IsRun e)
    entry_sort s e = by e
      where
        no_run : (e : Entry) → ((f : List Operation → List ℕ) (more : List (List ℕ)) → entry_blocks f e more ≡ more) → ((c : List Operation → ℕ) → entry_cost c e ≡ 0) → IsNoRun e
        no_run e b c = record { blocks = b; cost = c }

        either : (items : List PieceItem) (before after : Before) (e : Entry) → Sort items before after e → IsCut items after e ⊎ (IsNoCode items before after e ⊎ IsRun e)
        either items before after e (inl c) = inl c
        either items before after e (inr n) = inr (inl n)

        by : (e : Entry) → IsCut (entry_items m s e) (behind_entry m s e).before e ⊎ (IsNoCode (entry_items m s e) s.before (behind_entry m s e).before e ⊎ IsRun e)
        by (Run os) = inr (inr (record { operations = os; is = refl }))
        by (Head l) = inl (record { closes = mark_closes gives marks names q l; shuts = refl; no_run = no_run _ (λ f more. refl) (λ c. refl) })
        by (Place l) = either _ _ _ _ (place_sort (s.named l) s.before s.named l (Place l) (no_run _ (λ f more. refl) (λ c. refl)))
        by (Close h l) = either _ _ _ _ (close_sort (s.named h) s.before s.named h l (no_run _ (λ f more. refl) (λ c. refl)))
        by (Branch t l) = inl (record { closes = jump_closes gives marks names q (jump_on t) l; shuts = refl; no_run = no_run _ (λ f more. refl) (λ c. refl) })
        by (Goto l) = inl (record { closes = jump_closes gives marks names q jump.B l; shuts = refl; no_run = no_run _ (λ f more. refl) (λ c. refl) })
        by (Dispatch cs l behind) = inl (record { closes = dispatch_closes gives marks names q cs l behind; shuts = refl; no_run = no_run _ (λ f more. refl) (λ c. refl) })
        by (CallTo f) = inl (record { closes = call_closes gives marks names q (function_name m f); shuts = refl; no_run = no_run _ (λ g more. refl) (λ c. refl) })
        by (CallHelper name) = inl (record { closes = call_closes gives marks names q (helper_name name); shuts = refl; no_run = no_run _ (λ f more. refl) (λ c. refl) })
        by (Wipe v from l) = either _ _ _ _ (wipe_sort ((cells_of m v from).count == 0) (cells_of m v from) l s (Wipe v from l) (no_run _ (λ f more. refl) (λ c. refl)))
        by Ret = inl (record { closes = return_closes gives marks names q m.back; shuts = refl; no_run = no_run _ (λ f more. refl) (λ c. refl) })
        by (Finish l) = either _ _ _ _ (finish_sort (s.named l) s.before l (no_run _ (λ f more. refl) (λ c. refl)))
