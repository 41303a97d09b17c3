-- The code of a function calls by names alone.
use Rattle.std.proofs.Common.{◌≡◌, ℕ, suc, Bool, true, false, List, [], ◌∷◌, ◌++◌, Option, Some, None, refl}
use Rattle.std.specs.Prelude.{◌==◌, if◌then◌else◌}
use Rattle.std.specs.List.{AllByRecursion}
use Rattle.c25_isa.specs.declared.instruction.Instr.{Instr}
use Rattle.c25_isa.specs.declared.instruction.Instr.TheVariants.{Call as CallInstr}
use Rattle.c25_isa.specs.declared.piece.PieceItem.{PieceItem}
use Rattle.c25_isa.specs.declared.piece.PieceItem.TheVariants.{Do, Mark, Jump, CallTo}
use Rattle.c25_isa.specs.Walk.{ends_stretch}
use Rattle.image_proof.specs.Leading.{call_target}
use Rattle.c25_code.specs.Items.{plain_items, entry_code, return_code}
use Rattle.acc_code.specs.declared.item.CaseLabel.{CaseLabel}
use Rattle.acc_code.specs.declared.item.CaseLabel.TheVariants.{Value, Default}
use Rattle.acc_code.specs.AccTree.{ItemList}
use Rattle.image_proof.specs.emit_control.declared.state.Before.{Before}
use Rattle.image_proof.specs.emit_control.declared.state.Before.TheVariants.{Open, Shut, Gone}
use Rattle.image_proof.specs.emit_control.declared.setting.Words.{Words}
use Rattle.image_proof.specs.emit_control.Entries.{Entry, Run, Head, Place, Close, Branch, Goto, Dispatch, CallTo as CallEntry, CallHelper, Wipe, Ret, Finish}
use Rattle.image_proof.specs.emit_control.Flow.{body_entries}
use Rattle.image_proof.specs.emit_control.Settings.{Setting, cells_of}
use Rattle.image_proof.specs.emit_control.Cuts.{State, begun, less_by, case_items, count_instr, place_items, close_items, wipe_items, finish_items, entry_items, behind_entry, cut, function_items}
use Rattle.image_proof.proofs.Straight.{AreStraight, run_straight}
use Rattle.image_proof.proofs.Choices.{less_all, count_holds}
use Rattle.image_proof.proofs.JumpsWithin.{CallsByNames}

-- a call ends a stretch
no_call : (i : Instr) → ends_stretch i ≡ false → call_target i ≡ None
no_call (CallInstr to o) goes_on = absurd cc
no_call i goes_on = refl

by_names : (a b : List PieceItem) → CallsByNames a → CallsByNames b → CallsByNames (a ++ b)
by_names [] b f g = g
by_names (Do i ∷ a) b f g = (f.0, by_names a b f.1 g)
by_names (Mark mark ∷ a) b f g = by_names a b f g
by_names (Jump op to o ∷ a) b f g = by_names a b f g
by_names (CallTo name o ∷ a) b f g = by_names a b f g

straight_by_names : (code : List Instr) → AreStraight code → CallsByNames (plain_items code)
straight_by_names [] s = tt
straight_by_names (i ∷ code) s = (no_call i s.0.goes_on, straight_by_names code s.1)

return_by_names : (back : Option ℕ) → CallsByNames (plain_items (return_code back))
return_by_names None = (refl, tt)
return_by_names (Some word) = (refl, (refl, (refl, tt)))

entry_by_names : (back : Option ℕ) → CallsByNames (plain_items (entry_code back))
entry_by_names None = tt
entry_by_names (Some word) = (refl, (refl, tt))

plain_by_names : (code : List Instr) → AllByRecursion (λ i. call_target i ≡ None) code → CallsByNames (plain_items code)
plain_by_names [] h = tt
plain_by_names (i ∷ code) h = (h.0, plain_by_names code h.1)

less_by_names : (before n : ℕ) → CallsByNames (plain_items (less_by before n))
less_by_names before n = plain_by_names (less_by before n)
    (less_all (λ i. call_target i ≡ None) (record { less = λ c. refl; less_long = λ shift c. refl; more = λ c. refl; more_long = λ shift c. refl }) before n)

cases_by_names : (cs : List CaseLabel) (l before : ℕ) → CallsByNames (case_items cs l before)
cases_by_names [] l before = tt
cases_by_names (Value v ∷ cs) l before = by_names (plain_items (less_by before v)) _ (less_by_names before v) (cases_by_names cs (suc l) v)
cases_by_names (Default ∷ cs) l before = cases_by_names cs (suc l) before

place_by_names : (b : Bool) (x : Before) (l : ℕ) → CallsByNames (place_items b x l)
place_by_names true x l = tt
place_by_names false Open l = tt
place_by_names false Shut l = tt
place_by_names false Gone l = tt

close_by_names : (b : Bool) (x : Before) (h l : ℕ) → CallsByNames (close_items b x h l)
close_by_names true x h l = tt
close_by_names false Open h l = tt
close_by_names false Shut h l = tt
close_by_names false Gone h l = tt

count_no_call : (n : ℕ) → call_target (count_instr n) ≡ None
count_no_call = count_holds (λ i. call_target i ≡ None) (λ c. refl) (λ shift c. refl)

module _ (m : Setting) where
  wipe_by_names : (b : Bool) (w : Words) (l : ℕ) (s : State) → CallsByNames (if b then place_items (s.named l) s.before l else wipe_items w.first w.count l)
  wipe_by_names true w l s = place_by_names (s.named l) s.before l
  wipe_by_names false w l s = (refl, (count_no_call w.count, (refl, (refl, (refl, tt)))))

  finish_by_names : (b : Bool) (x : Before) (l : ℕ) → CallsByNames (finish_items m b x l)
  finish_by_names true x l = return_by_names m.back
  finish_by_names false Open l = return_by_names m.back
  finish_by_names false Shut l = return_by_names m.back
  finish_by_names false Gone l = tt

  entry_items_by_names : (s : State) (e : Entry) → CallsByNames (entry_items m s e)
  entry_items_by_names s (Run os) = straight_by_names _ (run_straight m.places os)
  entry_items_by_names s (Head l) = tt
  entry_items_by_names s (Place l) = place_by_names (s.named l) s.before l
  entry_items_by_names s (Close h l) = close_by_names (s.named h) s.before h l
  entry_items_by_names s (Branch t l) = tt
  entry_items_by_names s (Goto l) = tt
  entry_items_by_names s (Dispatch cs l behind) = by_names (case_items cs l 0) _ (cases_by_names cs l 0) tt
  entry_items_by_names s (CallEntry f) = tt
  entry_items_by_names s (CallHelper name) = tt
  entry_items_by_names s (Wipe v from l) = wipe_by_names ((cells_of m v from).count == 0) (cells_of m v from) l s
  entry_items_by_names s Ret = return_by_names m.back
  entry_items_by_names s (Finish l) = finish_by_names (s.named l) s.before l

  cut_by_names : (es : List Entry) (s : State) → CallsByNames (cut m s es)
  cut_by_names [] s = tt
  cut_by_names (e ∷ es) s = by_names (entry_items m s e) _ (entry_items_by_names s e) (cut_by_names es (behind_entry m s e))

  pub function_by_names : (body : ItemList) → CallsByNames (function_items m body)
  function_by_names body = by_names (plain_items (entry_code m.back)) _ (entry_by_names m.back) (cut_by_names (body_entries body) begun)
