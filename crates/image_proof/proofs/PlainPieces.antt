-- The code of a function jumps by its marks alone.
use Rattle.std.proofs.Common.{◌≡◌, ℕ, suc, Bool, true, false, List, [], ◌∷◌, ◌++◌, Option, Some, None, refl}
use Rattle.std.specs.Prelude.{◌==◌, if◌then◌else◌}
use Rattle.std.specs.List.{AllByRecursion}
use Rattle.c25_isa.specs.declared.instruction.Instr.{Instr}
use Rattle.c25_isa.specs.declared.piece.PieceItem.{PieceItem}
use Rattle.c25_isa.specs.declared.piece.PieceItem.TheVariants.{Do, Mark, Jump, CallTo}
use Rattle.c25_isa.specs.Walk.{jump_target}
use Rattle.c25_code.specs.Items.{plain_items, entry_code, return_code}
use Rattle.acc_code.specs.declared.item.CaseLabel.{CaseLabel}
use Rattle.acc_code.specs.declared.item.CaseLabel.TheVariants.{Value, Default}
use Rattle.acc_code.specs.AccTree.{ItemList}
use Rattle.image_proof.specs.emit_control.declared.state.Before.{Before}
use Rattle.image_proof.specs.emit_control.declared.state.Before.TheVariants.{Open, Shut, Gone}
use Rattle.image_proof.specs.emit_control.declared.setting.Words.{Words}
use Rattle.image_proof.specs.emit_control.Entries.{Entry, Run, Head, Place, Close, Branch, Goto, Dispatch, CallTo as CallEntry, CallHelper, Wipe, Ret, Finish}
use Rattle.image_proof.specs.emit_control.Flow.{body_entries}
use Rattle.image_proof.specs.emit_control.Settings.{Setting, cells_of}
use Rattle.image_proof.specs.emit_control.Cuts.{State, begun, less_by, case_items, count_instr, place_items, close_items, wipe_items, finish_items, entry_items, behind_entry, cut, function_items}
use Rattle.image_proof.proofs.Straight.{AreStraight, run_straight}
use Rattle.image_proof.proofs.Choices.{less_all, count_holds}
use Rattle.image_proof.proofs.Targets.{JumpsByMarks}

by_marks : (a b : List PieceItem) → JumpsByMarks a → JumpsByMarks b → JumpsByMarks (a ++ b)
by_marks [] b f g = g
by_marks (Do i ∷ a) b f g = (f.0, by_marks a b f.1 g)
by_marks (Mark mark ∷ a) b f g = by_marks a b f g
by_marks (Jump op to o ∷ a) b f g = by_marks a b f g
by_marks (CallTo name o ∷ a) b f g = by_marks a b f g

straight_by_marks : (code : List Instr) → AreStraight code → JumpsByMarks (plain_items code)
straight_by_marks [] s = tt
straight_by_marks (i ∷ code) s = (s.0.no_jump, straight_by_marks code s.1)

return_by_marks : (back : Option ℕ) → JumpsByMarks (plain_items (return_code back))
return_by_marks None = (refl, tt)
return_by_marks (Some word) = (refl, (refl, (refl, tt)))

entry_by_marks : (back : Option ℕ) → JumpsByMarks (plain_items (entry_code back))
entry_by_marks None = tt
entry_by_marks (Some word) = (refl, (refl, tt))

plain_by_marks : (code : List Instr) → AllByRecursion (λ i. jump_target i ≡ None) code → JumpsByMarks (plain_items code)
plain_by_marks [] h = tt
plain_by_marks (i ∷ code) h = (h.0, plain_by_marks code h.1)

less_by_marks : (before n : ℕ) → JumpsByMarks (plain_items (less_by before n))
less_by_marks before n = plain_by_marks (less_by before n)
    (less_all (λ i. jump_target i ≡ None) (record { less = λ c. refl; less_long = λ shift c. refl; more = λ c. refl; more_long = λ shift c. refl }) before n)

cases_by_marks : (cs : List CaseLabel) (l before : ℕ) → JumpsByMarks (case_items cs l before)
cases_by_marks [] l before = tt
cases_by_marks (Value v ∷ cs) l before = by_marks (plain_items (less_by before v)) _ (less_by_marks before v) (cases_by_marks cs (suc l) v)
cases_by_marks (Default ∷ cs) l before = cases_by_marks cs (suc l) before

place_by_marks : (b : Bool) (x : Before) (l : ℕ) → JumpsByMarks (place_items b x l)
place_by_marks true x l = tt
place_by_marks false Open l = tt
place_by_marks false Shut l = tt
place_by_marks false Gone l = tt

close_by_marks : (b : Bool) (x : Before) (h l : ℕ) → JumpsByMarks (close_items b x h l)
close_by_marks true x h l = tt
close_by_marks false Open h l = tt
close_by_marks false Shut h l = tt
close_by_marks false Gone h l = tt

count_no_jump : (n : ℕ) → jump_target (count_instr n) ≡ None
count_no_jump = count_holds (λ i. jump_target i ≡ None) (λ c. refl) (λ shift c. refl)

module _ (m : Setting) where
  wipe_by_marks : (b : Bool) (w : Words) (l : ℕ) (s : State) → JumpsByMarks (if b then place_items (s.named l) s.before l else wipe_items w.first w.count l)
  wipe_by_marks true w l s = place_by_marks (s.named l) s.before l
  wipe_by_marks false w l s = (refl, (count_no_jump w.count, (refl, (refl, (refl, tt)))))

  finish_by_marks : (b : Bool) (x : Before) (l : ℕ) → JumpsByMarks (finish_items m b x l)
  finish_by_marks true x l = return_by_marks m.back
  finish_by_marks false Open l = return_by_marks m.back
  finish_by_marks false Shut l = return_by_marks m.back
  finish_by_marks false Gone l = tt

  entry_items_by_marks : (s : State) (e : Entry) → JumpsByMarks (entry_items m s e)
  entry_items_by_marks s (Run os) = straight_by_marks _ (run_straight m.places os)
  entry_items_by_marks s (Head l) = tt
  entry_items_by_marks s (Place l) = place_by_marks (s.named l) s.before l
  entry_items_by_marks s (Close h l) = close_by_marks (s.named h) s.before h l
  entry_items_by_marks s (Branch t l) = tt
  entry_items_by_marks s (Goto l) = tt
  entry_items_by_marks s (Dispatch cs l behind) = by_marks (case_items cs l 0) _ (cases_by_marks cs l 0) tt
  entry_items_by_marks s (CallEntry f) = tt
  entry_items_by_marks s (CallHelper name) = tt
  entry_items_by_marks s (Wipe v from l) = wipe_by_marks ((cells_of m v from).count == 0) (cells_of m v from) l s
  entry_items_by_marks s Ret = return_by_marks m.back
  entry_items_by_marks s (Finish l) = finish_by_marks (s.named l) s.before l

  cut_by_marks : (es : List Entry) (s : State) → JumpsByMarks (cut m s es)
  cut_by_marks [] s = tt
  cut_by_marks (e ∷ es) s = by_marks (entry_items m s e) _ (entry_items_by_marks s e) (cut_by_marks es (behind_entry m s e))

  pub function_by_marks : (body : ItemList) → JumpsByMarks (function_items m body)
  function_by_marks body = by_marks (plain_items (entry_code m.back)) _ (entry_by_marks m.back) (cut_by_marks (body_entries body) begun)
