-- The direct operands of a function's code are those of its runs and of the word of its return address.
use Rattle.std.proofs.Common.{◌≡◌, ℕ, suc, ◌+◌, ◌*◌, Bool, true, false, List, [], ◌∷◌, ◌++◌, Option, Some, None, refl, ap, sym, ◌∙◌, subst, arith}
use Rattle.std.specs.Prelude.{◌==◌, ◌/◌, ◌%◌, if◌then◌else◌}
use Rattle.std.proofs.lemmas.List.{append_assoc}
use Rattle.std.proofs.lemmas.Bool.{and_from}
use Rattle.c25_isa.specs.declared.operand.Operand.TheVariants.{Direct}
use Rattle.c25_isa.specs.declared.instruction.Instr.TheVariants as instr
use Rattle.c25_isa.specs.declared.instruction.JumpOp.TheVariants as jump
use Rattle.c25_isa.specs.declared.piece.PieceItem.{PieceItem}
use Rattle.c25_isa.specs.declared.piece.PieceItem.TheVariants.{Do, Mark}
use Rattle.c25_isa.specs.Direct.{Words, direct_offset, may_name}
use Rattle.c25_code.specs.Items.{plain_items, entry_code, return_code}
use Rattle.acc_code.specs.declared.item.CaseLabel.{CaseLabel}
use Rattle.acc_code.specs.declared.item.CaseLabel.TheVariants.{Value, Default}
use Rattle.image_proof.specs.emit_control.declared.state.Before.{Before}
use Rattle.image_proof.specs.emit_control.declared.state.Before.TheVariants.{Open, Shut, Gone}
use Rattle.image_proof.specs.emit_control.declared.setting.Words.{Words as Cells}
use Rattle.image_proof.specs.emit_control.Entries.{Entry, Run, Head, Place, Close, Branch, Goto, Dispatch, CallTo, CallHelper, Wipe, Ret, Finish}
use Rattle.image_proof.specs.emit_control.Settings.{Setting, cells_of, code_in, function_name, helper_name}
use Rattle.image_proof.specs.emit_control.Cuts.{State, jump_on, jump_item, less_by, case_items, default_label, count_instr, place_items, close_items, wipe_items, finish_items, entry_items, behind_entry, cut}
use Rattle.image_proof.specs.DirectPieces.{EntryIsDirect, RunsAreDirect, IsNamedPlace, KeepsReturn}
use Rattle.image_proof.proofs.ItemBlocks.{CutsAtMarks}
use Rattle.image_proof.proofs.Straight.{run_straight}
use Rattle.image_proof.proofs.Choices.{less_all, count_holds}
use Rattle.image_proof.proofs.DirectNames.{named}
use Rattle.image_proof.proofs.DirectFold.{AllDirect, Passes, HaveNoDirect, none_pass, instr_passes, jump_passes, call_passes, mark_passes, code_passes, run_passes}

named_split : (w : Words) (stored : List ℕ) (store : Bool) (word : ℕ) → IsNamedPlace w word → may_name w stored store (word / 128 * 128 + word % 128) ≡ true
named_split w stored store word r = let e : word / 128 * 128 + word % 128 ≡ word = omega arith in ap (may_name w stored store) e ∙ named w stored store word r

less_has_none : (before n : ℕ) → HaveNoDirect (less_by before n)
less_has_none = less_all (λ i. direct_offset i ≡ None) (record { less = λ c. refl; less_long = λ shift c. refl; more = λ c. refl; more_long = λ shift c. refl })

count_has_none : (n : ℕ) → direct_offset (count_instr n) ≡ None
count_has_none = count_holds (λ i. direct_offset i ≡ None) (λ c. refl) (λ shift c. refl)

module _ (w : Words) (targets : List ℕ) (marks : ℕ → ℕ) (names : List ℕ → ℕ) where
  abbrev Passing : List PieceItem → Type 0
  Passing items = Passes w targets marks names items

  none : Passing []
  none = none_pass w targets marks names

  cases_pass : (cs : List CaseLabel) (l before : ℕ) (tail : List PieceItem) → Passing tail → Passing (case_items cs l before ++ tail)
  cases_pass [] l before tail p = p
  cases_pass (Value v ∷ cs) l before tail p =
      subst Passing (sym (append_assoc (plain_items (less_by before v)) (jump_item jump.Bz l ∷ case_items cs (suc l) v) tail))
      (code_passes w targets marks names (less_by before v) (jump_item jump.Bz l ∷ (case_items cs (suc l) v ++ tail)) (less_has_none before v)
      (jump_passes w targets marks names jump.Bz l (case_items cs (suc l) v ++ tail) (cases_pass cs (suc l) v tail p)))
  cases_pass (Default ∷ cs) l before tail p = cases_pass cs (suc l) before tail p

  a_jump : (l : ℕ) → Passing (jump_item jump.B l ∷ [])
  a_jump l = jump_passes w targets marks names jump.B l [] none

  a_mark : (l : ℕ) → Passing (Mark l ∷ [])
  a_mark l = mark_passes w targets marks names l [] none

  place_passes : (b : Bool) (x : Before) (l : ℕ) → Passing (place_items b x l)
  place_passes true x l = a_mark l
  place_passes false Open l = jump_passes w targets marks names jump.B l (Mark l ∷ []) (a_mark l)
  place_passes false Shut l = none
  place_passes false Gone l = none

  close_passes : (b : Bool) (x : Before) (h l : ℕ) → Passing (close_items b x h l)
  close_passes true x h l = none
  close_passes false Open h l = jump_passes w targets marks names jump.B l _ (a_jump h)
  close_passes false Shut h l = jump_passes w targets marks names jump.B l _ (a_jump h)
  close_passes false Gone h l = a_jump h

  a_ret : Passing (Do instr.Ret ∷ [])
  a_ret = instr_passes w targets marks names instr.Ret [] refl none

  -- the return address is taken into its word, and put back from there
  entry_passes : (back : Option ℕ) → KeepsReturn w back → Passing (plain_items (entry_code back))
  entry_passes None r = none
  entry_passes (Some word) r =
      run_passes w targets marks names (instr.Ldpk (word / 128) ∷ instr.Popd (Direct (word % 128)) ∷ []) (record { goes_on = refl; no_jump = refl }, (record { goes_on = refl; no_jump = refl }, tt))
      (λ d at. and_from _ _ (named_split w d.stored true word r) refl)

  put_passes : (word : ℕ) → IsNamedPlace w word → Passing (plain_items (instr.Ldpk (word / 128) ∷ instr.Pshd (Direct (word % 128)) ∷ []))
  put_passes word r =
      run_passes w targets marks names (instr.Ldpk (word / 128) ∷ instr.Pshd (Direct (word % 128)) ∷ []) (record { goes_on = refl; no_jump = refl }, (record { goes_on = refl; no_jump = refl }, tt))
      (λ d at. and_from _ _ (named_split w d.stored false word r) refl)

  return_passes : (back : Option ℕ) → KeepsReturn w back → Passing (plain_items (return_code back))
  return_passes None r = a_ret
  return_passes (Some word) r = record {
    by = λ at rest all cuts. (put_passes word r).by at (Do instr.Ret ∷ rest) (λ next ends. a_ret.by next rest all ends) cuts;
  }

  module _ (m : Setting) (keeps : KeepsReturn w m.back) where
    wipe_passes : (b : Bool) (c : Cells) (l : ℕ) (s : State) → Passing (if b then place_items (s.named l) s.before l else wipe_items c.first c.count l)
    wipe_passes true c l s = place_passes (s.named l) s.before l
    wipe_passes false c l s =
        instr_passes w targets marks names _ _ refl
        (instr_passes w targets marks names (count_instr c.count) _ (count_has_none c.count)
        (mark_passes w targets marks names l _
        (instr_passes w targets marks names _ _ refl (instr_passes w targets marks names _ _ refl (instr_passes w targets marks names _ _ refl (jump_passes w targets marks names jump.Bgz l [] none))))))

    finish_passes : (b : Bool) (x : Before) (l : ℕ) → Passing (finish_items m b x l)
    finish_passes true x l = mark_passes w targets marks names l _ (return_passes m.back keeps)
    finish_passes false Open l = return_passes m.back keeps
    finish_passes false Shut l = return_passes m.back keeps
    finish_passes false Gone l = none

    entry_items_pass : (s : State) (e : Entry) → EntryIsDirect w m e → Passing (entry_items m s e)
    entry_items_pass s (Run os) d = run_passes w targets marks names (code_in m os) (run_straight m.places os) d
    entry_items_pass s (Head l) d = a_mark l
    entry_items_pass s (Place l) d = place_passes (s.named l) s.before l
    entry_items_pass s (Close h l) d = close_passes (s.named h) s.before h l
    entry_items_pass s (Branch t l) d = jump_passes w targets marks names (jump_on t) l [] none
    entry_items_pass s (Goto l) d = a_jump l
    entry_items_pass s (Dispatch cs l behind) d = cases_pass cs l 0 (jump_item jump.B (default_label cs l behind) ∷ []) (a_jump (default_label cs l behind))
    entry_items_pass s (CallTo f) d = call_passes w targets marks names (function_name m f)
    entry_items_pass s (CallHelper name) d = call_passes w targets marks names (helper_name name)
    entry_items_pass s (Wipe v from l) d = wipe_passes ((cells_of m v from).count == 0) (cells_of m v from) l s
    entry_items_pass s Ret d = return_passes m.back keeps
    entry_items_pass s (Finish l) d = finish_passes (s.named l) s.before l

    cut_direct : (es : List Entry) (s : State) (at : ℕ) → RunsAreDirect w m es → CutsAtMarks targets at (cut m s es) → AllDirect w targets marks names at (cut m s es)
    cut_direct [] s at direct cuts = λ d. refl
    cut_direct (e ∷ es) s at direct cuts =
        (entry_items_pass s e direct.0).by at (cut m (behind_entry m s e) es) (λ next more. cut_direct es (behind_entry m s e) next direct.1 more) cuts

    -- from the start of a function
    pub function_direct : (es : List Entry) (s : State) (at : ℕ) → RunsAreDirect w m es → CutsAtMarks targets at (plain_items (entry_code m.back) ++ cut m s es)
        → AllDirect w targets marks names at (plain_items (entry_code m.back) ++ cut m s es)
    function_direct es s at direct cuts = (entry_passes m.back keeps).by at (cut m s es) (λ next more. cut_direct es s next direct more) cuts
