-- A scalar in the frame of the active function is written.
use Rattle.std.proofs.Common.{◌≡◌, ℕ, Bool, true, false, cond, List, ◌∷◌, Option, Some, None, refl, sym, ap, ◌∙◌, subst}
use Rattle.std.specs.Prelude.{◌==◌, slice_set}
use Rattle.std.proofs.lemmas.Bool.{eqb-true, eqb-false}
use Rattle.std.proofs.lemmas.Option.{none-some}
use Rattle.word_base.specs.declared.outcome.UndefinedKind.TheVariants.{BadPointer}
use Rattle.tree_code_proof.specs.Counted as source
use Rattle.c_tree.specs.Store.{Value, Obj, is_pointer, cell_of, with_cell}
use Rattle.tree_code_proof.specs.Counted.{World, store_value}
use Rattle.c_tree.specs.declared.program.VarRef.TheVariants.{Scalar}
use Rattle.ir_semantics.specs.Outside.{Memory, Frame, with_scalar}
use Rattle.ir_semantics.specs.TreeRun as run
use Rattle.ir_semantics.specs.TreeRun.{Tree}
use Rattle.tree_code_proof.specs.Seats.{Seat, Vacant, LiesAt, InFrame, Waits, Seats, ValueAlike, Apart}
use Rattle.tree_code_proof.specs.Beside.{Held, WordAlike, ScalarAlike, FrameAlike, SeatAlike, Alike}
use Rattle.tree_code_proof.proofs.Growing.{write_name_grows}
use Rattle.tree_code_proof.proofs.Rules.{Rel}
use Rattle.tree_code_proof.proofs.Cells.{found, set_here, set_length}
use Rattle.tree_code_proof.proofs.Reading.{Valued, failing}
use Rattle.tree_code_proof.proofs.Writing.{kinds_written, scalar_apart, scalar_here}

module _ (seats : Seats) (made : ℕ) where
  own : (k : ℕ) (o : Obj) (f : Frame) (x : ℕ) (v : Value) → FrameAlike seats made k o f → ValueAlike seats made (is_pointer o.kind) v x → FrameAlike seats made k (record o { cells = slice_set o.cells 0 (source.Holds v) }) (with_scalar k x f)
  own k o f x v h is = record {
    count = set_length o.cells 0 (source.Holds v) ∙ h.count;
    cells = λ c get.
        subst (λ d. ScalarAlike seats made (is_pointer o.kind) d (with_scalar k x f k)) (set_here o.cells 0 (source.Holds v) c get)
        (subst (λ y. WordAlike seats made (is_pointer o.kind) v y) (sym (scalar_here f k x)) is);
  }

  own_seat : (s : Seat) (k : ℕ) (o : Option Obj) (m : Memory) (f : Frame) (x : ℕ) (v : Value) (wanted : Bool) (c : source.Cell) → s ≡ InFrame k → cell_of o 0 wanted ≡ Some c → SeatAlike seats made s o m f → ValueAlike seats made wanted v x
      → SeatAlike seats made s (with_cell o 0 v) m (with_scalar k x f)
  own_seat s k None m f x v wanted c at e h is = absurd (none-some c e)
  own_seat s k (Some o) m f x v wanted c at e h is =
      let g = subst (λ s. SeatAlike seats made s (Some o) m f) at h in
      subst (λ s. SeatAlike seats made s (with_cell (Some o) 0 v) m (with_scalar k x f)) (sym at) (own k o f x v g (subst (λ b. ValueAlike seats made b v x) (sym (found o 0 wanted c e).0) is))

  other_seat : (k x : ℕ) (s : Seat) (o : Option Obj) (m : Memory) (f : Frame) → Apart (InFrame k) s → SeatAlike seats made s o m f → SeatAlike seats made s o m (with_scalar k x f)
  other_seat k x Vacant None m f far h = h
  other_seat k x Vacant (Some o) m f far h = h
  other_seat k x (LiesAt b n) None m f far h = h
  other_seat k x (LiesAt b n) (Some o) m f far h = h
  other_seat k x (InFrame j) None m f far h = h
  other_seat k x (InFrame j) (Some o) m f far h = record {
    count = h.count;
    cells = λ c get. subst (λ y. ScalarAlike seats made (is_pointer o.kind) c y) (sym (scalar_apart f k x j (λ e. far (sym e)))) (h.cells c get);
  }
  other_seat k x (Waits q) None m f far h = h
  other_seat k x (Waits q) (Some o) m f far h = h

module _ (seats : Seats) (hs : List Held) (w : World) (t : Tree) (a : Alike seats hs w t) (object k : ℕ) (v : Value) (x : ℕ) (wanted : Bool) (c : source.Cell) (at : seats.seat object ≡ InFrame k) (e : cell_of (w.store.living object) 0 wanted ≡ Some c) (is : ValueAlike seats w.store.made wanted v x) where
  seat_behind : (j : ℕ) (b : Bool) → (j == object) ≡ b → SeatAlike seats w.store.made (seats.seat j) (cond b (with_cell (w.store.living object) 0 v) (w.store.living j)) t.outside.memory (with_scalar k x t.frame)
  seat_behind j true same =
      let j_is : j ≡ object = eqb-true j object same in
      subst (λ s. SeatAlike seats w.store.made s (with_cell (w.store.living object) 0 v) t.outside.memory (with_scalar k x t.frame)) (ap seats.seat (sym j_is))
      (own_seat seats w.store.made (seats.seat object) k (w.store.living object) t.outside.memory t.frame x v wanted c at e (a.objects object) is)
  seat_behind j false differ =
      other_seat seats w.store.made k x (seats.seat j) (w.store.living j) t.outside.memory t.frame (subst (λ s. Apart s (seats.seat j)) at (a.seated.apart object j (λ p. eqb-false j object differ (sym p)))) (a.objects j)

  -- both states behind a write
  pub wrote_scalar : Alike seats hs (store_value object 0 v w) (record t { frame = with_scalar k x t.frame })
  wrote_scalar = record { seated = a.seated; rooms = a.rooms; least = a.least; unmade = a.unmade; kinds = kinds_written seats.points w.store.living object 0 v a.kinds; objects = λ j. seat_behind j (j == object) refl; held = a.held; input = a.input; words = a.words; outs = a.outs; work = a.work }

module _ (seats : Seats) (hs : List Held) (w : World) (t : Tree) (wanted : Bool) (v : Value) (x : ℕ) (a : Alike seats (record { pointing = wanted; value = v; word = x } ∷ hs) w t) where
  put_scalar : (object k place : ℕ) (c : Option source.Cell) → cell_of (w.store.living object) 0 wanted ≡ c → seats.seat object ≡ InFrame k → Rel (Valued seats hs wanted) (source.write_cell c object 0 v place w) (run.write_scalar k x t)
  put_scalar object k place None e p = failing seats _ (Valued seats hs wanted) BadPointer place w t (run.write_scalar k x) a (write_name_grows (λ v. None) (Scalar k) x)
  put_scalar object k place (Some c) e p = wrote_scalar seats _ w t a object k v x wanted c p e a.held.0

  pub write_in_frame : (object k place : ℕ) → seats.seat object ≡ InFrame k → Rel (Valued seats hs wanted) (source.save object 0 wanted v place w) (run.write_scalar k x t)
  write_in_frame object k place p = put_scalar object k place (cell_of (w.store.living object) 0 wanted) refl p
