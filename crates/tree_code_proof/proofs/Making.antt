-- An object is made, and one ends: pointers to others stay what they are, and to one that ended any word stands.
use Rattle.std.proofs.Common.{◌≡◌, ◌≢◌, inl, inr, ℕ, suc, ◌+◌, ◌≤◌, Bool, true, false, cond, List, [], ◌∷◌, Option, Some, None, refl, sym, ap, ◌∙◌, subst, arith}
use Rattle.std.specs.Prelude.{◌==◌}
use Rattle.std.proofs.lemmas.Bool.{eq-eqb, ne_eqb, eqb-true, eqb-false}
use Rattle.std.proofs.lemmas.Option.{none-some, same_Some}
use Rattle.tree_code_proof.specs.Counted as source
use Rattle.c_tree.specs.Store.{Value, Word, Pointer, Null, Obj, is_pointer, with_new, with_object}
use Rattle.tree_code_proof.specs.Counted.{World}
use Rattle.ir_semantics.specs.Outside as words
use Rattle.ir_semantics.specs.Outside.{Memory, Frame, word_of}
use Rattle.ir_semantics.specs.TreeRun.{Tree}
use Rattle.tree_code_proof.specs.Seats.{Seat, Vacant, LiesAt, InFrame, Waits, Seats, with_seat, PointsAt, ValueAlike, IsPlace, Apart, AreSeats, IsFree}
use Rattle.tree_code_proof.specs.Beside.{Held, WordAlike, CellAlike, ScalarAlike, SeatAlike, HeldAlike, Alike}

-- values that are alike stay so under other seats, and so all that holds them
pub record Carried (seats : Seats) (made : ℕ) (to : Seats) (then_made : ℕ) : Type 0 where
  pub by : (pointing : Bool) (v : Value) (y : ℕ) → ValueAlike seats made pointing v y → ValueAlike to then_made pointing v y

module _ (seats : Seats) (made : ℕ) (to : Seats) (then_made : ℕ) (k : Carried seats made to then_made) where
  word_carried : (pointing : Bool) (v : Value) (y : Option ℕ) → WordAlike seats made pointing v y → WordAlike to then_made pointing v y
  word_carried pointing v None h = h
  word_carried pointing v (Some y) h = k.by pointing v y h

  cell_carried : (pointing : Bool) (c : source.Cell) (m : words.Cell) → CellAlike seats made pointing c m → CellAlike to then_made pointing c m
  cell_carried pointing source.Unset m h = h
  cell_carried pointing (source.Holds v) m h = word_carried pointing v (word_of m) h

  scalar_carried : (pointing : Bool) (c : source.Cell) (y : Option ℕ) → ScalarAlike seats made pointing c y → ScalarAlike to then_made pointing c y
  scalar_carried pointing source.Unset y h = h
  scalar_carried pointing (source.Holds v) y h = word_carried pointing v y h

  pub seat_carried : (s : Seat) (o : Option Obj) (m : Memory) (f : Frame) → SeatAlike seats made s o m f → SeatAlike to then_made s o m f
  seat_carried Vacant None m f h = h
  seat_carried Vacant (Some o) m f h = h
  seat_carried (LiesAt a n) None m f h = h
  seat_carried (LiesAt a n) (Some o) m f h = record { count = h.count; cells = λ i c get. cell_carried (is_pointer o.kind) c (m (a + i)) (h.cells i c get) }
  seat_carried (InFrame j) None m f h = h
  seat_carried (InFrame j) (Some o) m f h = record { count = h.count; cells = λ c get. scalar_carried (is_pointer o.kind) c (f j) (h.cells c get) }
  seat_carried (Waits p) None m f h = h
  seat_carried (Waits p) (Some o) m f h = h

  pub held_carried : (hs : List Held) → HeldAlike seats made hs → HeldAlike to then_made hs
  held_carried [] h = tt
  held_carried (x ∷ hs) h = (k.by x.pointing x.value x.word h.0, held_carried hs h.1)

-- another seat for one object
pub seat_here : (k : ℕ) (s : Seat) (seats : Seats) → (with_seat k s seats).seat k ≡ s
seat_here k s seats = ap (λ b. cond b s (seats.seat k)) (eq-eqb k k refl)

pub seat_apart : (k : ℕ) (s : Seat) (seats : Seats) (j : ℕ) → j ≢ k → (with_seat k s seats).seat j ≡ seats.seat j
seat_apart k s seats j ne = ap (λ b. cond b s (seats.seat j)) (ne_eqb j k ne)

pub apart_too : (s r : Seat) → Apart s r → Apart r s
apart_too Vacant Vacant h = h
apart_too Vacant (LiesAt b m) h = h
apart_too Vacant (InFrame j) h = h
apart_too Vacant (Waits q) h = h
apart_too (LiesAt a n) Vacant h = h
apart_too (LiesAt a n) (LiesAt b m) (inl h) = inr h
apart_too (LiesAt a n) (LiesAt b m) (inr h) = inl h
apart_too (LiesAt a n) (InFrame j) h = h
apart_too (LiesAt a n) (Waits q) h = h
apart_too (InFrame k) Vacant h = h
apart_too (InFrame k) (LiesAt b m) h = h
apart_too (InFrame k) (InFrame j) h = λ e. h (sym e)
apart_too (InFrame k) (Waits q) h = h
apart_too (Waits p) Vacant h = h
apart_too (Waits p) (LiesAt b m) h = h
apart_too (Waits p) (InFrame j) h = h
apart_too (Waits p) (Waits q) h = h

module _ (seats : Seats) (k : ℕ) (s : Seat) (h : AreSeats seats) (free : IsFree seats k s) where
  place_of : (j a n : ℕ) (b : Bool) → (j == k) ≡ b → cond b s (seats.seat j) ≡ LiesAt a n → IsPlace a n
  place_of j a n true e is = free.place a n is
  place_of j a n false e is = h.place j a n is

  apart_of : (i j : ℕ) (b c : Bool) → (i == k) ≡ b → (j == k) ≡ c → i ≢ j → Apart (cond b s (seats.seat i)) (cond c s (seats.seat j))
  apart_of i j true true e f ne = absurd (ne (eqb-true i k e ∙ sym (eqb-true j k f)))
  apart_of i j true false e f ne = free.apart j (eqb-false j k f)
  apart_of i j false true e f ne = apart_too s (seats.seat i) (free.apart i (eqb-false i k e))
  apart_of i j false false e f ne = h.apart i j ne

  pub seats_with : AreSeats (with_seat k s seats)
  seats_with = record { place = λ j a n is. place_of j a n (j == k) refl is; apart = λ i j ne. apart_of i j (i == k) (j == k) refl refl ne }

-- a new object
carried_new : (seats : Seats) (made : ℕ) (s : Seat) (pointing : Bool) (v : Value) (y : ℕ) → ValueAlike seats made pointing v y → ValueAlike (with_seat made s seats) (suc made) pointing v y
carried_new seats made s false (Word x) y h = h
carried_new seats made s false (Pointer object i) y h = h
carried_new seats made s false Null y h = h
carried_new seats made s true (Word x) y h = h
carried_new seats made s true (Pointer object i) y h = (omega (arith, h.0), (h.1.0, subst (λ r. PointsAt r i y) (sym (seat_apart made s seats object (λ e. omega (arith, h.0, e)))) h.1.1))
carried_new seats made s true Null y h = h

pub with_made : (seats : Seats) (made : ℕ) (s : Seat) → Carried seats made (with_seat made s seats) (suc made)
with_made seats made s = record { by = carried_new seats made s }

module _ (seats : Seats) (hs : List Held) (w : World) (t : Tree) (a : Alike seats hs w t) (s : Seat) (o : Obj) (pointing : is_pointer o.kind ≡ seats.points w.store.made) (free : IsFree seats w.store.made s) (is : SeatAlike (with_seat w.store.made s seats) (suc w.store.made) s (Some o) t.outside.memory t.frame) where
  new_seat : (j : ℕ) (b : Bool) → (j == w.store.made) ≡ b
      → SeatAlike (with_seat w.store.made s seats) (suc w.store.made) (cond b s (seats.seat j)) (cond b (Some o) (w.store.living j)) t.outside.memory t.frame
  new_seat j true e = is
  new_seat j false e = seat_carried seats w.store.made (with_seat w.store.made s seats) (suc w.store.made) (with_made seats w.store.made s) (seats.seat j) (w.store.living j) t.outside.memory t.frame (a.objects j)

  new_kind : (j : ℕ) (b : Bool) (r : Obj) → (j == w.store.made) ≡ b → cond b (Some o) (w.store.living j) ≡ Some r → is_pointer r.kind ≡ seats.points j
  new_kind j true r e get = ap (λ (x : Obj). is_pointer x.kind) (sym (same_Some o r get)) ∙ pointing ∙ ap seats.points (sym (eqb-true j w.store.made e))
  new_kind j false r e get = a.kinds j r get

  pub made_object : Alike (with_seat w.store.made s seats) hs (record w { store = with_new o w.store }) t
  made_object = record {
    seated = seats_with seats w.store.made s a.seated free;
    rooms = a.rooms;
    least = omega (arith, a.least);
    unmade = λ k le. seat_apart w.store.made s seats k (λ e. omega (arith, le, e)) ∙ a.unmade k (omega (arith, le));
    kinds = λ j r get. new_kind j (j == w.store.made) r refl get;
    objects = λ j. new_seat j (j == w.store.made) refl;
    held = held_carried seats w.store.made (with_seat w.store.made s seats) (suc w.store.made) (with_made seats w.store.made s) hs a.held;
    input = a.input;
    words = a.words;
    outs = a.outs;
    work = a.work;
  }

-- whether the cells of each object hold pointers, said otherwise of objects that don't live
carried_pointed : (seats : Seats) (made : ℕ) (points : ℕ → Bool) (pointing : Bool) (v : Value) (y : ℕ) → ValueAlike seats made pointing v y → ValueAlike (record seats { points = points }) made pointing v y
carried_pointed seats made points false (Word x) y h = h
carried_pointed seats made points false (Pointer object i) y h = h
carried_pointed seats made points false Null y h = h
carried_pointed seats made points true (Word x) y h = h
carried_pointed seats made points true (Pointer object i) y h = h
carried_pointed seats made points true Null y h = h

pub pointed : (seats : Seats) (hs : List Held) (w : World) (t : Tree) (points : ℕ → Bool) → ((k : ℕ) (o : Obj) → w.store.living k ≡ Some o → is_pointer o.kind ≡ points k) → Alike seats hs w t → Alike (record seats { points = points }) hs w t
pointed seats hs w t points kinds a =
    let to : Carried seats w.store.made (record seats { points = points }) w.store.made = record { by = carried_pointed seats w.store.made points } in
    record {
      seated = record { place = a.seated.place; apart = a.seated.apart };
      rooms = a.rooms;
      least = a.least;
      unmade = a.unmade;
      kinds = kinds;
      objects = λ k. seat_carried seats w.store.made (record seats { points = points }) w.store.made to (seats.seat k) (w.store.living k) t.outside.memory t.frame (a.objects k);
      held = held_carried seats w.store.made (record seats { points = points }) w.store.made to hs a.held;
      input = a.input;
      words = a.words;
      outs = a.outs;
      work = a.work;
    }

-- an object ends
ended_points : (s : Seat) (b : Bool) (i y : ℕ) → PointsAt s i y → PointsAt (cond b Vacant s) i y
ended_points s true i y h = tt
ended_points s false i y h = h

carried_end : (seats : Seats) (made k : ℕ) (pointing : Bool) (v : Value) (y : ℕ) → ValueAlike seats made pointing v y → ValueAlike (with_seat k Vacant seats) made pointing v y
carried_end seats made k false (Word x) y h = h
carried_end seats made k false (Pointer object i) y h = h
carried_end seats made k false Null y h = h
carried_end seats made k true (Word x) y h = h
carried_end seats made k true (Pointer object i) y h = (h.0, (h.1.0, ended_points (seats.seat object) (object == k) i y h.1.1))
carried_end seats made k true Null y h = h

pub with_ended : (seats : Seats) (made k : ℕ) → Carried seats made (with_seat k Vacant seats) made
with_ended seats made k = record { by = carried_end seats made k }

pub vacant_free : (seats : Seats) (k : ℕ) → IsFree seats k Vacant
vacant_free seats k = record { place = λ a n is. absurd (never a n is); apart = λ l ne. tt }
  where
    never : (a n : ℕ) → Vacant ≡ LiesAt a n → ⊥
    never a n is = cc

module _ (seats : Seats) (hs : List Held) (w : World) (t : Tree) (a : Alike seats hs w t) (k : ℕ) where
  old_seat : (j : ℕ) (b : Bool) → SeatAlike (with_seat k Vacant seats) w.store.made (cond b Vacant (seats.seat j)) (cond b None (w.store.living j)) t.outside.memory t.frame
  old_seat j true = tt
  old_seat j false = seat_carried seats w.store.made (with_seat k Vacant seats) w.store.made (with_ended seats w.store.made k) (seats.seat j) (w.store.living j) t.outside.memory t.frame (a.objects j)

  vacant_later : (j : ℕ) (b : Bool) → w.store.made ≤ j → cond b Vacant (seats.seat j) ≡ Vacant
  vacant_later j true le = refl
  vacant_later j false le = a.unmade j le

  old_kind : (j : ℕ) (b : Bool) (r : Obj) → cond b None (w.store.living j) ≡ Some r → is_pointer r.kind ≡ seats.points j
  old_kind j true r get = absurd (none-some r get)
  old_kind j false r get = a.kinds j r get

  pub ended_object : Alike (with_seat k Vacant seats) hs (record w { store = with_object k None w.store }) t
  ended_object = record {
    seated = seats_with seats k Vacant a.seated (vacant_free seats k);
    rooms = a.rooms;
    least = a.least;
    unmade = λ j le. vacant_later j (j == k) le;
    kinds = λ j r get. old_kind j (j == k) r get;
    objects = λ j. old_seat j (j == k);
    held = held_carried seats w.store.made (with_seat k Vacant seats) w.store.made (with_ended seats w.store.made k) hs a.held;
    input = a.input;
    words = a.words;
    outs = a.outs;
    work = a.work;
  }
