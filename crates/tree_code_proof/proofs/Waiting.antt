-- While a function waits for a call, the scalars of its frame stay as they are, and behind the call they stand in its frame again.
use Rattle.std.proofs.Common.{◌≡◌, ℕ, ◌≤◌, Bool, true, false, List, Option, Some, None, refl, sym, ap, subst, arith}
use Rattle.c_tree.specs.Store.{Value, Word, Pointer, Null, Obj}
use Rattle.tree_code_proof.specs.Counted.{World}
use Rattle.ir_semantics.specs.Outside.{Memory, Frame}
use Rattle.ir_semantics.specs.TreeRun.{Tree}
use Rattle.tree_code_proof.specs.Seats.{Seat, Vacant, LiesAt, InFrame, Waits, Seats, PointsAt, ValueAlike, Apart}
use Rattle.tree_code_proof.specs.Beside.{Held, SeatAlike, FrameAlike, Alike}
use Rattle.tree_code_proof.proofs.Making.{Carried, seat_carried, held_carried}

-- the seat of an object while its function waits
abbrev pub waits : Seat → Option Obj → Seat
waits Vacant o = Vacant
waits (LiesAt a n) o = LiesAt a n
waits (InFrame k) None = Vacant
waits (InFrame k) (Some o) = Waits o
waits (Waits p) o = Waits p

abbrev pub waiting : (ℕ → Option Obj) → Seats → Seats
waiting living seats = record seats { seat = λ k. waits (seats.seat k) (living k) }

points_waiting : (s : Seat) (o : Option Obj) (i y : ℕ) → PointsAt s i y → PointsAt (waits s o) i y
points_waiting Vacant o i y h = h
points_waiting (LiesAt a n) o i y h = h
points_waiting (InFrame k) o i y h = absurd h
points_waiting (Waits p) o i y h = h

carried_waiting : (seats : Seats) (made : ℕ) (living : ℕ → Option Obj) (pointing : Bool) (v : Value) (y : ℕ) → ValueAlike seats made pointing v y → ValueAlike (waiting living seats) made pointing v y
carried_waiting seats made living false (Word x) y h = h
carried_waiting seats made living false (Pointer object i) y h = h
carried_waiting seats made living false Null y h = h
carried_waiting seats made living true (Word x) y h = h
carried_waiting seats made living true (Pointer object i) y h = (h.0, (h.1.0, points_waiting (seats.seat object) (living object) i y h.1.1))
carried_waiting seats made living true Null y h = h

place_waiting : (s : Seat) (o : Option Obj) (a n : ℕ) → waits s o ≡ LiesAt a n → s ≡ LiesAt a n
place_waiting Vacant o a n e = e
place_waiting (LiesAt b m) o a n e = e
place_waiting (InFrame k) None a n e = absurd (vacant_lies e)
  where
    vacant_lies : Vacant ≡ LiesAt a n → ⊥
    vacant_lies e = cc
place_waiting (InFrame k) (Some o) a n e = absurd (waits_lies e)
  where
    waits_lies : Waits o ≡ LiesAt a n → ⊥
    waits_lies e = cc
place_waiting (Waits p) o a n e = e

apart_waiting : (s r : Seat) (o p : Option Obj) → Apart s r → Apart (waits s o) (waits r p)
apart_waiting Vacant r o p h = tt
apart_waiting (LiesAt a n) Vacant o p h = tt
apart_waiting (LiesAt a n) (LiesAt b m) o p h = h
apart_waiting (LiesAt a n) (InFrame k) o None h = tt
apart_waiting (LiesAt a n) (InFrame k) o (Some q) h = tt
apart_waiting (LiesAt a n) (Waits q) o p h = tt
apart_waiting (InFrame k) r None p h = tt
apart_waiting (InFrame k) r (Some q) p h = tt
apart_waiting (Waits q) r o p h = tt

-- an object of an address, where the frame is another one
seat_waiting : (seats : Seats) (made : ℕ) (s : Seat) (o : Option Obj) (m : Memory) (f g : Frame) → SeatAlike seats made s o m f → SeatAlike seats made (waits s o) o m g
seat_waiting seats made Vacant None m f g h = h
seat_waiting seats made Vacant (Some o) m f g h = h
seat_waiting seats made (LiesAt a n) None m f g h = h
seat_waiting seats made (LiesAt a n) (Some o) m f g h = h
seat_waiting seats made (InFrame k) None m f g h = tt
seat_waiting seats made (InFrame k) (Some o) m f g h = refl
seat_waiting seats made (Waits p) None m f g h = h
seat_waiting seats made (Waits p) (Some o) m f g h = h

pub with_waiting : (seats : Seats) (made : ℕ) (living : ℕ → Option Obj) → Carried seats made (waiting living seats) made
with_waiting seats made living = record { by = carried_waiting seats made living }

-- the frame of another function stands
pub waits_for_call : (seats : Seats) (hs : List Held) (w : World) (t : Tree) (f : Frame) (r : Option ℕ) → Alike seats hs w t → Alike (waiting w.store.living seats) hs w (record t { frame = f; result = r })
waits_for_call seats hs w t f r a = record {
  seated = record {
    place = λ k b n is. a.seated.place k b n (place_waiting (seats.seat k) (w.store.living k) b n is);
    apart = λ k l ne. apart_waiting (seats.seat k) (seats.seat l) (w.store.living k) (w.store.living l) (a.seated.apart k l ne);
  };
  rooms = a.rooms;
  least = a.least;
  kinds = a.kinds;
  unmade = λ k le. ap (λ s. waits s (w.store.living k)) (a.unmade k le);
  objects = λ k.
      seat_carried seats w.store.made (waiting w.store.living seats) w.store.made (with_waiting seats w.store.made w.store.living) (waits (seats.seat k) (w.store.living k)) (w.store.living k) t.outside.memory f
      (seat_waiting seats w.store.made (seats.seat k) (w.store.living k) t.outside.memory t.frame f (a.objects k));
  held = held_carried seats w.store.made (waiting w.store.living seats) w.store.made (with_waiting seats w.store.made w.store.living) hs a.held;
  input = a.input;
  words = a.words;
  outs = a.outs;
  work = a.work;
}

-- behind the call
points_again : (seats : Seats) (made : ℕ) (s : Seat) (o : Option Obj) (m : Memory) (f : Frame) (i y : ℕ) → SeatAlike seats made s o m f → PointsAt (waits s o) i y → PointsAt s i y
points_again seats made Vacant o m f i y h p = p
points_again seats made (LiesAt a n) o m f i y h p = p
points_again seats made (InFrame k) None m f i y h p = absurd h
points_again seats made (InFrame k) (Some o) m f i y h p = absurd p
points_again seats made (Waits q) o m f i y h p = p

module _ (seats : Seats) (hs : List Held) (w : World) (t : Tree) (a : Alike seats hs w t) (made : ℕ) (le : w.store.made ≤ made) where
  carried_again : (pointing : Bool) (v : Value) (y : ℕ) → ValueAlike (waiting w.store.living seats) made pointing v y → ValueAlike seats made pointing v y
  carried_again false (Word x) y h = h
  carried_again false (Pointer object i) y h = h
  carried_again false Null y h = h
  carried_again true (Word x) y h = h
  carried_again true (Pointer object i) y h = (h.0, (h.1.0, points_again seats w.store.made (seats.seat object) (w.store.living object) t.outside.memory t.frame i y (a.objects object) h.1.1))
  carried_again true Null y h = h

  pub again : Carried (waiting w.store.living seats) made seats made
  again = record { by = carried_again }

  carried_later : (pointing : Bool) (v : Value) (y : ℕ) → ValueAlike seats w.store.made pointing v y → ValueAlike seats made pointing v y
  carried_later false (Word x) y h = h
  carried_later false (Pointer object i) y h = h
  carried_later false Null y h = h
  carried_later true (Word x) y h = h
  carried_later true (Pointer object i) y h = (omega (arith, h.0, le), h.1)
  carried_later true Null y h = h

  pub later : Carried seats w.store.made seats made
  later = record { by = carried_later }

  -- the scalars of the frame, as they were when the call began, and every other object as it is now
  seat_again : (s : Seat) (o p : Option Obj) (m n : Memory) (f g : Frame) → SeatAlike seats w.store.made s o m f → SeatAlike seats made (waits s o) p n g → SeatAlike seats made s p n f
  seat_again Vacant o None m n f g h k = k
  seat_again Vacant o (Some q) m n f g h k = k
  seat_again (LiesAt b c) o None m n f g h k = k
  seat_again (LiesAt b c) o (Some q) m n f g h k = k
  seat_again (InFrame j) None p m n f g h k = absurd h
  seat_again (InFrame j) (Some o) None m n f g h k = absurd k
  seat_again (InFrame j) (Some o) (Some q) m n f g h k = subst (λ q. FrameAlike seats made j q f) (sym k) (seat_carried seats w.store.made seats made later (InFrame j) (Some o) m f h)
  seat_again (Waits b) o None m n f g h k = k
  seat_again (Waits b) o (Some q) m n f g h k = k

-- the caller's frame stands again
pub called_back : (seats : Seats) (hs held : List Held) (w v : World) (t u : Tree) (r : Option ℕ) → Alike seats hs w t → w.store.made ≤ v.store.made → Alike (waiting w.store.living seats) held v u → Alike seats held v (record u { frame = t.frame; result = r })
called_back seats hs held w v t u r a le b = record {
  seated = a.seated;
  rooms = b.rooms;
  least = omega (arith, a.least, le);
  kinds = b.kinds;
  unmade = λ k more. a.unmade k (omega (arith, le, more));
  objects = λ k.
      seat_again seats hs w t a v.store.made le (seats.seat k) (w.store.living k) (v.store.living k) t.outside.memory u.outside.memory t.frame u.frame (a.objects k)
      (seat_carried (waiting w.store.living seats) v.store.made seats v.store.made (again seats hs w t a v.store.made le) (waits (seats.seat k) (w.store.living k)) (v.store.living k) u.outside.memory u.frame (b.objects k));
  held = held_carried (waiting w.store.living seats) v.store.made seats v.store.made (again seats hs w t a v.store.made le) held b.held;
  input = b.input;
  words = b.words;
  outs = b.outs;
  work = b.work;
}
