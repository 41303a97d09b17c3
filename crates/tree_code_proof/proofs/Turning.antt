-- Both states where a function is entered, and behind its return: what its caller knows stays, and values that are held stay alike.
use Rattle.std.proofs.Common.{◌≡◌, ℕ, ◌+◌, Bool, true, false, List, [], ◌∷◌, ◌++◌, Some, None, arith}
use Rattle.std.specs.Prelude.{slice_get}
use Rattle.std.specs.List.{AllByRecursion}
use Rattle.c_tree.specs.Store.{Value, Word, Pointer, Null}
use Rattle.tree_code_proof.specs.Counted.{World}
use Rattle.c_tree.specs.TypedTree.{ObjectTree, FunctionTree, ProgramTree}
use Rattle.tree_code.specs.Lowered.{lowered_function}
use Rattle.ir_semantics.specs.Outside.{Nowhere, Unwritten, Memory, Places, no_words, with_memory, with_objects}
use Rattle.ir_semantics.specs.TreeRun as run
use Rattle.ir_semantics.specs.TreeRun.{Tree}
use Rattle.tree_code_proof.specs.Seats.{Room, LiesAt, Seats, ValueAlike, Apart}
use Rattle.tree_code_proof.specs.Beside.{IsRoom, Held, Alike}
use Rattle.tree_code_proof.specs.Surroundings.{ApartOfRoom, MayBeCalled}
use Rattle.tree_code_proof.proofs.Making.{Carried, seat_carried, held_carried}
use Rattle.tree_code_proof.proofs.Waiting.{waits, waiting, waits_for_call, called_back}
use Rattle.tree_code_proof.proofs.Rooms.{rooms_of, all_append, rooms_live, rooms_begin, rooms_stay, seat_stays}
use Rattle.tree_code_proof.proofs.Callees.{inner_seats, apart_of_waiting, own_open}

-- seats with other rooms
other_rooms : (seats : Seats) (rooms : List Room) (least made : ℕ) (pointing : Bool) (v : Value) (y : ℕ) → ValueAlike seats made pointing v y → ValueAlike (record seats { rooms = rooms; least = least }) made pointing v y
other_rooms seats rooms least made false (Word x) y h = h
other_rooms seats rooms least made false (Pointer object i) y h = h
other_rooms seats rooms least made false Null y h = h
other_rooms seats rooms least made true (Word x) y h = h
other_rooms seats rooms least made true (Pointer object i) y h = h
other_rooms seats rooms least made true Null y h = h

with_rooms : (seats : Seats) (rooms : List Room) (least made : ℕ) → Carried seats made (record seats { rooms = rooms; least = least }) made
with_rooms seats rooms least made = record { by = other_rooms seats rooms least made }

module _ (q : Places) (p : ProgramTree) (f : ℕ) (g : FunctionTree) (is : slice_get p.functions f ≡ Some g) (seats : Seats) (may : MayBeCalled q p f seats) (hs : List Held) (w : World) (t : Tree) (a : Alike seats hs w t) where
  abbrev inner : Seats
  inner = inner_seats q f g w.store.living w.store.made seats

  apart_of_each : (k : ℕ) (j : ℕ) (r : ObjectTree) → slice_get g.locals j ≡ Some r → Apart (LiesAt (q.local f j) r.length) (waits (seats.seat k) (w.store.living k))
  apart_of_each k j r get = apart_of_waiting (q.local f j) r.length (seats.seat k) (w.store.living k) ((own_open q p f g is seats may j r get).apart k)

  rooms_apart : (j : ℕ) (r : ObjectTree) → slice_get g.locals j ≡ Some r → AllByRecursion (ApartOfRoom (LiesAt (q.local f j) r.length)) seats.rooms
  rooms_apart j r get = (own_open q p f g is seats may j r get).rooms

  -- at the entry
  pub on_entry : Alike inner hs (record w { work = w.work + 10 }) (run.entered q f (lowered_function g) t)
  on_entry =
      let less = a.work in
      let b = waits_for_call seats hs w t no_words None a in
      let m : Memory = with_objects Unwritten q f 0 g.locals t.outside.memory in
      let to : Carried (waiting w.store.living seats) w.store.made inner w.store.made = with_rooms (waiting w.store.living seats) (rooms_of q f 0 g.locals ++ seats.rooms) w.store.made w.store.made in
      record {
        seated = record { place = b.seated.place; apart = b.seated.apart };
        rooms = all_append (IsRoom m) (rooms_of q f 0 g.locals) seats.rooms (rooms_begin q f g.locals t.outside.memory) (rooms_live q f g.locals t.outside.memory seats.rooms a.rooms);
        least = omega arith;
        unmade = b.unmade;
        kinds = b.kinds;
        objects = λ k.
            seat_stays Unwritten q f g.locals t.outside.memory inner w.store.made (waits (seats.seat k) (w.store.living k)) (w.store.living k) no_words (apart_of_each k)
            (seat_carried (waiting w.store.living seats) w.store.made inner w.store.made to (waits (seats.seat k) (w.store.living k)) (w.store.living k) t.outside.memory no_words (b.objects k));
        held = held_carried (waiting w.store.living seats) w.store.made inner w.store.made to hs b.held;
        input = a.input;
        words = a.words;
        outs = a.outs;
        work = omega (arith, less);
      }

  module _ (kept : List Held) (v : World) (u : Tree) (b : Alike inner kept v u) where
    -- the objects of the function have ended
    ended : Alike (waiting w.store.living seats) kept v (record u { outside = with_memory (with_objects Nowhere q f 0 g.locals u.outside.memory) u.outside })
    ended =
        let from : Carried inner v.store.made (waiting w.store.living seats) v.store.made = with_rooms inner seats.rooms seats.least v.store.made in
        record {
          seated = record { place = b.seated.place; apart = b.seated.apart };
          rooms = rooms_stay Nowhere q f g.locals u.outside.memory seats.rooms rooms_apart (rest_of (rooms_of q f 0 g.locals) seats.rooms b.rooms);
          least = omega (arith, a.least, b.least);
          unmade = b.unmade;
          kinds = b.kinds;
          objects = λ k.
              seat_stays Nowhere q f g.locals u.outside.memory (waiting w.store.living seats) v.store.made (waits (seats.seat k) (w.store.living k)) (v.store.living k) u.frame (apart_of_each k)
              (seat_carried inner v.store.made (waiting w.store.living seats) v.store.made from (waits (seats.seat k) (w.store.living k)) (v.store.living k) u.outside.memory u.frame (b.objects k));
          held = held_carried inner v.store.made (waiting w.store.living seats) v.store.made from kept b.held;
          input = b.input;
          words = b.words;
          outs = b.outs;
          work = b.work;
        }
      where
        rest_of : (xs ys : List Room) → AllByRecursion (IsRoom u.outside.memory) (xs ++ ys) → AllByRecursion (IsRoom u.outside.memory) ys
        rest_of [] ys h = h
        rest_of (x ∷ xs) ys h = rest_of xs ys h.1

    -- behind the return
    pub on_return : Alike seats kept v (run.left q f (lowered_function g) t.frame u)
    on_return = called_back seats hs kept w v t (record u { outside = with_memory (with_objects Nowhere q f 0 g.locals u.outside.memory) u.outside }) None a (omega (arith, b.least)) ended
