-- What surrounds a function when it is called: nothing of it is made yet, its objects have room, and it may call what it reaches.
use Rattle.std.proofs.Common.{◌≡◌, ℕ, [], ◌∷◌, ◌++◌, Option, Some, None, refl, sym, ap, ◌∙◌, subst, arith}
use Rattle.std.specs.Prelude.{slice_get, ◌≢◌}
use Rattle.std.specs.List.{AllByRecursion, Contains}
use Rattle.std.proofs.lemmas.List.Elements as elements
use Rattle.std.proofs.lemmas.Option.{none-some, same_Some}
use Rattle.c_tree.specs.declared.program.VarRef.{VarRef}
use Rattle.c_tree.specs.declared.program.VarRef.TheVariants as name
use Rattle.c_tree.specs.Eval as evaluation
use Rattle.c_tree.specs.Rounds.{CallsAmong, IsWay, HasNoRound}
use Rattle.c_tree.specs.SourceRun.{nothing_named}
use Rattle.c_tree.specs.Store.{Obj, is_pointer}
use Rattle.c_tree.specs.TypedTree.{ObjectTree, FunctionTree, ProgramTree}
use Rattle.c_tree.specs.WellFormed.{Shape}
use Rattle.c_tree.specs.WellFormedProgram.{program_calls, object_shape, object_in, static_names}
use Rattle.ir_semantics.specs.Outside.{Places}
use Rattle.tree_code_proof.specs.Seats.{Seat, Vacant, LiesAt, InFrame, Waits, Seats, Apart}
use Rattle.tree_code_proof.specs.Reaching.{Reaches}
use Rattle.tree_code_proof.specs.Surroundings.{place_of_name, locals_of, IsLocal, ArePlaces, ApartOfRoom, IsOpen, MayBeCalled, Surrounds}
use Rattle.tree_code_proof.proofs.Making.{apart_too}
use Rattle.tree_code_proof.proofs.Waiting.{waits}
use Rattle.tree_code_proof.proofs.Rooms.{rooms_of, each_room, room_there, all_append}

-- the seats while a function runs that was called: those of its caller wait, and its objects have rooms
abbrev pub inner_seats : Places → ℕ → FunctionTree → (ℕ → Option Obj) → ℕ → Seats → Seats
inner_seats q f g living made seats = record { seat = λ k. waits (seats.seat k) (living k); points = seats.points; rooms = rooms_of q f 0 g.locals ++ seats.rooms; least = made }

-- what lies apart of a seat does so while that waits
pub apart_of_waiting : (a n : ℕ) (s : Seat) (o : Option Obj) → Apart (LiesAt a n) s → Apart (LiesAt a n) (waits s o)
apart_of_waiting a n Vacant o h = tt
apart_of_waiting a n (LiesAt b m) o h = h
apart_of_waiting a n (InFrame k) None h = tt
apart_of_waiting a n (InFrame k) (Some o) h = tt
apart_of_waiting a n (Waits p) o h = tt

-- what waits isn't in the frame
not_in_frame : (k : ℕ) (s : Seat) (o : Option Obj) → Apart (InFrame k) (waits s o)
not_in_frame k Vacant o = tt
not_in_frame k (LiesAt b m) o = tt
not_in_frame k (InFrame j) None = tt
not_in_frame k (InFrame j) (Some o) = tt
not_in_frame k (Waits p) o = tt

-- the object that a shape is of
pub shape_of : (x : Option ObjectTree) (s : Shape) → object_shape x ≡ Some s → (o : ObjectTree) × (x ≡ Some o) × (o.length ≡ s.length) × (o.kind ≡ s.kind)
shape_of None s e = absurd (none-some s e)
shape_of (Some o) s e = (o, refl, ap (λ (s : Shape). s.length) (same_Some _ s e), ap (λ (s : Shape). s.kind) (same_Some _ s e))

module _ (q : Places) (p : ProgramTree) (f : ℕ) (g : FunctionTree) (is : slice_get p.functions f ≡ Some g) where
  pub local_there : (n : ℕ) (o : ObjectTree) → slice_get g.locals n ≡ Some o → IsLocal p f n o
  local_there n o get = ap (λ x. slice_get (locals_of x) n) is ∙ get

  there_local : (n : ℕ) (o : ObjectTree) → IsLocal p f n o → slice_get g.locals n ≡ Some o
  there_local n o local = sym (ap (λ x. slice_get (locals_of x) n) is) ∙ local

  module _ (seats : Seats) (may : MayBeCalled q p f seats) where
    -- the objects of the function have open seats
    pub own_open : (n : ℕ) (o : ObjectTree) → slice_get g.locals n ≡ Some o → IsOpen seats (LiesAt (q.local f n) o.length)
    own_open n o get = may.has_room f n o ([], refl) (local_there n o get)

    module _ (living : ℕ → Option Obj) (made : ℕ) where
      names_seated : (v : VarRef) (s : Shape) → static_names p v ≡ Some s → (inner_seats q f g living made seats).seat (evaluation.object_number (nothing_named g) v) ≡ place_of_name q f v s.length
      names_seated (name.Scalar n) s e = absurd (none-some s e)
      names_seated (name.Local n) s e = absurd (none-some s e)
      names_seated (name.Static n) s e =
          let o = shape_of (slice_get p.statics n) s e in
          ap (λ r. waits r (living n)) (may.statics n o.0 o.1) ∙ ap (λ l. LiesAt (q.static n) l) o.2

      names_pointed : (v : VarRef) (s : Shape) → static_names p v ≡ Some s → seats.points (evaluation.object_number (nothing_named g) v) ≡ is_pointer s.kind
      names_pointed (name.Scalar n) s e = absurd (none-some s e)
      names_pointed (name.Local n) s e = absurd (none-some s e)
      names_pointed (name.Static n) s e =
          let o = shape_of (slice_get p.statics n) s e in
          may.kinds n o.0 o.1 ∙ ap is_pointer o.3

      others_free : (v : VarRef) (s : Shape) → static_names p v ≡ None → object_in p g v ≡ Some s → (k : ℕ) → Apart (place_of_name q f v s.length) (waits (seats.seat k) (living k))
      others_free (name.Scalar n) s e there k = not_in_frame n (seats.seat k) (living k)
      others_free (name.Local n) s e there k =
          let o = shape_of (slice_get g.locals n) s there in
          subst (λ l. Apart (LiesAt (q.local f n) l) (waits (seats.seat k) (living k))) o.2 (apart_of_waiting (q.local f n) o.0.length (seats.seat k) (living k) ((own_open n o.0 o.1).apart k))
      others_free (name.Static n) s e there k = absurd (none-some s (sym e ∙ there))

      has_rooms : (n : ℕ) (o : ObjectTree) → IsLocal p f n o → Contains (rooms_of q f 0 g.locals ++ seats.rooms) (record { start = q.local f n; count = o.length })
      has_rooms n o local =
          elements.Contains-append_left (rooms_of q f 0 g.locals) seats.rooms (record { start = q.local f n; count = o.length }) (room_there q f 0 g.locals n n o (omega arith) (there_local n o local))

      module _ (places : ArePlaces q p) (no_round : HasNoRound (CallsAmong (program_calls p.functions))) where
        -- no function reaches itself, so what it calls has other objects
        another : (h k : ℕ) → CallsAmong (program_calls p.functions) f h → Reaches p h k → f ≢ k
        another h k call reach same = no_round f (h ∷ reach.0) (omega arith, (call, subst (λ k. IsWay (CallsAmong (program_calls p.functions)) h reach.0 k) (sym same) reach.1))

        apart_of_own : (h k n : ℕ) (o : ObjectTree) → CallsAmong (program_calls p.functions) f h → Reaches p h k → IsLocal p k n o → AllByRecursion (ApartOfRoom (LiesAt (q.local k n) o.length)) (rooms_of q f 0 g.locals)
        apart_of_own h k n o call reach local =
            each_room (ApartOfRoom (LiesAt (q.local k n) o.length)) q f 0 g.locals
            (λ i j r e get.
            let at : i ≡ j = omega (arith, e) in
            apart_too (LiesAt (q.local f j) r.length) (LiesAt (q.local k n) o.length)
            (places.meeting f k j n r o (another h k call reach) (h ∷ reach.0, (call, reach.1)) (local_there j r (ap (λ y. slice_get g.locals y) (sym at) ∙ get)) local))

        callee : (h : ℕ) → CallsAmong (program_calls p.functions) f h → MayBeCalled q p h (inner_seats q f g living made seats)
        callee h call = record {
          statics = λ n o get. ap (λ r. waits r (living n)) (may.statics n o get);
          kinds = may.kinds;
          has_room = λ k n o reach local.
              let open_there = may.has_room k n o (h ∷ reach.0, (call, reach.1)) local in
              record {
                apart = λ j. apart_of_waiting (q.local k n) o.length (seats.seat j) (living j) (open_there.apart j);
                rooms = all_append (ApartOfRoom (LiesAt (q.local k n) o.length)) (rooms_of q f 0 g.locals) seats.rooms (apart_of_own h k n o call reach local) open_there.rooms;
              };
        }

        pub surrounds_called : Surrounds q p f (object_in p g) (static_names p) (nothing_named g) (inner_seats q f g living made seats)
        surrounds_called = record { function = is; named = names_seated; kinds = names_pointed; free = others_free; rooms = has_rooms; callees = callee }
