-- An object of a name is made: what surrounds a part of a function then, and the objects of a list of names, which end again.
use Rattle.std.proofs.Common.{◌≡◌, ◌≢◌, ℕ, suc, ◌+◌, ◌<◌, Bool, true, false, cond, List, [], ◌∷◌, ◌++◌, Option, Some, None, refl, sym, ap, ◌∙◌, subst, arith}
use Rattle.std.specs.Prelude.{◌==◌, ◌||◌, if◌then◌else◌, slice_get}
use Rattle.std.specs.List.{AllByRecursion, Contains}
use mathlib.Core.Bool.{true≢false}
use Rattle.std.proofs.lemmas.Bool.{eq-eqb, ne_eqb}
use Rattle.std.proofs.lemmas.Option.{none-some, same_Some}
use Rattle.std.proofs.lemmas.List.Elements.{All-contains, All-from_recursion}
use Rattle.c_tree.specs.declared.program.VarRef.{VarRef}
use Rattle.c_tree.specs.declared.program.VarRef.TheVariants.{Scalar, Local, Static}
use Rattle.c_tree.specs.TypedTree.{Kind, FunctionTree, ProgramTree}
use Rattle.tree_code_proof.specs.Counted as source
use Rattle.c_tree.specs.Store as plain
use Rattle.c_tree.specs.Store.{Obj, is_pointer, with_new, with_object}
use Rattle.tree_code_proof.specs.Counted.{World}
use Rattle.c_tree.specs.Eval.{Env, object_number}
use Rattle.c_tree.specs.Exec.{fresh, named, make_object, enter, leave}
use Rattle.c_tree.specs.WellFormed.{Shape, Names, IsAutomatic, same_reference, is_among, opened, AreNew}
use Rattle.c_tree.specs.WellFormedProgram.{scalar_shape, object_in}
use Rattle.ir_semantics.specs.Outside.{Places, Memory}
use Rattle.ir_semantics.specs.TreeRun.{Tree}
use Rattle.tree_code_proof.specs.Seats.{Seat, Vacant, LiesAt, Room, Seats, with_seat, Apart, IsFree}
use Rattle.tree_code_proof.specs.Beside.{IsRoom, Held, ScalarAlike, CellAlike, SeatAlike, Alike}
use Rattle.tree_code_proof.specs.Surroundings.{place_of_name, ArePlaces, ApartOfRoom, IsOpen, MayBeCalled, Surrounds}
use Rattle.tree_code_proof.proofs.Making.{seat_here, seat_apart, pointed, made_object, ended_object}
use Rattle.tree_code_proof.proofs.Names.{same_is, same_itself, with_name, with_names, with_names_more, IsFresh, AreFresh, new_are_fresh}
use Rattle.tree_code_proof.proofs.Entering.{HasFresh, has_fresh, own_local, own_place, own_apart, place_not_vacant, number_here, number_apart, function_same, seats_again}
use Rattle.tree_code_proof.proofs.Interfaces.{Entered}

scalar_one : (k : Kind) (s : Shape) → scalar_shape k ≡ Some s → s.length ≡ 1
scalar_one None s is = absurd (none-some s is)
scalar_one (Some kind) s is = sym (ap (λ (s : Shape). s.length) (same_Some _ s is))

pub room_of : (m : Memory) (rooms : List Room) (r : Room) → AllByRecursion (IsRoom m) rooms → Contains rooms r → IsRoom m r
room_of m rooms r all among = All-contains (IsRoom m) rooms r (All-from_recursion (IsRoom m) rooms all) among

module _ (q : Places) (p : ProgramTree) (f : ℕ) (g : FunctionTree) (function : slice_get p.functions f ≡ Some g) (places : ArePlaces q p) where
  module _ (names : VarRef → Option Shape) (env : Env) (seats : Seats) (around : Surrounds q p f (object_in p g) names env seats) (hs : List Held) (w : World) (t : Tree) (a : Alike seats hs w t) (v : VarRef) (new : IsFresh (object_in p g) names v) where
    abbrev pub own_seat : Seat
    own_seat = place_of_name q f v new.shape.length

    -- its cells hold pointers or don't
    abbrev pub then_points : ℕ → Bool
    then_points = λ k. if k == w.store.made then is_pointer new.shape.kind else seats.points k

    abbrev pub seats_pointed : Seats
    seats_pointed = record seats { points = then_points }

    abbrev pub then_seats : Seats
    then_seats = with_seat w.store.made own_seat seats_pointed

    pub was_vacant : seats.seat w.store.made ≡ Vacant
    was_vacant = a.unmade w.store.made (omega arith)

    is_free : IsFree seats w.store.made own_seat
    is_free = record { place = own_place q p f g function places v new.shape new.automatic new.there; apart = λ l ne. around.free v new.shape new.new new.there l }

    pub object : HasFresh g v new.shape
    object = has_fresh p g v new.shape new.automatic new.there

    abbrev pub then_world : World
    then_world = record w { store = with_new object.object w.store }

    -- none of its cells was written
    unset_alike : (v : VarRef) (s : Shape) → IsAutomatic v → object_in p g v ≡ Some s → (o : HasFresh g v s) → SeatAlike then_seats (suc w.store.made) (place_of_name q f v s.length) (Some o.object) t.outside.memory t.frame
    unset_alike (Scalar n) s automatic there o = record {
      count = o.count ∙ scalar_one (slice_get g.scalars n) s there;
      cells = λ c get. subst (λ d. ScalarAlike then_seats (suc w.store.made) (source.is_pointer o.object.kind) d (t.frame n)) (sym (o.unset 0 c get).1) tt;
    }
    unset_alike (Local n) s automatic there o =
        let l = own_local q p f g function places n s there in
        let room = room_of t.outside.memory seats.rooms (record { start = q.local f n; count = l.0.length }) a.rooms (around.rooms n l.0 l.1.0) in
        record {
          count = o.count;
          cells = λ i c get.
              let u = o.unset i c get in
              subst (λ d. CellAlike then_seats (suc w.store.made) (source.is_pointer o.object.kind) d (t.outside.memory (q.local f n + i))) (sym u.1) (room i (omega (arith, u.0, l.1.1)));
        }
    unset_alike (Static n) s automatic there o = absurd automatic

    pub nothing_made : w.store.living w.store.made ≡ None
    nothing_made = vacant_empty (seats.seat w.store.made) (w.store.living w.store.made) was_vacant (a.objects w.store.made)
      where
        vacant_empty : (s : Seat) (o : Option Obj) → s ≡ Vacant → SeatAlike seats w.store.made s o t.outside.memory t.frame → o ≡ None
        vacant_empty s None is h = refl
        vacant_empty s (Some o) is h = absurd (subst (λ s. SeatAlike seats w.store.made s (Some o) t.outside.memory t.frame) is h)

    points_apart : (k : ℕ) → k ≢ w.store.made → then_points k ≡ seats.points k
    points_apart k ne = ap (λ b. cond b (is_pointer new.shape.kind) (seats.points k)) (ne_eqb k w.store.made ne)

    points_here : then_points w.store.made ≡ is_pointer new.shape.kind
    points_here = ap (λ b. cond b (is_pointer new.shape.kind) (seats.points w.store.made)) (eq-eqb w.store.made w.store.made refl)

    alike_pointed : Alike seats_pointed hs w t
    alike_pointed = pointed seats hs w t then_points (λ k o get. a.kinds k o get ∙ sym (points_apart k (λ e. none-some o (sym nothing_made ∙ ap w.store.living (sym e) ∙ get)))) a

    pub alike_then : Alike then_seats hs then_world t
    alike_then = made_object seats_pointed hs w t alike_pointed own_seat object.object (ap is_pointer object.kind ∙ sym points_here) (record { place = is_free.place; apart = is_free.apart }) (unset_alike v new.shape new.automatic new.there object)

    -- a seat that was taken is another one
    taken_apart : (j : ℕ) (u : VarRef) (n : ℕ) → seats.seat j ≡ place_of_name q f u n → j ≢ w.store.made
    taken_apart j u n is e = place_not_vacant q f u n (sym is ∙ ap seats.seat e ∙ was_vacant)

    differ : (u : VarRef) → same_reference v u ≡ false → v ≢ u
    differ u e same = true≢false (sym (same_itself v) ∙ ap (same_reference v) same ∙ e)

    named_then : (u : VarRef) (s : Shape) (b : Bool) → same_reference v u ≡ b → cond b (object_in p g u) (names u) ≡ Some s → then_seats.seat (object_number (named env v w.store.made) u) ≡ place_of_name q f u s.length
    named_then u s true e is = subst (λ u. object_in p g u ≡ Some s → then_seats.seat (object_number (named env v w.store.made) u) ≡ place_of_name q f u s.length) (same_is v u e) own is
      where
        own : object_in p g v ≡ Some s → then_seats.seat (object_number (named env v w.store.made) v) ≡ place_of_name q f v s.length
        own is =
            ap then_seats.seat (number_here env v w.store.made new.automatic) ∙ seat_here w.store.made own_seat seats
            ∙ ap (λ (s : Shape). place_of_name q f v s.length) (same_Some new.shape s (sym new.there ∙ is))
    named_then u s false e is =
        let old = around.named u s is in
        ap then_seats.seat (number_apart env v u w.store.made (differ u e)) ∙ seat_apart w.store.made own_seat seats (object_number env u) (taken_apart (object_number env u) u s.length old) ∙ old

    kind_then : (u : VarRef) (s : Shape) (b : Bool) → same_reference v u ≡ b → cond b (object_in p g u) (names u) ≡ Some s → then_points (object_number (named env v w.store.made) u) ≡ is_pointer s.kind
    kind_then u s true e is = subst (λ u. object_in p g u ≡ Some s → then_points (object_number (named env v w.store.made) u) ≡ is_pointer s.kind) (same_is v u e) own is
      where
        own : object_in p g v ≡ Some s → then_points (object_number (named env v w.store.made) v) ≡ is_pointer s.kind
        own is = ap then_points (number_here env v w.store.made new.automatic) ∙ points_here ∙ ap (λ (s : Shape). is_pointer s.kind) (same_Some new.shape s (sym new.there ∙ is))
    kind_then u s false e is =
        ap then_points (number_apart env v u w.store.made (differ u e)) ∙ points_apart (object_number env u) (taken_apart (object_number env u) u s.length (around.named u s is)) ∙ around.kinds u s is

    free_by : (u : VarRef) (s : Shape) (b : Bool) → v ≢ u → names u ≡ None → object_in p g u ≡ Some s → (k : ℕ) → (k == w.store.made) ≡ b → Apart (place_of_name q f u s.length) (cond b own_seat (seats.seat k))
    free_by u s true ne is there k e = own_apart q p f g function places u v s new.shape ne new.automatic there new.there
    free_by u s false ne is there k e = around.free u s is there k

    free_then : (u : VarRef) (s : Shape) (b : Bool) → same_reference v u ≡ b → cond b (object_in p g u) (names u) ≡ None → object_in p g u ≡ Some s → (k : ℕ) → Apart (place_of_name q f u s.length) (then_seats.seat k)
    free_then u s true e is there k = absurd (none-some s (sym is ∙ there))
    free_then u s false e is there k = free_by u s (k == w.store.made) (differ u e) is there k refl

    -- what is apart of all rooms is apart of the object
    apart_of_own : (x y : ℕ) (v : VarRef) (s : Shape) → IsAutomatic v → object_in p g v ≡ Some s → AllByRecursion (ApartOfRoom (LiesAt x y)) seats.rooms → Apart (LiesAt x y) (place_of_name q f v s.length)
    apart_of_own x y (Scalar n) s automatic there all = tt
    apart_of_own x y (Local n) s automatic there all =
        let l = own_local q p f g function places n s there in
        subst (λ k. Apart (LiesAt x y) (LiesAt (q.local f n) k)) l.1.1
        (All-contains (ApartOfRoom (LiesAt x y)) seats.rooms (record { start = q.local f n; count = l.0.length }) (All-from_recursion (ApartOfRoom (LiesAt x y)) seats.rooms all) (around.rooms n l.0 l.1.0))
    apart_of_own x y (Static n) s automatic there all = absurd automatic

    open_by : (x y : ℕ) → IsOpen seats (LiesAt x y) → (k : ℕ) (b : Bool) → (k == w.store.made) ≡ b → Apart (LiesAt x y) (cond b own_seat (seats.seat k))
    open_by x y o k true e = apart_of_own x y v new.shape new.automatic new.there o.rooms
    open_by x y o k false e = o.apart k

    callee_then : (h : ℕ) → MayBeCalled q p h seats → MayBeCalled q p h then_seats
    callee_then h m = record {
      kinds = λ n o is. points_apart n (taken_apart n (Static n) o.length (m.statics n o is)) ∙ m.kinds n o is;
      statics = λ n o is. seat_apart w.store.made own_seat seats n (taken_apart n (Static n) o.length (m.statics n o is)) ∙ m.statics n o is;
      has_room = λ r n o reach is. let room = m.has_room r n o reach is in record { apart = λ k. open_by (q.local r n) o.length room k (k == w.store.made) refl; rooms = room.rooms };
    }

    pub surrounds_then : Surrounds q p f (object_in p g) (with_name (object_in p g) v names) (named env v w.store.made) then_seats
    surrounds_then = record {
      function = around.function ∙ ap Some (sym (function_same env v w.store.made));
      named = λ u s is. named_then u s (same_reference v u) refl is;
      kinds = λ u s is. kind_then u s (same_reference v u) refl is;
      free = λ u s is there k. free_then u s (same_reference v u) refl is there k;
      rooms = around.rooms;
      callees = λ h calls. callee_then h (around.callees h calls);
    }

    -- behind its end all is as it was
    pub behind_end : (kept : List Held) (x : World) (u : Tree) → x.store.living w.store.made ≡ None → Alike (with_seat w.store.made Vacant then_seats) kept x u → Alike seats kept x u
    behind_end kept x u ended b =
        let c : Alike seats_pointed kept x u = subst (λ s. Alike s kept x u) (seats_again seats_pointed w.store.made own_seat was_vacant) b in
        pointed seats_pointed kept x u seats.points (λ k o get. c.kinds k o get ∙ points_apart k (λ e. none-some o (sym ended ∙ ap x.store.living (sym e) ∙ get))) c

    pub made_there : fresh env.function v ≡ Some object.object
    made_there = ap (λ g. fresh g v) (same_Some env.function g (sym around.function ∙ function)) ∙ object.is

-- a name that has an object isn't among those that are fresh
not_among : (objects : VarRef → Option Shape) (vs : List VarRef) (names : VarRef → Option Shape) (v : VarRef) (s : Shape) → AreFresh objects vs names → names v ≡ Some s → is_among v vs ≡ false
not_among objects [] names v s fresh is = refl
not_among objects (u ∷ us) names v s fresh is =
    not_first (same_reference u v) (λ e. none-some s (sym fresh.0.new ∙ ap names (same_is u v e) ∙ is)) refl (λ e. not_among objects us (with_name objects u names) v s fresh.1 (ap (λ b. cond b (objects v) (names v)) e ∙ is))
  where
    not_first : (b : Bool) → (b ≡ true → ⊥) → same_reference u v ≡ b → (same_reference u v ≡ false → is_among v us ≡ false) → (b || is_among v us) ≡ false
    not_first true never e later = absurd (never refl)
    not_first false never e later = later e

-- the objects of a list of names
record Opened (q : Places) (p : ProgramTree) (f : ℕ) (g : FunctionTree) (names : VarRef → Option Shape) (outer : Seats) (hs : List Held) (declared : List VarRef) (before : Env) (w : World) (t : Tree) : Type 0 where
  env : Env
  numbers : List ℕ
  seats : Seats
  world : World
  gives : enter declared before (source.without_work w) ≡ plain.Gives (env, numbers) (source.without_work world)
  work : world.work ≡ w.work
  surrounds : Surrounds q p f (object_in p g) (with_names (object_in p g) declared names) env seats
  fresh : AllByRecursion (λ v. world.store.living (object_number env v) ≡ fresh before.function v) declared
  alike : Alike seats hs world t
  back : (kept : List Held) (v : World) (u : Tree) → Alike seats kept v u → (x : World) × (((leave numbers (source.without_work v) ≡ plain.Gives (tt {0}) (source.without_work x)) × (x.work ≡ v.work)) × Alike outer kept x u)
  names_kept : (u : VarRef) → is_among u declared ≡ false → object_number env u ≡ object_number before u
  living_kept : (k : ℕ) → k < w.store.made → world.store.living k ≡ w.store.living k

neither : (b c : Bool) → (b || c) ≡ false → (b ≡ false) × (c ≡ false)
neither true c e = absurd (true≢false e)
neither false c e = (refl, e)

module _ (q : Places) (p : ProgramTree) (f : ℕ) (g : FunctionTree) (function : slice_get p.functions f ≡ Some g) (places : ArePlaces q p) where
  opened_all : (vs : List VarRef) (names : VarRef → Option Shape) (env : Env) (seats : Seats) (hs : List Held) (w : World) (t : Tree) → AreFresh (object_in p g) vs names → Surrounds q p f (object_in p g) names env seats → Alike seats hs w t
      → Opened q p f g names seats hs vs env w t
  opened_all [] names env seats hs w t new around a = record {
    env = env;
    numbers = [];
    seats = seats;
    world = w;
    gives = refl;
    work = refl;
    surrounds = around;
    fresh = tt;
    alike = a;
    back = λ kept v u b. (v, ((refl, refl), b));
    names_kept = λ u e. refl;
    living_kept = λ k less. refl;
  }
  opened_all (v ∷ vs) names env seats hs w t new around a =
      let o = (object q p f g function places names env seats around hs w t a v new.0).object in
      let made = w.store.made in
      let first_seats = then_seats q p f g function places names env seats around hs w t a v new.0 in
      let first_world = then_world q p f g function places names env seats around hs w t a v new.0 in
      let first_env = named env v made in
      let rest = opened_all vs (with_name (object_in p g) v names) first_env first_seats hs first_world t new.1 (surrounds_then q p f g function places names env seats around hs w t a v new.0) (alike_then q p f g function places names env seats around hs w t a v new.0) in
      let is_made = made_there q p f g function places names env seats around hs w t a v new.0 in
      let apart : is_among v vs ≡ false = not_among (object_in p g) vs (with_name (object_in p g) v names) v new.0.shape new.1 (ap (λ b. cond b (object_in p g v) (names v)) (same_itself v) ∙ new.0.there) in
      record {
        env = rest.env;
        numbers = made ∷ rest.numbers;
        seats = rest.seats;
        world = rest.world;
        gives =
            ap (λ x. plain.after (make_object x v env (source.without_work w)) (λ d. plain.◌>>=◌ (enter vs d.0) (λ e. plain.give (e.0, d.1 ++ e.1)))) is_made
            ∙ ap (λ r. plain.after r (λ e. plain.give (e.0, (made ∷ []) ++ e.1))) rest.gives;
        work = rest.work;
        surrounds = subst (λ n. Surrounds q p f (object_in p g) n rest.env rest.seats) (with_names_more (object_in p g) names v vs) rest.surrounds;
        fresh = (
          ap rest.world.store.living (rest.names_kept v apart ∙ number_here env v made new.0.automatic) ∙ rest.living_kept made (omega arith) ∙ ap (λ b. cond b (Some o) (w.store.living made)) (eq-eqb made made refl) ∙ sym is_made,
          subst (λ h. AllByRecursion (λ v. rest.world.store.living (object_number rest.env v) ≡ fresh h v) vs) (function_same env v made) rest.fresh,
        );
        alike = rest.alike;
        back = λ kept x u b.
            let r = rest.back kept x u b in (
              record r.0 { store = with_object made None r.0.store },
              (
                (ap (λ y. plain.after y (λ _. plain.finish made)) r.1.0.0, r.1.0.1),
                behind_end q p f g function places names env seats around hs w t a v new.0 kept (record r.0 { store = with_object made None r.0.store }) u (ap (λ b. cond b None (r.0.store.living made)) (eq-eqb made made refl)) (ended_object first_seats kept r.0 u r.1.1 made),
              ),
            );
        names_kept = λ u e.
            let n = neither (same_reference v u) (is_among u vs) e in
            rest.names_kept u n.1 ∙ number_apart env v u made (λ same. true≢false (sym (same_itself v) ∙ ap (same_reference v) same ∙ n.0));
        living_kept = λ k less. rest.living_kept k (omega (arith, less)) ∙ ap (λ b. cond b (Some o) (w.store.living k)) (ne_eqb k made (λ e. omega (arith, less, e)));
      }

  pub enter_keeps : (names : Names) (env : Env) (seats : Seats) (hs : List Held) (w : World) (t : Tree) (declared : List VarRef) → AreNew (object_in p g) names declared → Surrounds q p f (object_in p g) names.object env seats → Alike seats hs w t
      → Entered q p f (object_in p g) (opened (object_in p g) declared names).object seats hs declared env w t
  enter_keeps names env seats hs w t declared new around a =
      let o = opened_all declared names.object env seats hs w t (new_are_fresh (object_in p g) names declared new) around a in
      record {
        env = o.env;
        numbers = o.numbers;
        seats = o.seats;
        world = o.world;
        gives = ap (source.at_work w.work) o.gives ∙ ap (λ k. source.Gives (o.env, o.numbers) (record o.world { work = k })) (sym o.work);
        surrounds = o.surrounds;
        fresh = o.fresh;
        alike = o.alike;
        back = λ kept v u b. let r = o.back kept v u b in (r.0, (ap (source.at_work v.work) r.1.0.0 ∙ ap (λ k. source.Gives (tt {0}) (record r.0 { work = k })) (sym r.1.0.1), r.1.1));
      }
