-- Where both runs start: static objects hold what their lists say, nothing else is there, and each function may be called.
use Rattle.std.proofs.Common.{◌≡◌, ◌≢◌, ℕ, ◌-◌, ◌<◌, Bool, false, List, [], length, Option, Some, None, refl, sym, ap, ◌∙◌, subst, arith}
use Rattle.std.specs.Prelude.{slice_get}
use Rattle.std.proofs.lemmas.List.Elements.{recursion_from_All}
use Rattle.std.proofs.lemmas.Option.{none-some, same_Some, slice_get_within, slice_get_past}
use Rattle.word_base.specs.Ports.{Input, IsInput}
use Rattle.c_tree.specs.TypedTree.{ObjectTree, ProgramTree}
use Rattle.c_tree.specs.Store.{Obj, is_pointer}
use Rattle.c_tree.specs.Exec.{set_cells}
use Rattle.c_tree.specs.SourceRun.{static_object, first_store}
use Rattle.tree_code_proof.specs.Counted.{World}
use Rattle.c_tree.specs.WellFormed.{IsInitial}
use Rattle.c_tree.specs.WellFormedProgram.{IsObject, IsProgram, static_in}
use Rattle.ir_semantics.specs.Outside.{Nowhere, Places, no_words, with_statics, first_outside}
use Rattle.c_tree.specs.TypedOfWords.{ProgramHasWords}
use Rattle.tree_code_proof.specs.Seats.{Seat, Vacant, LiesAt, Seats, IsPlace, Apart}
use Rattle.tree_code_proof.specs.Beside.{CellAlike, ObjectAlike, SeatAlike, Alike}
use Rattle.tree_code_proof.specs.Surroundings.{IsLocal, ArePlaces, MayBeCalled}
use Rattle.tree_code_proof.proofs.Depths.{element_of}
use Rattle.tree_code_proof.proofs.Listing.{static_word, LieApart, HaveRoom}
use Rattle.tree_code_proof.proofs.Making.{apart_too}
use Rattle.tree_code_proof.proofs.Initials.{cells_start, cells_count, words_listed}

-- static objects have seats, and no other
abbrev pub static_seat : Places → ℕ → Option ObjectTree → Seat
static_seat q k None = Vacant
static_seat q k (Some o) = LiesAt (q.static k) o.length

abbrev pub static_points : Option ObjectTree → Bool
static_points None = false
static_points (Some o) = is_pointer o.kind

abbrev pub first_seats : Places → List ObjectTree → Seats
first_seats q statics = record { seat = λ k. static_seat q k (slice_get statics k); points = λ k. static_points (slice_get statics k); rooms = []; least = 0 }

same_count : {a n b m : ℕ} → LiesAt a n ≡ LiesAt b m → (a ≡ b) × (n ≡ m)
same_count e = (cc, cc)

vacant_lies : {a n : ℕ} → Vacant ≡ LiesAt a n → ⊥
vacant_lies e = cc

-- before a run nothing counts yet
abbrev pub starts : ProgramTree → Input → World
starts p input = record { store = first_store p; input = input; outs = []; work = 0 }

module _ (q : Places) (p : ProgramTree) (places : ArePlaces q p) (is : IsProgram p) (has : ProgramHasWords p) where
  abbrev seats : Seats
  seats = first_seats q p.statics

  abbrev made : ℕ
  made = length p.statics

  object_is : (k : ℕ) (o : ObjectTree) → slice_get p.statics k ≡ Some o → IsObject p o
  object_is k o get = element_of (IsObject p) p.statics is.statics k o get

  static_seated : (n : ℕ) (o : ObjectTree) → slice_get p.statics n ≡ Some o → (seats.seat n ≡ LiesAt (q.static n) o.length) × (n < made)
  static_seated n o get = (ap (static_seat q n) get, slice_get_within p.statics n o get)

  far : LieApart q 0 p.statics
  far i j k l o r e d ne get get_other =
      let at : i ≡ j = omega (arith, e) in
      let at_other : k ≡ l = omega (arith, d) in
      places.statics j l o r (λ same. ne (at ∙ same ∙ sym at_other)) (ap (λ n. slice_get p.statics n) (sym at) ∙ get) (ap (λ n. slice_get p.statics n) (sym at_other) ∙ get_other)

  room : HaveRoom p.statics
  room i o get = (object_is i o get).within

  static_alike : (k : ℕ) (o : ObjectTree) → slice_get p.statics k ≡ Some o → ObjectAlike seats made (q.static k) o.length (record { cells = set_cells o; kind = o.kind }) (with_statics q 0 p.statics (λ a. Nowhere))
  static_alike k o get =
      let object = object_is k o get in
      record {
        count = cells_count q p places seats made static_seated o object.within;
        cells = λ i c at.
            let x = cells_start q p places seats made static_seated o.kind o.initial (o.length - length o.initial) i c (recursion_from_All (IsInitial (static_in p) o.kind) o.initial object.starts) (words_listed p.statics has.statics k o get) at in
            subst (λ m. CellAlike seats made (is_pointer o.kind) c m) (sym (static_word q 0 p.statics (λ a. Nowhere) k k o i x.0 (omega arith) get far room x.1)) x.2;
      }

  -- by what is at a number
  seat_alike : (k : ℕ) (slot : Option ObjectTree) → slice_get p.statics k ≡ slot → SeatAlike seats made (static_seat q k slot) (static_object slot) (with_statics q 0 p.statics (λ a. Nowhere)) no_words
  seat_alike k None get = tt
  seat_alike k (Some o) get = static_alike k o get

  seat_place : (k a n : ℕ) (slot : Option ObjectTree) → slice_get p.statics k ≡ slot → static_seat q k slot ≡ LiesAt a n → IsPlace a n
  seat_place k a n None get e = absurd (vacant_lies e)
  seat_place k a n (Some o) get e = let s = same_count e in subst (λ a. IsPlace a n) s.0 (subst (IsPlace (q.static k)) s.1 (places.static k o get))

  seats_apart : (k l : ℕ) (slot other : Option ObjectTree) → k ≢ l → slice_get p.statics k ≡ slot → slice_get p.statics l ≡ other → Apart (static_seat q k slot) (static_seat q l other)
  seats_apart k l None other ne get get_other = tt
  seats_apart k l (Some o) None ne get get_other = tt
  seats_apart k l (Some o) (Some r) ne get get_other = places.statics k l o r ne get get_other

  static_kind : (slot : Option ObjectTree) (o : Obj) → static_object slot ≡ Some o → is_pointer o.kind ≡ static_points slot
  static_kind None o e = absurd (none-some o e)
  static_kind (Some r) o e = sym (ap (λ (x : Obj). is_pointer x.kind) (same_Some _ o e))

  pub first_alike : (input : Input) → IsInput input → Alike seats [] (starts p input) (record { frame = no_words; result = None; outside = first_outside q p.statics input; work = 0 })
  first_alike input words = record {
    seated = record { place = λ k a n e. seat_place k a n (slice_get p.statics k) refl e; apart = λ k l ne. seats_apart k l (slice_get p.statics k) (slice_get p.statics l) ne refl refl };
    rooms = tt;
    least = omega arith;
    unmade = λ k le. ap (static_seat q k) (slice_get_past p.statics k le);
    kinds = λ k o get. static_kind (slice_get p.statics k) o get;
    objects = λ k. seat_alike k (slice_get p.statics k) refl;
    held = tt;
    input = refl;
    words = words;
    outs = refl;
    work = omega arith;
  }

  -- no static object lies where a local one may
  local_apart : (g n k : ℕ) (o : ObjectTree) (slot : Option ObjectTree) → IsLocal p g n o → slice_get p.statics k ≡ slot → Apart (LiesAt (q.local g n) o.length) (static_seat q k slot)
  local_apart g n k o None local get = tt
  local_apart g n k o (Some r) local get = apart_too (LiesAt (q.static k) r.length) (LiesAt (q.local g n) o.length) (places.beside k g n r o get local)

  pub first_call : (f : ℕ) → MayBeCalled q p f seats
  first_call f = record {
    statics = λ n o get. ap (static_seat q n) get;
    kinds = λ n o get. ap static_points get;
    has_room = λ g n o reach local. record { apart = λ k. local_apart g n k o (slice_get p.statics k) local refl; rooms = tt };
  }
