-- The objects of a function as words of memory: their rooms live from its entry to its return, and every other word stays.
use Rattle.std.proofs.Common.{◌≡◌, ◌⊎◌, inl, inr, ℕ, zero, suc, ◌+◌, ◌<◌, ◌≤◌, Bool, true, false, cond, List, [], ◌∷◌, ◌++◌, Option, Some, None, refl, sym, ap, ap₂, ◌∙◌, subst, arith}
use Rattle.std.specs.Prelude.{◌&&◌, nat_lt, nat_le, slice_get}
use Rattle.std.specs.List.{AllByRecursion, Contains}
use Rattle.std.proofs.lemmas.Bool.{and_left, and_right, and_from, le-leb, lt-leb, lt-ltb, le-ltb}
use Rattle.std.proofs.lemmas.Option.{same_Some, slice_get_within}
use Rattle.c_tree.specs.Store.{Obj, is_pointer}
use Rattle.c_tree.specs.TypedTree.{ObjectTree}
use Rattle.ir_semantics.specs.Outside.{Cell, Unwritten, Memory, Frame, Places, with_cells, with_objects}
use Rattle.tree_code_proof.specs.Seats.{Room, Seat, Vacant, LiesAt, InFrame, Waits, Seats, Apart}
use Rattle.tree_code_proof.specs.Beside.{Lives, IsRoom, CellAlike, SeatAlike}
use Rattle.tree_code_proof.specs.Surroundings.{ApartOfRoom}

-- an address outside of so many words
abbrev pub IsOutside : ℕ → ℕ → ℕ → Type 0
IsOutside x a count = (x < a) ⊎ (a + count ≤ x)

cells_apart : (a count : ℕ) (cell : Cell) (m : Memory) (x : ℕ) → IsOutside x a count → with_cells a count cell m x ≡ m x
cells_apart a count cell m x (inl lt) = ap (λ b. cond b cell (m x)) (and_left (nat_le a x) (nat_lt x (a + count)) (lt-leb a x lt))
cells_apart a count cell m x (inr le) = ap (λ b. cond b cell (m x)) (and_right (nat_le a x) (nat_lt x (a + count)) (le-ltb x (a + count) le))

cells_here : (a count : ℕ) (cell : Cell) (m : Memory) (x : ℕ) → a ≤ x → x < a + count → with_cells a count cell m x ≡ cell
cells_here a count cell m x le lt = ap (λ b. cond b cell (m x)) (and_from (nat_le a x) (nat_lt x (a + count)) (le-leb a x le) (lt-ltb x (a + count) lt))

still_lives : (c : Cell) (b : Bool) → Lives c → Lives (cond b Unwritten c)
still_lives c true h = tt
still_lives c false h = h

-- words outside of all objects of a list stay, and what lives lives on where objects are not yet written
objects_apart : (cell : Cell) (q : Places) (f n : ℕ) (os : List ObjectTree) (m : Memory) (x : ℕ) → ((i j : ℕ) (o : ObjectTree) → j ≡ n + i → slice_get os i ≡ Some o → IsOutside x (q.local f j) o.length)
    → with_objects cell q f n os m x ≡ m x
objects_apart cell q f n [] m x h = refl
objects_apart cell q f n (o ∷ os) m x h =
    cells_apart (q.local f n) o.length cell (with_objects cell q f (suc n) os m) x (h 0 n o (omega arith) refl) ∙ objects_apart cell q f (suc n) os m x (λ i j r e get. h (suc i) j r (omega (arith, e)) get)

objects_live : (q : Places) (f n : ℕ) (os : List ObjectTree) (m : Memory) (x : ℕ) → Lives (m x) → Lives (with_objects Unwritten q f n os m x)
objects_live q f n [] m x h = h
objects_live q f n (o ∷ os) m x h = still_lives (with_objects Unwritten q f (suc n) os m x) (nat_le (q.local f n) x && nat_lt x (q.local f n + o.length)) (objects_live q f (suc n) os m x h)

-- the rooms of the objects of a list, the first one of this number
abbrev pub rooms_of : Places → ℕ → ℕ → List ObjectTree → List Room
rooms_of q f n [] = []
rooms_of q f n (o ∷ os) = record { start = q.local f n; count = o.length } ∷ rooms_of q f (suc n) os

pub each_room : (P : Room → Type 0) (q : Places) (f n : ℕ) (os : List ObjectTree) → ((i j : ℕ) (o : ObjectTree) → j ≡ n + i → slice_get os i ≡ Some o → P (record { start = q.local f j; count = o.length })) → AllByRecursion P (rooms_of q f n os)
each_room P q f n [] h = tt
each_room P q f n (o ∷ os) h = (h 0 n o (omega arith) refl, each_room P q f (suc n) os (λ i j r e get. h (suc i) j r (omega (arith, e)) get))

pub room_there : (q : Places) (f n : ℕ) (os : List ObjectTree) (i j : ℕ) (o : ObjectTree) → j ≡ n + i → slice_get os i ≡ Some o → Contains (rooms_of q f n os) (record { start = q.local f j; count = o.length })
room_there q f n [] i j o e get = absurd cc
room_there q f n (r ∷ os) zero j o e get =
    let at : n ≡ j = omega (arith, e) in
    (0, omega arith, ap₂ (λ k (x : ObjectTree). record { start = q.local f k; count = x.length }) at (same_Some r o get))
room_there q f n (r ∷ os) (suc i) j o e get =
    let h = room_there q f (suc n) os i j o (omega (arith, e)) get in
    (suc h.0, omega (arith, h.1), h.2)

pub all_append : {X : Type 0} (P : X → Type 0) (xs ys : List X) → AllByRecursion P xs → AllByRecursion P ys → AllByRecursion P (xs ++ ys)
all_append P [] ys h k = k
all_append P (x ∷ xs) ys h k = (h.0, all_append P xs ys h.1 k)

-- rooms live where their words do
rooms_where : (m k : Memory) (rs : List Room) → ((x : ℕ) → Lives (m x) → Lives (k x)) → AllByRecursion (IsRoom m) rs → AllByRecursion (IsRoom k) rs
rooms_where m k [] lives h = tt
rooms_where m k (r ∷ rs) lives h = (λ i less. lives (r.start + i) (h.0 i less), rooms_where m k rs lives h.1)

pub rooms_live : (q : Places) (f : ℕ) (os : List ObjectTree) (m : Memory) (rs : List Room) → AllByRecursion (IsRoom m) rs → AllByRecursion (IsRoom (with_objects Unwritten q f 0 os m)) rs
rooms_live q f os m rs h = rooms_where m (with_objects Unwritten q f 0 os m) rs (objects_live q f 0 os m) h

own_rooms : (q : Places) (f n : ℕ) (os : List ObjectTree) (m : Memory) → AllByRecursion (IsRoom (with_objects Unwritten q f n os m)) (rooms_of q f n os)
own_rooms q f n [] m = tt
own_rooms q f n (o ∷ os) m =
    let k : Memory = with_objects Unwritten q f (suc n) os m in (
      λ i less. subst Lives (sym (cells_here (q.local f n) o.length Unwritten k (q.local f n + i) (omega arith) (omega (arith, less)))) tt,
      rooms_where k (with_cells (q.local f n) o.length Unwritten k) (rooms_of q f (suc n) os) (λ x h. still_lives (k x) (nat_le (q.local f n) x && nat_lt x (q.local f n + o.length)) h) (own_rooms q f (suc n) os m),
    )

pub rooms_begin : (q : Places) (f : ℕ) (os : List ObjectTree) (m : Memory) → AllByRecursion (IsRoom (with_objects Unwritten q f 0 os m)) (rooms_of q f 0 os)
rooms_begin q f os m = own_rooms q f 0 os m

-- a word of what lies apart is outside
pub outside : (a n b k i : ℕ) → Apart (LiesAt a n) (LiesAt b k) → i < k → IsOutside (b + i) a n
outside a n b k i (inl lt) less = inr (omega (arith, lt, less))
outside a n b k i (inr lt) less = inl (omega (arith, lt, less))

module _ (cell : Cell) (q : Places) (f : ℕ) (os : List ObjectTree) (m : Memory) where
  -- a word of what lies apart of all the objects stays
  word_stays : (b k i : ℕ) → ((j : ℕ) (o : ObjectTree) → slice_get os j ≡ Some o → Apart (LiesAt (q.local f j) o.length) (LiesAt b k)) → i < k → with_objects cell q f 0 os m (b + i) ≡ m (b + i)
  word_stays b k i far less = objects_apart cell q f 0 os m (b + i) (λ x j o e get. let at : j ≡ x = omega (arith, e) in outside (q.local f j) o.length b k i (far j o (ap (λ y. slice_get os y) at ∙ get)) less)

  -- rooms apart of the objects stay
  pub rooms_stay : (rs : List Room) → ((j : ℕ) (o : ObjectTree) → slice_get os j ≡ Some o → AllByRecursion (ApartOfRoom (LiesAt (q.local f j) o.length)) rs) → AllByRecursion (IsRoom m) rs → AllByRecursion (IsRoom (with_objects cell q f 0 os m)) rs
  rooms_stay [] far h = tt
  rooms_stay (r ∷ rs) far h = (λ i less. subst Lives (sym (word_stays r.start r.count i (λ j o get. (far j o get).0) less)) (h.0 i less), rooms_stay rs (λ j o get. (far j o get).1) h.1)

  -- and so does an object that lies apart of them
  pub seat_stays : (seats : Seats) (made : ℕ) (s : Seat) (o : Option Obj) (g : Frame) → ((j : ℕ) (r : ObjectTree) → slice_get os j ≡ Some r → Apart (LiesAt (q.local f j) r.length) s) → SeatAlike seats made s o m g → SeatAlike seats made s o (with_objects cell q f 0 os m) g
  seat_stays seats made Vacant None g far h = h
  seat_stays seats made Vacant (Some o) g far h = h
  seat_stays seats made (LiesAt a n) None g far h = h
  seat_stays seats made (LiesAt a n) (Some o) g far h = record {
    count = h.count;
    cells = λ i c get.
        let less = slice_get_within o.cells i c get in
        subst (λ d. CellAlike seats made (is_pointer o.kind) c d) (sym (word_stays a n i far (omega (arith, less, h.count)))) (h.cells i c get);
  }
  seat_stays seats made (InFrame k) None g far h = h
  seat_stays seats made (InFrame k) (Some o) g far h = h
  seat_stays seats made (Waits p) None g far h = h
  seat_stays seats made (Waits p) (Some o) g far h = h
