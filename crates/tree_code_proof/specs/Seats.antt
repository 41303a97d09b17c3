-- Where the objects of a typed program lie in words at addresses, and which word a value is then. All that live at once lie apart, and each has a
-- spare word behind its cells, since a pointer may point behind the last one.
use Rattle.std.specs.Prelude.{◌≡◌, ◌≢◌, ◌⊎◌, ⊤, ℕ, ◌+◌, ◌<◌, ◌≤◌, Bool, true, false, ◌==◌, if◌then◌else◌, List}
use Rattle.c_tree.specs.Store.{Value, Word, Pointer, Null, Obj}
use Rattle.c_tree.specs.declared.limits.TheConstants.{MOST_CELLS}

-- an object that isn't there, one that has an address and so many cells, a scalar in the frame of the active function, and a scalar of a function
-- that waits for a call, which stays as it is
pub data Seat : Type 0 where
  Vacant : Seat
  LiesAt : ℕ → ℕ → Seat
  InFrame : ℕ → Seat
  Waits : Obj → Seat

-- words of memory that live beside all objects: those of a local object of a function that runs or waits, from its entry to its return
pub record Room : Type 0 where
  pub start : ℕ
  pub count : ℕ

-- by the numbers of objects, with whether their cells hold pointers; besides, the rooms, and how many objects had been made when the active function
-- was called
pub record Seats : Type 0 where
  pub seat : ℕ → Seat
  pub points : ℕ → Bool
  pub rooms : List Room
  pub least : ℕ

-- another seat for one object: where it is made, and where it ends
abbrev pub with_seat : ℕ → Seat → Seats → Seats
with_seat object s seats = record seats { seat = λ k. if k == object then s else seats.seat k }

-- a pointer to an index of what has an address is a word; one to an ended object is any; and nothing points into a frame
abbrev pub PointsAt : Seat → ℕ → ℕ → Type 0
PointsAt Vacant i y = ⊤
PointsAt (LiesAt a n) i y = (i ≤ n) × (y ≡ a + i)
PointsAt (InFrame k) i y = ⊥
PointsAt (Waits o) i y = ⊥

module _ (seats : Seats) where
  -- the word of a value, which is a pointer or none, when so many objects were made
  abbrev pub ValueAlike : ℕ → Bool → Value → ℕ → Type 0
  ValueAlike made false (Word x) y = (x ≡ y) × (y < 65536)
  ValueAlike made false (Pointer object i) y = ⊥
  ValueAlike made false Null y = ⊥
  ValueAlike made true (Word x) y = ⊥
  ValueAlike made true (Pointer object i) y = (object < made) × ((y < 65536) × PointsAt (seats.seat object) i y)
  ValueAlike made true Null y = y ≡ 0

-- an object of 1 to 32,767 cells, in words that aren't registers of the machine
pub record IsPlace (a n : ℕ) : Type 0 where
  pub from_one : 1 ≤ n
  pub most : n ≤ MOST_CELLS
  pub first : 16 ≤ a
  pub last : a + n < 65536

-- two objects, of which none begins before the spare word of the other
abbrev pub Apart : Seat → Seat → Type 0
Apart (LiesAt a n) (LiesAt b m) = (a + n < b) ⊎ (b + m < a)
Apart (InFrame k) (InFrame j) = k ≢ j
Apart p q = ⊤

-- seats of objects that may live at once
pub record AreSeats (seats : Seats) : Type 0 where
  pub place : (k a n : ℕ) → seats.seat k ≡ LiesAt a n → IsPlace a n
  pub apart : (k l : ℕ) → k ≢ l → Apart (seats.seat k) (seats.seat l)

-- a seat for a new object beside the others
pub record IsFree (seats : Seats) (object : ℕ) (s : Seat) : Type 0 where
  pub place : (a n : ℕ) → s ≡ LiesAt a n → IsPlace a n
  pub apart : (l : ℕ) → l ≢ object → Apart s (seats.seat l)

-- a pointer to a living object
pub record Points (seats : Seats) (object i y : ℕ) : Type 0 where
  pub start : ℕ
  pub count : ℕ
  pub seat : seats.seat object ≡ LiesAt start count
  pub within : i ≤ count
  pub word : y ≡ start + i
