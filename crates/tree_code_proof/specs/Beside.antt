-- The two runs side by side: the objects of a typed program, and words at addresses and in the frame of the active function.
use Rattle.std.specs.Prelude.{◌≡◌, ⊤, ℕ, ◌+◌, ◌<◌, ◌≤◌, Bool, List, [], ◌∷◌, length, slice_get, Option, Some, None}
use Rattle.std.specs.List.{AllByRecursion}
use Rattle.word_base.specs.Ports.{IsInput}
use Rattle.tree_code_proof.specs.Counted as source
use Rattle.c_tree.specs.Store.{Value, Obj, is_pointer}
use Rattle.tree_code_proof.specs.Counted.{World}
use Rattle.ir_semantics.specs.Outside as words
use Rattle.ir_semantics.specs.Outside.{Memory, Frame}
use Rattle.c_tree.specs.declared.program.VarRef.{VarRef}
use Rattle.c_tree.specs.declared.program.VarRef.TheVariants as name
use Rattle.ir_semantics.specs.TreeRun.{Tree, Addresses}
use Rattle.tree_code_proof.specs.Seats.{Room, Seat, Vacant, LiesAt, InFrame, Waits, Seats, ValueAlike, AreSeats}

-- a word of memory that may be written
abbrev pub Lives : words.Cell → Type 0
Lives words.Nowhere = ⊥
Lives words.Unwritten = ⊤
Lives (words.Holds y) = ⊤

-- a room that lives
abbrev pub IsRoom : Memory → Room → Type 0
IsRoom m r = (i : ℕ) → i < r.count → Lives (m (r.start + i))

-- a value that is held while something else is evaluated, and its word
pub record Held : Type 0 where
  pub pointing : Bool
  pub value : Value
  pub word : ℕ

module _ (seats : Seats) (made : ℕ) where
  -- the word that a value is written as
  abbrev pub WordAlike : Bool → Value → Option ℕ → Type 0
  WordAlike pointing v None = ⊥
  WordAlike pointing v (Some y) = ValueAlike seats made pointing v y

  -- a cell that was not written is beside anything
  abbrev pub CellAlike : Bool → source.Cell → words.Cell → Type 0
  CellAlike pointing source.Unset c = Lives c
  CellAlike pointing (source.Holds v) c = WordAlike pointing v (words.word_of c)

  abbrev pub ScalarAlike : Bool → source.Cell → Option ℕ → Type 0
  ScalarAlike pointing source.Unset y = ⊤
  ScalarAlike pointing (source.Holds v) y = WordAlike pointing v y

  -- an object at an address, cell by cell, and one in a frame
  pub record ObjectAlike (a n : ℕ) (o : Obj) (m : Memory) : Type 0 where
    pub count : length o.cells ≡ n
    pub cells : (i : ℕ) (c : source.Cell) → slice_get o.cells i ≡ Some c → CellAlike (is_pointer o.kind) c (m (a + i))

  pub record FrameAlike (k : ℕ) (o : Obj) (f : Frame) : Type 0 where
    pub count : length o.cells ≡ 1
    pub cells : (c : source.Cell) → slice_get o.cells 0 ≡ Some c → ScalarAlike (is_pointer o.kind) c (f k)

  -- an object that lives has a seat
  abbrev pub SeatAlike : Seat → Option Obj → Memory → Frame → Type 0
  SeatAlike Vacant None m f = ⊤
  SeatAlike Vacant (Some o) m f = ⊥
  SeatAlike (LiesAt a n) None m f = ⊥
  SeatAlike (LiesAt a n) (Some o) m f = ObjectAlike a n o m
  SeatAlike (InFrame k) None m f = ⊥
  SeatAlike (InFrame k) (Some o) m f = FrameAlike k o f
  SeatAlike (Waits o) None m f = ⊥
  SeatAlike (Waits o) (Some p) m f = p ≡ o

  abbrev pub HeldAlike : List Held → Type 0
  HeldAlike [] = ⊤
  HeldAlike (h ∷ hs) = ValueAlike seats made h.pointing h.value h.word × HeldAlike hs

-- both states, with values that are held
pub record Alike (seats : Seats) (hs : List Held) (w : World) (t : Tree) : Type 0 where
  pub seated : AreSeats seats
  pub rooms : AllByRecursion (IsRoom t.outside.memory) seats.rooms
  pub least : seats.least ≤ w.store.made
  pub unmade : (k : ℕ) → w.store.made ≤ k → seats.seat k ≡ Vacant
  pub kinds : (k : ℕ) (o : Obj) → w.store.living k ≡ Some o → is_pointer o.kind ≡ seats.points k
  pub objects : (k : ℕ) → SeatAlike seats w.store.made (seats.seat k) (w.store.living k) t.outside.memory t.frame
  pub held : HeldAlike seats w.store.made hs
  pub input : t.outside.input ≡ w.input
  pub words : IsInput w.input
  pub outs : t.outside.outs ≡ w.outs
  pub work : t.work ≤ w.work

-- a name stands for an object in the frame, or at the address of the name
abbrev pub LiesThere : Option ℕ → Seat → Type 0
LiesThere None s = ⊥
LiesThere (Some a) Vacant = ⊥
LiesThere (Some a) (LiesAt b n) = a ≡ b
LiesThere (Some a) (InFrame k) = ⊥
LiesThere (Some a) (Waits o) = ⊥

abbrev pub IsSeatOf : Addresses → VarRef → Seat → Type 0
IsSeatOf at (name.Scalar n) s = s ≡ InFrame n
IsSeatOf at (name.Local n) s = LiesThere (at (name.Local n)) s
IsSeatOf at (name.Static n) s = LiesThere (at (name.Static n)) s
