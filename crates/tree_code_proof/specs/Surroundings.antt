-- Where the objects of a program may lie, and what surrounds the run of a function: the seats of the names that it knows, and room for the objects that
-- it, or a function that it calls, makes later.
use Rattle.std.specs.Prelude.{◌≡◌, ◌≢◌, ℕ, List, [], slice_get, Option, Some, None}
use Rattle.std.specs.List.{AllByRecursion, Contains}
use Rattle.c_tree.specs.declared.program.VarRef.{VarRef}
use Rattle.c_tree.specs.declared.program.VarRef.TheVariants as name
use Rattle.c_tree.specs.TypedTree.{ObjectTree, FunctionTree, ProgramTree}
use Rattle.c_tree.specs.Store.{is_pointer}
use Rattle.c_tree.specs.Eval.{Env, object_number}
use Rattle.c_tree.specs.Rounds.{CallsAmong}
use Rattle.c_tree.specs.WellFormed.{Shape}
use Rattle.c_tree.specs.WellFormedProgram.{program_calls}
use Rattle.ir_semantics.specs.Outside.{Places}
use Rattle.tree_code_proof.specs.Reaching.{Reaches}
use Rattle.tree_code_proof.specs.Seats.{Seat, LiesAt, InFrame, Room, Seats, IsPlace, Apart}

-- the place of a name's object of so many cells
abbrev pub place_of_name : Places → ℕ → VarRef → ℕ → Seat
place_of_name q f (name.Scalar n) count = InFrame n
place_of_name q f (name.Local n) count = LiesAt (q.local f n) count
place_of_name q f (name.Static n) count = LiesAt (q.static n) count

-- the local object of a function by its numbers
abbrev pub locals_of : Option FunctionTree → List ObjectTree
locals_of None = []
locals_of (Some g) = g.locals

abbrev pub IsLocal : ProgramTree → ℕ → ℕ → ObjectTree → Type 0
IsLocal p f n o = slice_get (locals_of (slice_get p.functions f)) n ≡ Some o

-- the places of static objects, and of local objects of functions that can be active at once, are apart
pub record ArePlaces (q : Places) (p : ProgramTree) : Type 0 where
  pub static : (n : ℕ) (o : ObjectTree) → slice_get p.statics n ≡ Some o → IsPlace (q.static n) o.length
  pub local : (f n : ℕ) (o : ObjectTree) → IsLocal p f n o → IsPlace (q.local f n) o.length
  pub statics : (n m : ℕ) (o r : ObjectTree) → n ≢ m → slice_get p.statics n ≡ Some o → slice_get p.statics m ≡ Some r → Apart (LiesAt (q.static n) o.length) (LiesAt (q.static m) r.length)
  pub beside : (n f m : ℕ) (o r : ObjectTree) → slice_get p.statics n ≡ Some o → IsLocal p f m r → Apart (LiesAt (q.static n) o.length) (LiesAt (q.local f m) r.length)
  pub locals : (f n m : ℕ) (o r : ObjectTree) → n ≢ m → IsLocal p f n o → IsLocal p f m r → Apart (LiesAt (q.local f n) o.length) (LiesAt (q.local f m) r.length)
  pub meeting : (f g n m : ℕ) (o r : ObjectTree) → f ≢ g → Reaches p f g → IsLocal p f n o → IsLocal p g m r → Apart (LiesAt (q.local f n) o.length) (LiesAt (q.local g m) r.length)

abbrev pub ApartOfRoom : Seat → Room → Type 0
ApartOfRoom s r = Apart s (LiesAt r.start r.count)

-- a seat that nothing else takes, and no room
pub record IsOpen (seats : Seats) (s : Seat) : Type 0 where
  pub apart : (k : ℕ) → Apart s (seats.seat k)
  pub rooms : AllByRecursion (ApartOfRoom s) seats.rooms

-- a function may be called: its objects, and those of all that it reaches, have open seats, and static objects have theirs
pub record MayBeCalled (q : Places) (p : ProgramTree) (f : ℕ) (seats : Seats) : Type 0 where
  pub statics : (n : ℕ) (o : ObjectTree) → slice_get p.statics n ≡ Some o → seats.seat n ≡ LiesAt (q.static n) o.length
  pub kinds : (n : ℕ) (o : ObjectTree) → slice_get p.statics n ≡ Some o → seats.points n ≡ is_pointer o.kind
  pub has_room : (g n : ℕ) (o : ObjectTree) → Reaches p f g → IsLocal p g n o → IsOpen seats (LiesAt (q.local g n) o.length)

-- what surrounds a part of a function: names with these objects are seated as the environment says, any other name of the function has a seat that
-- is free, all its objects have room, and it may call what it calls
pub record Surrounds (q : Places) (p : ProgramTree) (f : ℕ) (objects names : VarRef → Option Shape) (env : Env) (seats : Seats) : Type 0 where
  pub function : slice_get p.functions f ≡ Some env.function
  pub named : (v : VarRef) (s : Shape) → names v ≡ Some s → seats.seat (object_number env v) ≡ place_of_name q f v s.length
  pub kinds : (v : VarRef) (s : Shape) → names v ≡ Some s → seats.points (object_number env v) ≡ is_pointer s.kind
  pub free : (v : VarRef) (s : Shape) → names v ≡ None → objects v ≡ Some s → (k : ℕ) → Apart (place_of_name q f v s.length) (seats.seat k)
  pub rooms : (n : ℕ) (o : ObjectTree) → IsLocal p f n o → Contains seats.rooms (record { start = q.local f n; count = o.length })
  pub callees : (g : ℕ) → CallsAmong (program_calls p.functions) f g → MayBeCalled q p g seats
