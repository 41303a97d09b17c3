-- What a typed program reads from a cell, its word tree reads from memory or from the frame.
use Rattle.std.proofs.Common.{◌≡◌, ℕ, ◌+◌, Bool, List, ◌∷◌, Option, Some, None, refl, sym, subst}
use Rattle.std.proofs.lemmas.Option.{none-some}
use Rattle.word_base.specs.Ports.{Prefix}
use Rattle.word_base.specs.declared.outcome.UndefinedKind.{UndefinedKind}
use Rattle.word_base.specs.declared.outcome.UndefinedKind.TheVariants.{BadPointer, Indeterminate}
use Rattle.tree_code_proof.specs.Counted as source
use Rattle.c_tree.specs.Store.{Value, Obj, cell_of}
use Rattle.tree_code_proof.specs.Counted.{World}
use Rattle.ir_semantics.specs.Parts.{Res}
use Rattle.ir_semantics.specs.Outside as words
use Rattle.ir_semantics.specs.Outside.{Memory, Frame, word_of}
use Rattle.ir_semantics.specs.TreeRun as run
use Rattle.ir_semantics.specs.TreeRun.{Tree, need}
use Rattle.tree_code_proof.specs.Seats.{Seat, Vacant, LiesAt, InFrame, Waits, Seats, PointsAt, ValueAlike}
use Rattle.tree_code_proof.specs.Beside.{Held, WordAlike, CellAlike, ScalarAlike, SeatAlike, Alike}
use Rattle.tree_code_proof.proofs.Growing.{Grows, outs_of, need_grows}
use Rattle.tree_code_proof.proofs.Rules.{Post, Rel}
use Rattle.tree_code_proof.proofs.Cells.{found}

-- one value is known on both sides besides those that are held
abbrev pub Valued : Seats → List Held → Bool → Post Value ℕ
Valued seats hs pointing v x w t = Alike seats (record { pointing = pointing; value = v; word = x } ∷ hs) w t

-- a value joins those that are held
pub holding : (seats : Seats) (hs : List Held) (h : Held) (w : World) (t : Tree) → Alike seats hs w t → ValueAlike seats w.store.made h.pointing h.value h.word → Alike seats (h ∷ hs) w t
holding seats hs h w t a v = record { seated = a.seated; rooms = a.rooms; least = a.least; unmade = a.unmade; kinds = a.kinds; objects = a.objects; held = (v, a.held); input = a.input; words = a.words; outs = a.outs; work = a.work }

-- and is held no more
pub let_go : (seats : Seats) (hs : List Held) (h : Held) (w : World) (t : Tree) → Alike seats (h ∷ hs) w t → Alike seats hs w t
let_go seats hs h w t a = record { seated = a.seated; rooms = a.rooms; least = a.least; unmade = a.unmade; kinds = a.kinds; objects = a.objects; held = a.held.1; input = a.input; words = a.words; outs = a.outs; work = a.work }

-- the first of two is held no more
pub let_second_go : (seats : Seats) (hs : List Held) (g h : Held) (w : World) (t : Tree) → Alike seats (g ∷ h ∷ hs) w t → Alike seats (g ∷ hs) w t
let_second_go seats hs g h w t a = record { seated = a.seated; rooms = a.rooms; least = a.least; unmade = a.unmade; kinds = a.kinds; objects = a.objects; held = (a.held.0, a.held.1.1); input = a.input; words = a.words; outs = a.outs; work = a.work }

-- where a typed program fails, the outputs so far are a beginning
pub failing : (seats : Seats) (hs : List Held) {A B : Type 0} (q : Post A B) (kind : UndefinedKind) (at : ℕ) (w : World) (t : Tree) (f : Tree → Res Tree B) → Alike seats hs w t → Grows f → Rel q (source.fail kind at w) (f t)
failing seats hs q kind at w t f a g = subst (λ o. Prefix o (outs_of (f t))) a.outs (g.by t)

module _ (seats : Seats) (made : ℕ) where
  -- the cell that a pointer points to
  pub cell_at : (s : Seat) (o : Option Obj) (m : Memory) (f : Frame) (i y : ℕ) (wanted : Bool) (c : source.Cell) → SeatAlike seats made s o m f → PointsAt s i y → cell_of o i wanted ≡ Some c → CellAlike seats made wanted c (m y)
  cell_at s None m f i y wanted c h p e = absurd (none-some c e)
  cell_at Vacant (Some o) m f i y wanted c h p e = absurd h
  cell_at (LiesAt a n) (Some o) m f i y wanted c h p e =
      let x = found o i wanted c e in
      subst (λ b. CellAlike seats made wanted c (m b)) (sym p.1) (subst (λ b. CellAlike seats made b c (m (a + i))) x.0 (h.cells i c x.1))
  cell_at (InFrame k) (Some o) m f i y wanted c h p e = absurd p
  cell_at (Waits q) (Some o) m f i y wanted c h p e = absurd p

  -- the cell of a scalar in the frame
  pub scalar_at : (s : Seat) (o : Option Obj) (m : Memory) (f : Frame) (k : ℕ) (wanted : Bool) (c : source.Cell) → s ≡ InFrame k → SeatAlike seats made s o m f → cell_of o 0 wanted ≡ Some c → ScalarAlike seats made wanted c (f k)
  scalar_at s None m f k wanted c is h e = absurd (none-some c e)
  scalar_at s (Some o) m f k wanted c is h e =
      let x = found o 0 wanted c e in
      let g = subst (λ s. SeatAlike seats made s (Some o) m f) is h in
      subst (λ b. ScalarAlike seats made b c (f k)) x.0 (g.cells c x.1)

module _ (seats : Seats) (hs : List Held) (w : World) (t : Tree) (a : Alike seats hs w t) where
  given : (wanted : Bool) (v : Value) (y : Option ℕ) (at : ℕ) → WordAlike seats w.store.made wanted v y → Rel (Valued seats hs wanted) (source.give v w) (need y t)
  given wanted v None at h = absurd h
  given wanted v (Some y) at h = holding seats hs (record { pointing = wanted; value = v; word = y }) w t a h

  read_from : (wanted : Bool) (c : Option source.Cell) (m : words.Cell) (at : ℕ) → ((d : source.Cell) → c ≡ Some d → CellAlike seats w.store.made wanted d m) → Rel (Valued seats hs wanted) (source.read_cell c at w) (need (word_of m) t)
  read_from wanted None m at h = failing seats hs (Valued seats hs wanted) BadPointer at w t (need (word_of m)) a (need_grows (word_of m))
  read_from wanted (Some source.Unset) m at h = failing seats hs (Valued seats hs wanted) Indeterminate at w t (need (word_of m)) a (need_grows (word_of m))
  read_from wanted (Some (source.Holds v)) m at h = given wanted v (word_of m) at (h (source.Holds v) refl)

  scalar_from : (wanted : Bool) (c : Option source.Cell) (y : Option ℕ) (at : ℕ) → ((d : source.Cell) → c ≡ Some d → ScalarAlike seats w.store.made wanted d y) → Rel (Valued seats hs wanted) (source.read_cell c at w) (need y t)
  scalar_from wanted None y at h = failing seats hs (Valued seats hs wanted) BadPointer at w t (need y) a (need_grows y)
  scalar_from wanted (Some source.Unset) y at h = failing seats hs (Valued seats hs wanted) Indeterminate at w t (need y) a (need_grows y)
  scalar_from wanted (Some (source.Holds v)) y at h = given wanted v y at (h (source.Holds v) refl)

  -- through a pointer, whether its object lives or not
  pub read_at : (object i y : ℕ) (wanted : Bool) (at : ℕ) → PointsAt (seats.seat object) i y → Rel (Valued seats hs wanted) (source.load object i wanted at w) (run.read_word y t)
  read_at object i y wanted at p =
      read_from wanted (cell_of (w.store.living object) i wanted) (t.outside.memory y) at (λ d is. cell_at seats w.store.made (seats.seat object) (w.store.living object) t.outside.memory t.frame i y wanted d (a.objects object) p is)

  -- a scalar in the frame
  pub read_in_frame : (object k : ℕ) (wanted : Bool) (at : ℕ) → seats.seat object ≡ InFrame k → Rel (Valued seats hs wanted) (source.load object 0 wanted at w) (run.read_scalar k t)
  read_in_frame object k wanted at is =
      scalar_from wanted (cell_of (w.store.living object) 0 wanted) (t.frame k) at (λ d e. scalar_at seats w.store.made (seats.seat object) (w.store.living object) t.outside.memory t.frame k wanted d is (a.objects object) e)
