-- What a typed program writes to a cell, its word tree writes to memory or to the frame, and every other object stays as it is.
use Rattle.std.proofs.Common.{◌≡◌, ◌≢◌, ℕ, ◌+◌, ◌≤◌, Bool, true, false, cond, List, [], ◌∷◌, Option, Some, None, refl, sym, ap, ◌∙◌, subst, arith}
use Rattle.std.specs.Prelude.{◌==◌, slice_get, slice_set}
use Rattle.std.specs.List.{AllByRecursion}
use Rattle.std.proofs.lemmas.Bool.{eq-eqb, ne_eqb, eqb-true, eqb-false}
use Rattle.std.proofs.lemmas.Option.{none-some, same_Some, slice_get_within}
use Rattle.word_base.specs.declared.outcome.UndefinedKind.TheVariants.{BadPointer}
use Rattle.tree_code_proof.specs.Counted as source
use Rattle.c_tree.specs.Store.{Value, Obj, is_pointer, cell_of, with_cell}
use Rattle.tree_code_proof.specs.Counted.{World, store_value}
use Rattle.ir_semantics.specs.Outside as words
use Rattle.ir_semantics.specs.Outside.{Memory, Frame, with_word, with_scalar, with_memory}
use Rattle.ir_semantics.specs.TreeRun as run
use Rattle.ir_semantics.specs.TreeRun.{Tree}
use Rattle.tree_code_proof.specs.Seats.{Room, Seat, Vacant, LiesAt, InFrame, Waits, Seats, PointsAt, ValueAlike, Apart}
use Rattle.tree_code_proof.specs.Beside.{Lives, IsRoom, Held, CellAlike, ObjectAlike, SeatAlike, Alike}
use Rattle.tree_code_proof.proofs.Growing.{write_word_grows}
use Rattle.tree_code_proof.proofs.Rules.{Rel}
use Rattle.tree_code_proof.proofs.Cells.{found, set_here, set_apart, set_length}
use Rattle.tree_code_proof.proofs.Pointers.{differs}
use Rattle.tree_code_proof.proofs.Reading.{Valued, failing, cell_at}

pub word_apart : (m : Memory) (y x z : ℕ) → z ≢ y → with_word y x m z ≡ m z
word_apart m y x z ne = ap (λ b. cond b (words.Holds x) (m z)) (ne_eqb z y ne)

pub word_here : (m : Memory) (y x z : ℕ) → z ≡ y → with_word y x m z ≡ words.Holds x
word_here m y x z e = ap (λ b. cond b (words.Holds x) (m z)) (eq-eqb z y e)

pub scalar_apart : (f : Frame) (k x j : ℕ) → j ≢ k → with_scalar k x f j ≡ f j
scalar_apart f k x j ne = ap (λ b. cond b (Some x) (f j)) (ne_eqb j k ne)

pub scalar_here : (f : Frame) (k x : ℕ) → with_scalar k x f k ≡ Some x
scalar_here f k x = ap (λ b. cond b (Some x) (f k)) (eq-eqb k k refl)

-- objects keep their types behind a write
kind_with_cell : (p : Option Obj) (i : ℕ) (v : Value) (o : Obj) → with_cell p i v ≡ Some o → (r : Obj) × ((p ≡ Some r) × (o.kind ≡ r.kind))
kind_with_cell None i v o is = absurd (none-some o is)
kind_with_cell (Some r) i v o is = (r, (refl, sym (ap (λ (x : Obj). x.kind) (same_Some _ o is))))

module _ (points : ℕ → Bool) (living : ℕ → Option Obj) (object i : ℕ) (v : Value) (kinds : (k : ℕ) (o : Obj) → living k ≡ Some o → is_pointer o.kind ≡ points k) where
  kind_by : (k : ℕ) (o : Obj) (b : Bool) → (k == object) ≡ b → cond b (with_cell (living object) i v) (living k) ≡ Some o → is_pointer o.kind ≡ points k
  kind_by k o true same is = let old = kind_with_cell (living object) i v o is in ap is_pointer old.1.1 ∙ kinds object old.0 old.1.0 ∙ ap points (sym (eqb-true k object same))
  kind_by k o false differ is = kinds k o is

  pub kinds_written : (k : ℕ) (o : Obj) → cond (k == object) (with_cell (living object) i v) (living k) ≡ Some o → is_pointer o.kind ≡ points k
  kinds_written k o is = kind_by k o (k == object) refl is

-- rooms live on behind a write
pub lives_written : (m : Memory) (y x z : ℕ) (b : Bool) → (z == y) ≡ b → Lives (m z) → Lives (with_word y x m z)
lives_written m y x z true e h = subst Lives (sym (word_here m y x z (eqb-true z y e))) tt
lives_written m y x z false e h = subst Lives (sym (word_apart m y x z (eqb-false z y e))) h

pub rooms_written : (m : Memory) (y x : ℕ) (rs : List Room) → AllByRecursion (IsRoom m) rs → AllByRecursion (IsRoom (with_word y x m)) rs
rooms_written m y x [] h = tt
rooms_written m y x (r ∷ rs) h = (λ i less. lives_written m y x (r.start + i) (r.start + i == y) refl (h.0 i less), rooms_written m y x rs h.1)

module _ (seats : Seats) (made : ℕ) where
  pub cell_lives : (pointing : Bool) (c : source.Cell) (m : words.Cell) → CellAlike seats made pointing c m → Lives m
  cell_lives pointing source.Unset m h = h
  cell_lives pointing (source.Holds v) words.Nowhere h = absurd h
  cell_lives pointing (source.Holds v) words.Unwritten h = absurd h
  cell_lives pointing (source.Holds v) (words.Holds y) h = tt

  -- in the object that is written to
  own_cell : (a n : ℕ) (o : Obj) (m : Memory) (i x : ℕ) (v : Value) → ObjectAlike seats made a n o m → ValueAlike seats made (is_pointer o.kind) v x
      → (j : ℕ) (c : source.Cell) (b : Bool) → (j == i) ≡ b → slice_get (slice_set o.cells i (source.Holds v)) j ≡ Some c → CellAlike seats made (is_pointer o.kind) c (with_word (a + i) x m (a + j))
  own_cell a n o m i x v h is j c true e get =
      let same : j ≡ i = eqb-true j i e in
      let at : source.Holds v ≡ c = set_here o.cells i (source.Holds v) c (ap (λ k. slice_get (slice_set o.cells i (source.Holds v)) k) (sym same) ∙ get) in
      subst (λ d. CellAlike seats made (is_pointer o.kind) d (with_word (a + i) x m (a + j))) at
      (subst (λ d. CellAlike seats made (is_pointer o.kind) (source.Holds v) d) (sym (word_here m (a + i) x (a + j) (ap (λ k. a + k) same))) is)
  own_cell a n o m i x v h is j c false e get =
      let other : j ≢ i = eqb-false j i e in
      subst (λ d. CellAlike seats made (is_pointer o.kind) c d) (sym (word_apart m (a + i) x (a + j) (λ p. other (omega (arith, p)))))
      (h.cells j c (sym (set_apart o.cells i j (source.Holds v) other) ∙ get))

  own : (a n : ℕ) (o : Obj) (m : Memory) (i y x : ℕ) (v : Value) → y ≡ a + i → ObjectAlike seats made a n o m → ValueAlike seats made (is_pointer o.kind) v x
      → ObjectAlike seats made a n (record o { cells = slice_set o.cells i (source.Holds v) }) (with_word y x m)
  own a n o m i y x v at h is = record {
    count = set_length o.cells i (source.Holds v) ∙ h.count;
    cells = λ j c get. subst (λ y. CellAlike seats made (is_pointer o.kind) c (with_word y x m (a + j))) (sym at) (own_cell a n o m i x v h is j c (j == i) refl get);
  }

  own_seat : (s : Seat) (o : Option Obj) (m : Memory) (f : Frame) (i y x : ℕ) (v : Value) (wanted : Bool) (c : source.Cell) → PointsAt s i y → cell_of o i wanted ≡ Some c → SeatAlike seats made s o m f → ValueAlike seats made wanted v x
      → SeatAlike seats made s (with_cell o i v) (with_word y x m) f
  own_seat s None m f i y x v wanted c p e h is = absurd (none-some c e)
  own_seat Vacant (Some o) m f i y x v wanted c p e h is = absurd h
  own_seat (LiesAt a n) (Some o) m f i y x v wanted c p e h is = own a n o m i y x v p.1 h (subst (λ b. ValueAlike seats made b v x) (sym (found o i wanted c e).0) is)
  own_seat (InFrame k) (Some o) m f i y x v wanted c p e h is = absurd p
  own_seat (Waits q) (Some o) m f i y x v wanted c p e h is = absurd p

  -- in any other object
  other_seat : (a n i y x : ℕ) (s : Seat) (o : Option Obj) (m : Memory) (f : Frame) → i ≤ n → y ≡ a + i → Apart (LiesAt a n) s → SeatAlike seats made s o m f → SeatAlike seats made s o (with_word y x m) f
  other_seat a n i y x Vacant None m f le at far h = h
  other_seat a n i y x Vacant (Some o) m f le at far h = h
  other_seat a n i y x (LiesAt b k) None m f le at far h = h
  other_seat a n i y x (LiesAt b k) (Some o) m f le at far h = record {
    count = h.count;
    cells = λ j c get.
        let less = slice_get_within o.cells j c get in
        let far_off : b + j ≢ y = λ e. differs a n b k i j le (omega (arith, less, h.count)) far (sym at ∙ sym e) in
        subst (λ d. CellAlike seats made (is_pointer o.kind) c d) (sym (word_apart m y x (b + j) far_off)) (h.cells j c get);
  }
  other_seat a n i y x (InFrame k) None m f le at far h = h
  other_seat a n i y x (InFrame k) (Some o) m f le at far h = h
  other_seat a n i y x (Waits q) None m f le at far h = h
  other_seat a n i y x (Waits q) (Some o) m f le at far h = h

  past_seat : (r s : Seat) (p : Option Obj) (o : Option Obj) (m : Memory) (f : Frame) (i y x : ℕ) (wanted : Bool) (c : source.Cell) → PointsAt r i y → cell_of p i wanted ≡ Some c → SeatAlike seats made r p m f → Apart r s
      → SeatAlike seats made s o m f → SeatAlike seats made s o (with_word y x m) f
  past_seat Vacant s None o m f i y x wanted c at e g far h = absurd (none-some c e)
  past_seat Vacant s (Some p) o m f i y x wanted c at e g far h = absurd g
  past_seat (LiesAt a n) s p o m f i y x wanted c at e g far h = other_seat a n i y x s o m f at.0 at.1 far h
  past_seat (InFrame k) s p o m f i y x wanted c at e g far h = absurd at
  past_seat (Waits q) s p o m f i y x wanted c at e g far h = absurd at

module _ (seats : Seats) (hs : List Held) (w : World) (t : Tree) (a : Alike seats hs w t) (object i y : ℕ) (v : Value) (x : ℕ) (wanted : Bool) (c : source.Cell) (at : PointsAt (seats.seat object) i y) (e : cell_of (w.store.living object) i wanted ≡ Some c) (is : ValueAlike seats w.store.made wanted v x) where
  seat_behind : (k : ℕ) (b : Bool) → (k == object) ≡ b → SeatAlike seats w.store.made (seats.seat k) (cond b (with_cell (w.store.living object) i v) (w.store.living k)) (with_word y x t.outside.memory) t.frame
  seat_behind k true same =
      let k_is : k ≡ object = eqb-true k object same in
      subst (λ s. SeatAlike seats w.store.made s (with_cell (w.store.living object) i v) (with_word y x t.outside.memory) t.frame) (ap seats.seat (sym k_is))
      (own_seat seats w.store.made (seats.seat object) (w.store.living object) t.outside.memory t.frame i y x v wanted c at e (a.objects object) is)
  seat_behind k false differ =
      past_seat seats w.store.made (seats.seat object) (seats.seat k) (w.store.living object) (w.store.living k) t.outside.memory t.frame i y x wanted c at e (a.objects object) (a.seated.apart object k (λ p. eqb-false k object differ (sym p))) (a.objects k)

  -- both states behind a write
  pub written : Alike seats hs (store_value object i v w) (record t { outside = with_memory (with_word y x t.outside.memory) t.outside })
  written = record { seated = a.seated; rooms = rooms_written t.outside.memory y x seats.rooms a.rooms; least = a.least; unmade = a.unmade; kinds = kinds_written seats.points w.store.living object i v a.kinds; objects = λ k. seat_behind k (k == object) refl; held = a.held; input = a.input; words = a.words; outs = a.outs; work = a.work }

module _ (seats : Seats) (hs : List Held) (w : World) (t : Tree) (wanted : Bool) (v : Value) (x : ℕ) (a : Alike seats (record { pointing = wanted; value = v; word = x } ∷ hs) w t) where
  put_word : (object i y at : ℕ) (c : source.Cell) (m : words.Cell) → t.outside.memory y ≡ m → Lives m → PointsAt (seats.seat object) i y → cell_of (w.store.living object) i wanted ≡ Some c
      → Rel (Valued seats hs wanted) (source.write_cell (Some c) object i v at w) (run.write_cell m y x t)
  put_word object i y at c words.Nowhere is h p e = absurd h
  put_word object i y at c words.Unwritten is h p e = written seats _ w t a object i y v x wanted c p e a.held.0
  put_word object i y at c (words.Holds z) is h p e = written seats _ w t a object i y v x wanted c p e a.held.0

  put_at : (object i y at : ℕ) (c : Option source.Cell) → cell_of (w.store.living object) i wanted ≡ c → PointsAt (seats.seat object) i y → Rel (Valued seats hs wanted) (source.write_cell c object i v at w) (run.write_word y x t)
  put_at object i y at None e p = failing seats _ (Valued seats hs wanted) BadPointer at w t (run.write_word y x) a (write_word_grows y x)
  put_at object i y at (Some c) e p =
      put_word object i y at c (t.outside.memory y) refl
      (cell_lives seats w.store.made wanted c (t.outside.memory y) (cell_at seats w.store.made (seats.seat object) (w.store.living object) t.outside.memory t.frame i y wanted c (a.objects object) p e)) p e

  -- through a pointer, whether its object lives or not
  pub write_at : (object i y at : ℕ) → PointsAt (seats.seat object) i y → Rel (Valued seats hs wanted) (source.save object i wanted v at w) (run.write_word y x t)
  write_at object i y at p = put_at object i y at (cell_of (w.store.living object) i wanted) refl p
