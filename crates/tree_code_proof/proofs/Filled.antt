-- A local array that got its list stands beside the words that were written.
use Rattle.std.proofs.Common.{◌≡◌, ◌≢◌, ◌⊎◌, ⊎_elim, ℕ, suc, ◌+◌, ◌-◌, ◌*◌, ◌<◌, ◌≤◌, Bool, true, false, cond, List, [], ◌∷◌, length, Option, Some, None, refl, sym, ap, ◌∙◌, subst, arith}
use Rattle.std.specs.Prelude.{◌==◌, map, replicate, slice_get}
use Rattle.std.specs.List.{AllByRecursion}
use Rattle.std.proofs.lemmas.Bool.{eqb-true, eqb-false}
use Rattle.std.proofs.lemmas.List.{length-append, length-map, length-replicate}
use Rattle.std.proofs.lemmas.List.Elements.{recursion_from_All}
use Rattle.std.proofs.lemmas.Option.{none-some, same_Some, slice_get-get_or, slice_get_within}
use Rattle.c_tree.specs.declared.enclosing.Enclosing.{Enclosing}
use Rattle.c_tree.specs.declared.program.VarRef.{VarRef}
use Rattle.c_tree.specs.declared.program.VarRef.TheVariants.{Local, Static}
use Rattle.c_tree.specs.TypedTree.{ObjectTree, FunctionTree, ProgramTree}
use Rattle.ir_semantics.specs.SourceWork.{fill_work}
use Rattle.tree_code_proof.specs.Counted as source
use Rattle.c_tree.specs.Store.{Obj, Cell, is_pointer, with_object}
use Rattle.tree_code_proof.specs.Counted.{World}
use Rattle.c_tree.specs.Eval.{points}
use Rattle.tree_code_proof.specs.Executed as execution
use Rattle.c_tree.specs.Exec.{set_cells, cells_set}
use Rattle.c_tree.specs.WellFormed.{Shape, Names, IsInitial, IsFilled, IsThere}
use Rattle.c_tree.specs.WellFormedProgram.{IsObject, object_in, static_in, object_shape}
use Rattle.ir_semantics.specs.Outside as words
use Rattle.ir_semantics.specs.Outside.{Memory, Frame, Places, address_of, with_memory, initial_word, initial_words, cell_address}
use Rattle.ir_semantics.specs.Parts.{Gives, Next, after, give}
use Rattle.ir_semantics.specs.TreeRun as run
use Rattle.ir_semantics.specs.TreeRun.{Tree}
use Rattle.c_tree.specs.TypedOfWords.{StartsWithWord}
use Rattle.tree_code_proof.specs.Seats.{Room, Seat, Vacant, LiesAt, InFrame, Waits, Seats, Apart}
use Rattle.tree_code_proof.specs.Beside.{Lives, IsRoom, Held, CellAlike, ObjectAlike, SeatAlike, Alike}
use Rattle.tree_code_proof.specs.Surroundings.{ArePlaces}
use Rattle.tree_code_proof.proofs.GrowingStatements.{fill_grows}
use Rattle.tree_code_proof.proofs.Rules.{Rel}
use Rattle.tree_code_proof.proofs.Writing.{cell_lives, rooms_written}
use Rattle.tree_code_proof.proofs.Forms.{worked, was_made, not_vacant}
use Rattle.tree_code_proof.proofs.Callees.{shape_of}
use Rattle.tree_code_proof.proofs.Initials.{cells_start, cells_count}
use Rattle.tree_code_proof.proofs.Filling.{written_from, wrote_words, written_apart, written_there}
use Rattle.tree_code_proof.proofs.Interfaces.{Left, Runs}

words_count : (q : Places) (o : ObjectTree) → length o.initial ≤ o.length → length (initial_words q o) ≡ o.length
words_count q o within =
    let both = length-append (map (initial_word q) o.initial) (replicate (o.length - length o.initial) 0) in
    let first = length-map o.initial (initial_word q) in
    let rest = length-replicate {A = ℕ} (o.length - length o.initial) 0 in
    omega (arith, both, first, rest, within)

rooms_behind : (a i : ℕ) (xs : List ℕ) (m : Memory) (rooms : List Room) → AllByRecursion (IsRoom m) rooms → AllByRecursion (IsRoom (written_from a i xs m)) rooms
rooms_behind a i [] m rooms h = h
rooms_behind a i (x ∷ xs) m rooms h = rooms_behind a (suc i) xs (words.with_word (cell_address a i) x m) rooms (rooms_written m (cell_address a i) x rooms h)

-- memory that is the same at the cells of a seat
module _ (seats : Seats) (made : ℕ) (a n : ℕ) (xs : List ℕ) (m : Memory) (f : Frame) (long : length xs ≤ n) (fits : a + n < 65536) where
  far_by : (b k i j : ℕ) → (a + n < b) ⊎ (b + k < a) → i < k → j < length xs → b + i ≢ cell_address a (0 + j)
  far_by b k i j far less within e = ⊎_elim (λ lt. omega (arith, lt, less, within, long, fits, e)) (λ lt. omega (arith, lt, less, within, long, fits, e)) far

  seat_elsewhere : (s : Seat) (o : Option Obj) → Apart (LiesAt a n) s → SeatAlike seats made s o m f → SeatAlike seats made s o (written_from a 0 xs m) f
  seat_elsewhere Vacant None far h = h
  seat_elsewhere Vacant (Some o) far h = h
  seat_elsewhere (LiesAt b k) None far h = h
  seat_elsewhere (LiesAt b k) (Some o) far h = record {
    count = h.count;
    cells = λ i c get.
        let less = slice_get_within o.cells i c get in
        subst (λ d. CellAlike seats made (is_pointer o.kind) c d) (sym (written_apart a 0 xs m (b + i) (λ j within. far_by b k i j far (omega (arith, less, h.count)) within))) (h.cells i c get);
  }
  seat_elsewhere (InFrame j) None far h = h
  seat_elsewhere (InFrame j) (Some o) far h = h
  seat_elsewhere (Waits r) None far h = h
  seat_elsewhere (Waits r) (Some o) far h = h

kind_set : (p : Option Obj) (cs : List Cell) (o : Obj) → cells_set p cs ≡ Some o → (r : Obj) × ((p ≡ Some r) × (o.kind ≡ r.kind))
kind_set None cs o is = absurd (none-some o is)
kind_set (Some r) cs o is = (r, (refl, sym (ap (λ (x : Obj). x.kind) (same_Some _ o is))))

module _ (q : Places) (p : ProgramTree) (places : ArePlaces q p) (o : ObjectTree) (is : IsObject p o) (has : AllByRecursion StartsWithWord o.initial)
    (seats : Seats) (hs : List Held) (w : World) (t : Tree) (a : Alike seats hs w t) (seated : (n : ℕ) (o : ObjectTree) → slice_get p.statics n ≡ Some o → seats.seat n ≡ LiesAt (q.static n) o.length)
    (object b : ℕ) (at : seats.seat object ≡ LiesAt b o.length) (pointing : seats.points object ≡ is_pointer o.kind) where
  abbrev listed : List ℕ
  listed = initial_words q o

  count : length listed ≡ o.length
  count = words_count q o is.within

  fits : b + o.length < 65536
  fits = (a.seated.place object b o.length at).last

  static_made : (n : ℕ) (o : ObjectTree) → slice_get p.statics n ≡ Some o → (seats.seat n ≡ LiesAt (q.static n) o.length) × (n < w.store.made)
  static_made n o get = let s = seated n o get in (s, was_made seats w.store.made n (LiesAt (q.static n) o.length) s (not_vacant seats (q.static n) o.length) a.unmade)

  from_zero : (i : ℕ) → i ≡ 0 + i
  from_zero i = omega arith

  own_object : ObjectAlike seats w.store.made b o.length (record { cells = set_cells o; kind = o.kind }) (written_from b 0 listed t.outside.memory)
  own_object = record {
    count = cells_count q p places seats w.store.made static_made o is.within;
    cells = λ i c get.
        let x = cells_start q p places seats w.store.made static_made o.kind o.initial (o.length - length o.initial) i c (recursion_from_All (IsInitial (static_in p) o.kind) o.initial is.starts) has get in
        subst (λ m. CellAlike seats w.store.made (is_pointer o.kind) c m) (sym (ap (λ z. written_from b 0 listed t.outside.memory (b + z)) (from_zero i) ∙ written_there b 0 listed t.outside.memory (omega (arith, count, fits)) i x.0 x.1)) x.2;
  }

  -- the object keeps its type
  own_kind : (r : Obj) → is_pointer r.kind ≡ is_pointer o.kind → ObjectAlike seats w.store.made b o.length (record r { cells = set_cells o }) (written_from b 0 listed t.outside.memory)
  own_kind r e = record {
    count = own_object.count;
    cells = λ i c get. subst (λ k. CellAlike seats w.store.made k c (written_from b 0 listed t.outside.memory (b + i))) (sym e) (own_object.cells i c get);
  }

  own_seat : (r : Option Obj) → w.store.living object ≡ r → SeatAlike seats w.store.made (LiesAt b o.length) r t.outside.memory t.frame → SeatAlike seats w.store.made (LiesAt b o.length) (cells_set r (set_cells o)) (written_from b 0 listed t.outside.memory) t.frame
  own_seat None e h = absurd h
  own_seat (Some r) e h = own_kind r (a.kinds object r e ∙ pointing)

  seat_behind : (j : ℕ) (c : Bool) → (j == object) ≡ c → SeatAlike seats w.store.made (seats.seat j) (cond c (cells_set (w.store.living object) (set_cells o)) (w.store.living j)) (written_from b 0 listed t.outside.memory) t.frame
  seat_behind j true e =
      subst (λ s. SeatAlike seats w.store.made s (cells_set (w.store.living object) (set_cells o)) (written_from b 0 listed t.outside.memory) t.frame) (sym (ap seats.seat (eqb-true j object e) ∙ at))
      (own_seat (w.store.living object) refl (subst (λ s. SeatAlike seats w.store.made s (w.store.living object) t.outside.memory t.frame) at (a.objects object)))
  seat_behind j false e =
      seat_elsewhere seats w.store.made b o.length listed t.outside.memory t.frame (omega (arith, count)) fits (seats.seat j) (w.store.living j)
      (subst (λ s. Apart s (seats.seat j)) at (a.seated.apart object j (λ same. eqb-false j object e (sym same)))) (a.objects j)

  kind_behind : (j : ℕ) (c : Bool) (r : Obj) → (j == object) ≡ c → cond c (cells_set (w.store.living object) (set_cells o)) (w.store.living j) ≡ Some r → is_pointer r.kind ≡ seats.points j
  kind_behind j true r e get =
      let old = kind_set (w.store.living object) (set_cells o) r get in
      ap is_pointer old.1.1 ∙ a.kinds object old.0 old.1.0 ∙ ap seats.points (sym (eqb-true j object e))
  kind_behind j false r e get = a.kinds j r get

  abbrev filled_world : World
  filled_world = record w { store = with_object object (cells_set (w.store.living object) (set_cells o)) w.store }

  abbrev filled_tree : Tree
  filled_tree = record t { outside = with_memory (written_from b 0 listed t.outside.memory) t.outside }

  pub filled : Alike seats hs filled_world filled_tree
  filled = record {
    seated = a.seated;
    rooms = rooms_behind b 0 listed t.outside.memory seats.rooms a.rooms;
    least = a.least;
    unmade = a.unmade;
    kinds = λ j r get. kind_behind j (j == object) r refl get;
    objects = λ j. seat_behind j (j == object) refl;
    held = a.held;
    input = a.input;
    words = a.words;
    outs = a.outs;
    work = a.work;
  }

  -- its cells live before
  cell_before : (r : Option Obj) → SeatAlike seats w.store.made (LiesAt b o.length) r t.outside.memory t.frame → (j : ℕ) → j < length listed → Lives (t.outside.memory (cell_address b (0 + j)))
  cell_before None h j less = absurd h
  cell_before (Some r) h j less =
      let at : b + j ≡ cell_address b (0 + j) = omega (arith, less, count, fits) in
      let within : j < length r.cells = omega (arith, less, count, h.count) in
      subst (λ z. Lives (t.outside.memory z)) at (cell_lives seats w.store.made (is_pointer r.kind) _ (t.outside.memory (b + j)) (h.cells j _ (slice_get-get_or r.cells j source.Unset within)))

  pub fill_wrote : run.write_words b 0 listed t ≡ Gives (tt {0}) filled_tree
  fill_wrote = wrote_words b 0 listed t (cell_before (w.store.living object) (subst (λ s. SeatAlike seats w.store.made s (w.store.living object) t.outside.memory t.frame) at (a.objects object)))

-- names stand for objects of their function, and static objects have theirs
pub record AreObjects (objects names : VarRef → Option Shape) : Type 0 where
  pub objects_of : (v : VarRef) (s : Shape) → names v ≡ Some s → objects v ≡ Some s
  pub statics : (n : ℕ) (s : Shape) → objects (Static n) ≡ Some s → names (Static n) ≡ Some s

module _ (q : Places) (p : ProgramTree) (f : ℕ) (g : FunctionTree) (function : slice_get p.functions f ≡ Some g) (places : ArePlaces q p) (locals : (n : ℕ) (o : ObjectTree) → slice_get g.locals n ≡ Some o → IsObject p o × AllByRecursion StartsWithWord o.initial) where
  there : (x : Option Shape) → IsThere x → (s : Shape) × (x ≡ Some s)
  there None h = absurd h
  there (Some s) h = (s, refl)

  pub fill_keeps : (names : Names) (c : Enclosing) (k : ℕ) → AreObjects (object_in p g) names.object → IsFilled names k
      → Runs q p f (object_in p g) (points g.result) names c (λ env. source.ticked (fill_work (slice_get env.function.locals k)) (execution.fill (slice_get env.function.locals k) (env.local k))) (run.fill_does q (slice_get g.locals k) (address_of q f (Local k)))
  fill_keeps names c k objects h = record {
    by = λ env seats around hs w t a.
        let s = there (names.object (Local k)) h.lives in
        let o = shape_of (slice_get g.locals k) s.0 (objects.objects_of (Local k) s.0 s.1) in
        let facts = locals k o.0 o.1 in
        let same : slice_get env.function.locals k ≡ Some o.0 = ap (λ (h : FunctionTree). slice_get h.locals k) (same_Some env.function g (sym around.function ∙ function)) ∙ o.1 in
        let seat : seats.seat (env.local k) ≡ LiesAt (q.local f k) o.0.length = around.named (Local k) s.0 s.1 ∙ ap (λ n. LiesAt (q.local f k) n) (sym o.2) in
        let kind : seats.points (env.local k) ≡ is_pointer o.0.kind = around.kinds (Local k) s.0 s.1 ∙ ap is_pointer (sym o.3) in
        let seated : (n : ℕ) (r : ObjectTree) → slice_get p.statics n ≡ Some r → seats.seat n ≡ LiesAt (q.static n) r.length = λ n r get. around.named (Static n) _ (objects.statics n _ (ap object_shape get)) in
        let ready = worked seats hs w t (9 + (9 * length o.0.initial + 64 * o.0.length)) a in
        subst (λ x. Rel (Left seats hs (points g.result) c) (source.ticked (fill_work x) (execution.fill x (env.local k)) w) (run.fill_does q (slice_get g.locals k) (address_of q f (Local k)) t)) (sym same)
        (subst (λ x. Rel (Left seats hs (points g.result) c) (source.ticked (fill_work (Some o.0)) (execution.fill (Some o.0) (env.local k)) w) (run.fill_does q x (Some (q.local f k)) t)) (sym o.1)
        (subst (λ r. Rel (Left seats hs (points g.result) c) (source.ticked (fill_work (Some o.0)) (execution.fill (Some o.0) (env.local k)) w) (after r (λ _. give Next))) (sym (fill_wrote q p places o.0 facts.0 facts.1 seats hs _ _ ready seated (env.local k) (q.local f k) seat kind))
        (filled q p places o.0 facts.0 facts.1 seats hs _ _ ready seated (env.local k) (q.local f k) seat kind)));
    grows = fill_grows q (slice_get g.locals k) (address_of q f (Local k));
  }
