-- What the cells of an object start with, where static objects are seated, beside the words that they start with.
use Rattle.std.proofs.Common.{◌≡◌, ℕ, zero, suc, ◌+◌, ◌-◌, ◌<◌, ◌≤◌, Bool, true, false, cond, List, [], ◌∷◌, ◌++◌, length, Option, Some, None, refl, sym, ap, ◌∙◌, subst, ⊎_elim, arith}
use Rattle.std.specs.Prelude.{map, replicate, slice_get}
use Rattle.std.specs.List.{AllByRecursion}
use Rattle.std.proofs.lemmas.Bool.{lt-ltb}
use Rattle.std.proofs.lemmas.List.{length-append, length-map, length-replicate}
use Rattle.std.proofs.lemmas.Option.{same_Some}
use Rattle.c_tree.specs.declared.program.Initial.{Initial}
use Rattle.c_tree.specs.declared.program.Initial.TheVariants as initial
use Rattle.c_tree.specs.declared.program.ScalarType.{ScalarType}
use Rattle.c_tree.specs.TypedTree.{ObjectTree, ProgramTree}
use Rattle.tree_code_proof.specs.Counted as source
use Rattle.c_tree.specs.Store.{Word, Pointer, Null, is_pointer}
use Rattle.c_tree.specs.Exec.{zero_of, initial_cell, set_cells}
use Rattle.c_tree.specs.WellFormed.{IsInitial, StartsAt}
use Rattle.c_tree.specs.WellFormedProgram.{object_shape, static_in}
use Rattle.ir_semantics.specs.Outside as words
use Rattle.ir_semantics.specs.Outside.{Places, cell_address, initial_word}
use Rattle.c_tree.specs.TypedOfWords.{StartsWithWord, StartsWithWords}
use Rattle.tree_code_proof.specs.Seats.{LiesAt, Seats, PointsAt, ValueAlike}
use Rattle.tree_code_proof.specs.Beside.{CellAlike}
use Rattle.tree_code_proof.specs.Surroundings.{ArePlaces}

-- the lists of objects of words are of words
pub words_listed : (statics : List ObjectTree) → StartsWithWords statics → (k : ℕ) (o : ObjectTree) → slice_get statics k ≡ Some o → AllByRecursion StartsWithWord o.initial
words_listed [] h k o get = absurd cc
words_listed (x ∷ xs) h zero o get = subst (λ (o : ObjectTree). AllByRecursion StartsWithWord o.initial) (same_Some x o get) h.0
words_listed (x ∷ xs) h (suc k) o get = words_listed xs h.1 k o get

module _ (q : Places) (p : ProgramTree) (places : ArePlaces q p) (seats : Seats) (made : ℕ) (seated : (n : ℕ) (o : ObjectTree) → slice_get p.statics n ≡ Some o → (seats.seat n ≡ LiesAt (q.static n) o.length) × (n < made)) where
  -- a pointer to a static object
  static_pointer : (kind : ScalarType) (object i : ℕ) (slot : Option ObjectTree) → slice_get p.statics object ≡ slot → StartsAt kind i (object_shape slot) → (is_pointer kind ≡ true) × ValueAlike seats made true (Pointer object i) (cell_address (q.static object) i)
  static_pointer kind object i None get h = absurd h
  static_pointer kind object i (Some o) get h =
      let place = places.static object o get in
      let last = place.last in
      let seat = seated object o get in
      let within = h.0 in
      let pointing : is_pointer kind ≡ true = ⊎_elim (λ e. ap is_pointer e) (λ e. ap is_pointer e ∙ lt-ltb 0 (o.kind.stars + 1) (omega arith)) h.1 in
      let word : cell_address (q.static object) i ≡ q.static object + i = omega (arith, last, within) in
      (pointing, (seat.1, (omega (arith, word, last, within), subst (λ s. PointsAt s i (cell_address (q.static object) i)) (sym seat.0) (within, word))))

  -- what a listed cell starts with
  listed_alike : (kind : ScalarType) (x : Initial) → IsInitial (static_in p) kind x → StartsWithWord x → CellAlike seats made (is_pointer kind) (initial_cell x) (words.Holds (initial_word q x))
  listed_alike kind (initial.Word w) h word = subst (λ b. ValueAlike seats made b (Word w) w) (sym h) (refl, word)
  listed_alike kind (initial.Address object index) h word =
      let a = static_pointer kind object index (slice_get p.statics object) refl h in
      subst (λ b. ValueAlike seats made b (Pointer object index) (cell_address (q.static object) index)) (sym a.0) a.1
  listed_alike kind initial.Null h word = subst (λ b. ValueAlike seats made b Null 0) (sym h) refl

  zero_alike : (b : Bool) → CellAlike seats made b (cond b (source.Holds Null) (source.Holds (Word 0))) (words.Holds 0)
  zero_alike true = refl
  zero_alike false = (refl, omega arith)

  -- each cell beside its word
  abbrev pub Starts : ScalarType → source.Cell → Option ℕ → Type 0
  Starts kind c y = (x : ℕ) × (y ≡ Some x) × CellAlike seats made (is_pointer kind) c (words.Holds x)

  zeros_start : (kind : ScalarType) (count i : ℕ) (c : source.Cell) → slice_get (replicate count (zero_of kind)) i ≡ Some c → Starts kind c (slice_get (replicate count 0) i)
  zeros_start kind zero i c get = absurd cc
  zeros_start kind (suc count) zero c get = (0, refl, subst (λ c. CellAlike seats made (is_pointer kind) c (words.Holds 0)) (same_Some (zero_of kind) c get) (zero_alike (is_pointer kind)))
  zeros_start kind (suc count) (suc i) c get = zeros_start kind count i c get

  pub cells_start : (kind : ScalarType) (xs : List Initial) (count i : ℕ) (c : source.Cell) → AllByRecursion (IsInitial (static_in p) kind) xs → AllByRecursion StartsWithWord xs
      → slice_get (map initial_cell xs ++ replicate count (zero_of kind)) i ≡ Some c → Starts kind c (slice_get (map (initial_word q) xs ++ replicate count 0) i)
  cells_start kind [] count i c h word get = zeros_start kind count i c get
  cells_start kind (x ∷ xs) count zero c h word get =
      (initial_word q x, refl, subst (λ c. CellAlike seats made (is_pointer kind) c (words.Holds (initial_word q x))) (same_Some (initial_cell x) c get) (listed_alike kind x h.0 word.0))
  cells_start kind (x ∷ xs) count (suc i) c h word get = cells_start kind xs count i c h.1 word.1 get

  pub cells_count : (o : ObjectTree) → length o.initial ≤ o.length → length (set_cells o) ≡ o.length
  cells_count o within =
      let both = length-append (map initial_cell o.initial) (replicate (o.length - length o.initial) (zero_of o.kind)) in
      let first = length-map o.initial initial_cell in
      let rest = length-replicate (o.length - length o.initial) (zero_of o.kind) in
      omega (arith, both, first, rest, within)
