-- What lists of static objects put into memory, cell by cell.
use Rattle.std.proofs.Common.{◌≡◌, ◌≢◌, inl, inr, ℕ, zero, suc, ◌+◌, ◌-◌, ◌<◌, ◌≤◌, List, [], ◌∷◌, length, Some, refl, sym, ap, ◌∙◌, subst, arith}
use Rattle.std.specs.Prelude.{map, replicate, slice_get}
use Rattle.std.proofs.lemmas.List.{length-append, length-map, length-replicate}
use Rattle.std.proofs.lemmas.Option.{same_Some, slice_get_within}
use Rattle.c_tree.specs.TypedTree.{ObjectTree}
use Rattle.ir_semantics.specs.Outside as words
use Rattle.ir_semantics.specs.Outside.{Memory, Places, with_words, with_statics, initial_word, initial_words}
use Rattle.tree_code_proof.specs.Seats.{LiesAt, Apart}
use Rattle.tree_code_proof.proofs.Rooms.{IsOutside, outside}
use Rattle.tree_code_proof.proofs.Writing.{word_apart, word_here}

-- words in a row
words_apart : (a : ℕ) (xs : List ℕ) (m : Memory) (x : ℕ) → IsOutside x a (length xs) → with_words a xs m x ≡ m x
words_apart a [] m x h = refl
words_apart a (y ∷ ys) m x (inl lt) = word_apart (with_words (suc a) ys m) a y x (λ e. omega (arith, lt, e)) ∙ words_apart (suc a) ys m x (inl (omega (arith, lt)))
words_apart a (y ∷ ys) m x (inr le) = word_apart (with_words (suc a) ys m) a y x (λ e. omega (arith, le, e)) ∙ words_apart (suc a) ys m x (inr (omega (arith, le)))

words_here : (a : ℕ) (xs : List ℕ) (m : Memory) (i y : ℕ) → slice_get xs i ≡ Some y → with_words a xs m (a + i) ≡ words.Holds y
words_here a [] m i y get = absurd cc
words_here a (x ∷ xs) m zero y get = word_here (with_words (suc a) xs m) a x (a + 0) (omega arith) ∙ ap words.Holds (same_Some x y get)
words_here a (x ∷ xs) m (suc i) y get =
    let at : a + suc i ≡ suc a + i = omega arith in
    word_apart (with_words (suc a) xs m) a x (a + suc i) (λ e. omega (arith, e)) ∙ ap (with_words (suc a) xs m) at ∙ words_here (suc a) xs m i y get

-- a list fills its object
pub list_length : (q : Places) (o : ObjectTree) → length o.initial ≤ o.length → length (initial_words q o) ≡ o.length
list_length q o within =
    let both = length-append (map (initial_word q) o.initial) (replicate (o.length - length o.initial) 0) in
    let first = length-map o.initial (initial_word q) in
    let rest = length-replicate {A = ℕ} (o.length - length o.initial) 0 in
    omega (arith, both, first, rest, within)

-- objects that lie apart, the first one of this number
abbrev pub LieApart : Places → ℕ → List ObjectTree → Type 0
LieApart q n os = (i j k l : ℕ) (o r : ObjectTree) → j ≡ n + i → l ≡ n + k → i ≢ k → slice_get os i ≡ Some o → slice_get os k ≡ Some r → Apart (LiesAt (q.static j) o.length) (LiesAt (q.static l) r.length)

abbrev pub HaveRoom : List ObjectTree → Type 0
HaveRoom os = (i : ℕ) (o : ObjectTree) → slice_get os i ≡ Some o → length o.initial ≤ o.length

pub static_word : (q : Places) (n : ℕ) (os : List ObjectTree) (m : Memory) (i j : ℕ) (o : ObjectTree) (c y : ℕ) → j ≡ n + i → slice_get os i ≡ Some o → LieApart q n os → HaveRoom os → slice_get (initial_words q o) c ≡ Some y
    → with_statics q n os m (q.static j + c) ≡ words.Holds y
static_word q n [] m i j o c y e get far room at = absurd cc
static_word q n (r ∷ os) m zero j o c y e get far room at =
    let here : n ≡ j = omega (arith, e) in
    let same = same_Some r o get in
    subst (λ k. with_words (q.static n) (initial_words q r) (with_statics q (suc n) os m) (q.static k + c) ≡ words.Holds y) here
    (words_here (q.static n) (initial_words q r) (with_statics q (suc n) os m) c y (ap (λ (x : ObjectTree). slice_get (initial_words q x) c) same ∙ at))
static_word q n (r ∷ os) m (suc i) j o c y e get far room at =
    let less : c < o.length = let lt = slice_get_within (initial_words q o) c y at in let l = list_length q o (room (suc i) o get) in omega (arith, lt, l) in
    let beside : IsOutside (q.static j + c) (q.static n) (length (initial_words q r)) =
    subst (IsOutside (q.static j + c) (q.static n)) (sym (list_length q r (room 0 r refl)))
    (outside (q.static n) r.length (q.static j) o.length c (far 0 n (suc i) j r o (omega arith) e (λ z. omega (arith, z)) refl get) less) in
    words_apart (q.static n) (initial_words q r) (with_statics q (suc n) os m) (q.static j + c) beside
    ∙ static_word q (suc n) os m i j o c y (omega (arith, e)) get (λ i j k l o r p q ne. far (suc i) j (suc k) l o r (omega (arith, p)) (omega (arith, q)) (λ z. ne (omega (arith, z)))) (λ k. room (suc k)) at
