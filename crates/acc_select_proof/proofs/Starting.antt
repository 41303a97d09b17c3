-- What static objects start with: words, so that memory has words alone before a run.
use Rattle.std.proofs.Common.{ℕ, zero, suc, ◌-◌, ◌<◌, List, [], ◌∷◌, ◌++◌, length, arith}
use Rattle.std.specs.Prelude.{map, replicate}
use Rattle.std.specs.List.{AllByRecursion}
use Rattle.word_base.specs.Ports.{Input, IsInput}
use Rattle.c_tree.specs.declared.program.Initial.{Initial}
use Rattle.c_tree.specs.declared.program.Initial.TheVariants as initial
use Rattle.c_tree.specs.TypedTree.{ObjectTree}
use Rattle.ir_semantics.specs.Outside.{Nowhere, Memory, with_words, with_statics, initial_word, initial_words, first_outside, Places}
pub use Rattle.c_tree.specs.TypedOfWords.{StartsWithWord, StartsWithWords}
use Rattle.acc_select_proof.proofs.Sides.{HasWords, words_with}
use Rattle.acc_select_proof.proofs.Passing.{AllWords}
use Rattle.acc_select_proof.proofs.Entering.{MemoryHasWords}

word_at_first : (q : Places) (x : Initial) → StartsWithWord x → initial_word q x < 65536
word_at_first q (initial.Word w) h = h
word_at_first q (initial.Address object index) h = omega arith
word_at_first q initial.Null h = omega arith

zeros : (k : ℕ) → AllWords (replicate k 0)
zeros zero = tt
zeros (suc k) = (omega arith, zeros k)

listed : (q : Places) (xs : List Initial) (ys : List ℕ) → AllByRecursion StartsWithWord xs → AllWords ys → AllWords (map (initial_word q) xs ++ ys)
listed q [] ys h k = k
listed q (x ∷ xs) ys h k = (word_at_first q x h.0, listed q xs ys h.1 k)

pub initial_are_words : (q : Places) (o : ObjectTree) → AllByRecursion StartsWithWord o.initial → AllWords (initial_words q o)
initial_are_words q o h = listed q o.initial (replicate (o.length - length o.initial) 0) h (zeros (o.length - length o.initial))

pub put_words : (a : ℕ) (xs : List ℕ) (m : Memory) → AllWords xs → MemoryHasWords m → MemoryHasWords (with_words a xs m)
put_words a [] m ws h = h
put_words a (x ∷ xs) m ws h = (words_with (record { memory = with_words (suc a) xs m; input = λ p. []; outs = [] }) a x ws.0 (record { memory = put_words (suc a) xs m ws.1 h; input = λ p i d lt. absurd (omega (arith, lt)) })).memory

static_words : (q : Places) (k : ℕ) (os : List ObjectTree) (m : Memory) → StartsWithWords os → MemoryHasWords m → MemoryHasWords (with_statics q k os m)
static_words q k [] m ws h = h
static_words q k (o ∷ os) m ws h = put_words (q.static k) (initial_words q o) (with_statics q (suc k) os m) (initial_are_words q o ws.0) (static_words q (suc k) os m ws.1 h)

pub first_words : (q : Places) (os : List ObjectTree) (input : Input) → StartsWithWords os → IsInput input → HasWords (first_outside q os input)
first_words q os input ws is = record { memory = static_words q 0 os (λ a. Nowhere) ws (λ a x e. cc); input = is }
