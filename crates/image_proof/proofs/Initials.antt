-- What objects start with: emission and runs say the same of objects that are there, and each word is one.
use Rattle.std.proofs.Common.{◌≡◌, ℕ, ◌+◌, Bool, true, false, List, [], ◌∷◌, map, Option, Some, None, refl, ap, ◌∙◌, arith, cond}
use Rattle.std.specs.Prelude.{◌==◌, All, slice_get}
use Rattle.std.specs.List.{AllByRecursion}
use Rattle.std.proofs.lemmas.List.Elements.{All-tail}
use Rattle.c_tree.specs.declared.program.Initial.{Initial}
use Rattle.c_tree.specs.declared.program.Initial.TheVariants as initial
use Rattle.c_tree.specs.declared.program.ScalarType.{ScalarType}
use Rattle.c_tree.specs.TypedTree.{ObjectTree}
use Rattle.c_tree.specs.WellFormed.{IsInitial, StartsAt}
use Rattle.c_tree.specs.WellFormedProgram.{object_shape, static_in}
use Rattle.c25_isa.specs.Step.{wrap16}
use Rattle.c_tree.specs.TypedOfWords.{StartsWithWord, StartsWithWords}
use Rattle.tree_code.specs.WellFormedCode.{IsObjectAmong}
use Rattle.emit_blocks.specs.Places.{address_in}
use Rattle.frame_emit.specs.Startup.{initial_word, up_to_last, before_zeros}
use Rattle.ir_semantics.specs.Outside as run
use Rattle.ir_semantics.specs.Outside.{Places}
use Rattle.image_proof.proofs.Filling.{IsWord, AreWords}
use Rattle.image_proof.proofs.Lengths.{HasRoom}

module _ (statics : List ℕ) (q : Places) where
  -- an object whose list both read alike, as words
  pub record IsReady (o : ObjectTree) : Type 0 where
    pub words : AreWords (map (initial_word statics) o.initial)
    pub same : map (initial_word statics) o.initial ≡ map (run.initial_word q) o.initial
    pub room : HasRoom o

  cell_is_word : (i : Initial) → StartsWithWord i → IsWord (initial_word statics i)
  cell_is_word (initial.Word w) is = is
  cell_is_word (initial.Address object index) is = omega arith
  cell_is_word initial.Null is = omega arith

  cells_are_words : (cells : List Initial) → AllByRecursion StartsWithWord cells → AreWords (map (initial_word statics) cells)
  cells_are_words [] are = tt
  cells_are_words (i ∷ cells) are = (cell_is_word i are.0, cells_are_words cells are.1)

  module _ (all : List ObjectTree) (agree : (n : ℕ) (o : ObjectTree) → slice_get all n ≡ Some o → address_in statics n ≡ q.static n) where
    address_same : (kind : ScalarType) (object index : ℕ) (there : Option ObjectTree) → slice_get all object ≡ there → StartsAt kind index (object_shape there)
        → wrap16 (address_in statics object + index) ≡ run.cell_address (q.static object) index
    address_same kind object index None at starts = absurd starts
    address_same kind object index (Some o) at starts = ap (λ a. wrap16 (a + index)) (agree object o at)

    abbrev IsStatic : ScalarType → Initial → Type 0
    IsStatic = IsInitial (static_in (record { statics = all; functions = [] }))

    cell_same : (kind : ScalarType) (i : Initial) → IsStatic kind i → initial_word statics i ≡ run.initial_word q i
    cell_same kind (initial.Word w) is = refl
    cell_same kind (initial.Address object index) is = address_same kind object index (slice_get all object) refl is
    cell_same kind initial.Null is = refl

    cells_same : (kind : ScalarType) (cells : List Initial) → All (IsStatic kind) cells → map (initial_word statics) cells ≡ map (run.initial_word q) cells
    cells_same kind [] are = refl
    cells_same kind (i ∷ cells) are =
        ap (λ w. w ∷ map (initial_word statics) cells) (cell_same kind i (are 0 i (omega arith)))
        ∙ ap (λ ws. run.initial_word q i ∷ ws) (cells_same kind cells (All-tail (IsStatic kind) i cells are))

    object_ready : (o : ObjectTree) → IsObjectAmong all o → AllByRecursion StartsWithWord o.initial → IsReady o
    object_ready o is are = record { words = cells_are_words o.initial are; same = cells_same o.kind o.initial is.starts; room = is.within }

    pub objects_ready : (os : List ObjectTree) → All (IsObjectAmong all) os → StartsWithWords os → AllByRecursion IsReady os
    objects_ready [] are words = tt
    objects_ready (o ∷ os) are words = (object_ready o (are 0 o (omega arith)) words.0, objects_ready os (All-tail (IsObjectAmong all) o os are) words.1)

-- words up to the last one that isn't 0 are words
before_zeros-words : (w : ℕ) (us : List ℕ) → IsWord w → AreWords us → AreWords (before_zeros w us)
before_zeros-words w [] is are = one_word (w == 0)
  where
    one_word : (b : Bool) → AreWords (cond b [] (w ∷ []))
    one_word true = tt
    one_word false = (is, tt)
before_zeros-words w (u ∷ us) is are = (is, are)

pub up_to_last-words : (ws : List ℕ) → AreWords ws → AreWords (up_to_last ws)
up_to_last-words [] are = tt
up_to_last-words (w ∷ ws) are = before_zeros-words w (up_to_last ws) are.0 (up_to_last-words ws are.1)
