-- A local array gets its list: words are written cell by cell, and zeros behind them.
use Rattle.std.proofs.Common.{◌≡◌, ◌≢◌, ℕ, zero, suc, ◌+◌, ◌<◌, List, [], ◌∷◌, length, Some, refl, ap, ◌∙◌, subst, arith}
use Rattle.std.specs.Prelude.{◌==◌, slice_get}
use Rattle.std.proofs.lemmas.Option.{same_Some}
use Rattle.ir_semantics.specs.Outside as words
use Rattle.ir_semantics.specs.Outside.{Memory, with_word, with_memory, cell_address}
use Rattle.ir_semantics.specs.Parts.{Gives, after}
use Rattle.ir_semantics.specs.TreeRun as run
use Rattle.ir_semantics.specs.TreeRun.{Tree}
use Rattle.tree_code_proof.specs.Beside.{Lives}
use Rattle.tree_code_proof.proofs.Writing.{word_apart, word_here, lives_written}

-- memory behind words that were written one after another
abbrev pub written_from : ℕ → ℕ → List ℕ → Memory → Memory
written_from a i [] m = m
written_from a i (x ∷ xs) m = written_from a (suc i) xs (with_word (cell_address a i) x m)

-- where all cells live, all words are written
wrote_cell : (y x : ℕ) (t : Tree) (c : words.Cell) → t.outside.memory y ≡ c → Lives c → run.write_cell c y x t ≡ Gives x (record t { outside = with_memory (with_word y x t.outside.memory) t.outside })
wrote_cell y x t words.Nowhere is h = absurd h
wrote_cell y x t words.Unwritten is h = refl
wrote_cell y x t (words.Holds z) is h = refl

pub wrote_words : (a i : ℕ) (xs : List ℕ) (t : Tree) → ((j : ℕ) → j < length xs → Lives (t.outside.memory (cell_address a (i + j))))
    → run.write_words a i xs t ≡ Gives (tt {0}) (record t { outside = with_memory (written_from a i xs t.outside.memory) t.outside })
wrote_words a i [] t live = refl
wrote_words a i (x ∷ xs) t live =
    ap (λ r. after r (λ _. run.write_words a (suc i) xs))
    (wrote_cell (cell_address a i) x t (t.outside.memory (cell_address a i)) refl (subst (λ k. Lives (t.outside.memory (cell_address a k))) first (live 0 (omega arith))))
    ∙ wrote_words a (suc i) xs (record t { outside = with_memory (with_word (cell_address a i) x t.outside.memory) t.outside })
    (λ j less. let y = cell_address a (suc i + j) in
    lives_written t.outside.memory (cell_address a i) x y (y == cell_address a i) refl (subst (λ k. Lives (t.outside.memory (cell_address a k))) (next j) (live (suc j) (omega (arith, less)))))
  where
    first : i + 0 ≡ i
    first = omega arith

    next : (j : ℕ) → i + suc j ≡ suc i + j
    next j = omega arith

-- another word stays
pub written_apart : (a i : ℕ) (xs : List ℕ) (m : Memory) (z : ℕ) → ((j : ℕ) → j < length xs → z ≢ cell_address a (i + j)) → written_from a i xs m z ≡ m z
written_apart a i [] m z apart = refl
written_apart a i (x ∷ xs) m z apart =
    written_apart a (suc i) xs (with_word (cell_address a i) x m) z (λ j less e. apart (suc j) (omega (arith, less)) (e ∙ ap (cell_address a) (later j)))
    ∙ word_apart m (cell_address a i) x z (λ e. apart 0 (omega arith) (e ∙ ap (cell_address a) first))
  where
    first : i ≡ i + 0
    first = omega arith

    later : (j : ℕ) → suc i + j ≡ i + suc j
    later j = omega arith

-- each word stands in its cell
pub written_there : (a i : ℕ) (xs : List ℕ) (m : Memory) → a + (i + length xs) < 65536 → (j y : ℕ) → slice_get xs j ≡ Some y → written_from a i xs m (a + (i + j)) ≡ words.Holds y
written_there a i [] m fits j y get = absurd cc
written_there a i (x ∷ xs) m fits zero y get =
    written_apart a (suc i) xs (with_word (cell_address a i) x m) (a + (i + 0)) (λ j less e. omega (arith, less, fits, e))
    ∙ word_here m (cell_address a i) x (a + (i + 0)) (omega (arith, fits)) ∙ ap words.Holds (same_Some x y get)
written_there a i (x ∷ xs) m fits (suc j) y get = ap (written_from a (suc i) xs (with_word (cell_address a i) x m)) at ∙ written_there a (suc i) xs (with_word (cell_address a i) x m) (omega (arith, fits)) j y get
  where
    at : a + (i + suc j) ≡ a + (suc i + j)
    at = omega arith
