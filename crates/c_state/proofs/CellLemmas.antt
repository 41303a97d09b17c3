-- The cells that objects start with.
use Rattle.std.proofs.Common.{◌≡◌, ◌≤◌, ◌-◌, ℕ, zero, suc, List, ◌∷◌, ◌++◌, length, map, take, replicate, set, refl, sym, ap, ◌∙◌}
use Rattle.std.specs.Prelude.{slice_set}
use Rattle.std.proofs.lemmas.List.{map-append, map-set, set_past, length-map, take_all}
use Rattle.c_tree.specs.declared.program.Initial.{Initial}
use Rattle.c_tree.specs.Store as runs
use Rattle.c_tree.specs.Exec.{initial_cell}
use Rattle.c_state.specs.declared.value.Value.{Value}
use Rattle.c_state.specs.declared.value.Cell.{Cell}
use Rattle.c_state.specs.declared.value.Cell.TheVariants as cells
use Rattle.c_state.specs.Values.{cell_view, value_of}

-- the same cell, so many times
pub replicated : (n : ℕ) (x : Cell) → map cell_view (replicate n x) ≡ replicate n (cell_view x)
replicated zero x = refl
replicated (suc n) x = ap (λ xs. cell_view x ∷ xs) (replicated n x)

pub same_length : (cells : List Cell) (list : List Initial) → map cell_view cells ≡ map initial_cell list → length cells ≡ length list
same_length cells list is = sym (length-map cells cell_view) ∙ ap length is ∙ length-map list initial_cell

-- the listed cells, and others behind them
pub padded : (cells after : List Cell) (list : List Initial) (n : ℕ) (x : Cell) (y : runs.Cell) → map cell_view cells ≡ map initial_cell list → length cells ≤ n
    → after ≡ take n cells ++ replicate (n - length cells) x → cell_view x ≡ y → map cell_view after ≡ map initial_cell list ++ replicate (n - length list) y
padded cells after list n x y is within parts first =
    ap (map cell_view) (parts ∙ ap (λ xs. xs ++ replicate (n - length cells) x) (take_all n cells within))
    ∙ map-append cell_view cells (replicate (n - length cells) x)
    ∙ ap (λ xs. xs ++ map cell_view (replicate (n - length cells) x)) is
    ∙ ap (λ xs. map initial_cell list ++ xs) (replicated (n - length cells) x ∙ ap (λ z. replicate (n - length cells) z) first ∙ ap (λ m. replicate (n - m) y) (same_length cells list is))

-- a value goes into one of them
pub written : (before after : List Cell) (i : ℕ) (v : Value) (now : List runs.Cell) → map cell_view before ≡ now → after ≡ set before i (cells.Holds v)
    → map cell_view after ≡ slice_set now i (runs.Holds (value_of v))
written before after i v now view is =
    ap (map cell_view) is ∙ map-set cell_view before i (cells.Holds v) ∙ ap (λ l. slice_set l i (runs.Holds (value_of v))) view

-- a value goes to an index past the last
pub not_written : (before after : List Cell) (i : ℕ) (v : Value) (now : List runs.Cell) → map cell_view before ≡ now → after ≡ before → length before ≤ i
    → map cell_view after ≡ slice_set now i (runs.Holds (value_of v))
not_written before after i v now view is past =
    ap (map cell_view) is ∙ sym (set_past (map cell_view before) i (runs.Holds (value_of v)) (rw length-map past)) ∙ ap (λ l. slice_set l i (runs.Holds (value_of v))) view
