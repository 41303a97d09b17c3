-- What each complete node below a node costs at least (docs/LAYOUT.md, "Bound"). The number may be below zero.
use Rattle.std.specs.Prelude.{ℕ, ◌+◌, max, ℤ, pos, ◌+ℤ◌, ◌-ℤ◌, Bool, not, ◌||◌, nat_lt, List, [], ◌∷◌, ◌++◌, map, filter, fold, sum_by, if◌then◌else◌}
use Rattle.std.specs.List.{concat}
use Rattle.lay_model.specs.Sequences.{Sequence}
use Rattle.lay_cost.specs.Placements.{has}
use Rattle.lay_cost.specs.Cost.{arranged_cost}
use Rattle.lay_cost.specs.Restricted.{loads}
use Rattle.lay_cost.specs.Weights.{weight_between}
pub use Rattle.lay_cost.specs.Weights.{sum_of_pairs, sum_of_adjacent}
use Rattle.lay_cost.specs.Parts.{Node, node_lists, part_cost_of}
use Rattle.lay_tree.specs.Tree.{all_scalars, unplaced, is_complete, has_closes_left}

-- the scalars that stand in no closed list
abbrev pub is_outside : Node → ℕ → Bool
is_outside n s = not (has (concat n.closed) s)

-- how often two of these are neighbours
abbrev pub weight_outside : Sequence → Node → ℕ → ℕ → ℕ
weight_outside seq n = weight_between seq (is_outside n)

-- the greatest of some numbers, and 0 where there is none
abbrev pub greatest : List ℕ → ℕ
greatest ns = fold max 0 ns

-- the last one of a list, where there is one
abbrev pub last_of : List ℕ → List ℕ
last_of [] = []
last_of (s ∷ []) = s ∷ []
last_of (s ∷ t ∷ ss) = last_of (t ∷ ss)

-- what can stand before a scalar that isn't placed: another one, or the last one of the open list. The scalar itself doesn't matter, since its weight with
-- itself is 0
abbrev pub before : Sequence → Node → List ℕ
before seq n = unplaced seq n ++ last_of n.open_list

-- at most so much is saved where a scalar that isn't placed is put behind another one
abbrev pub most_saved : Sequence → Node → ℕ → ℕ
most_saved seq n s = greatest (map (weight_outside seq n s) (before seq n))

-- each block loads a register for the scalars that stand in no closed list
abbrev pub outside_loads : Sequence → Node → ℕ
outside_loads seq n = loads seq (is_outside n)

-- at step 1 one list for all of them pays each two neighbours that aren't beside one another in it
abbrev pub paid_outside : Sequence → Node → ℕ
paid_outside seq n = sum_of_pairs (weight_outside seq n) (filter (is_outside n) (all_scalars seq))

abbrev pub saved_outside : Sequence → Node → ℕ
saved_outside seq n = sum_of_adjacent (weight_outside seq n) n.open_list + sum_by (most_saved seq n) (unplaced seq n)

-- what the scalars outside closed lists cost at least
abbrev pub outside_bound : ℕ → Sequence → Node → ℤ
outside_bound k seq n = if has_closes_left k n || nat_lt 1 seq.step then pos (outside_loads seq n) else pos (outside_loads seq n + paid_outside seq n) -ℤ pos (saved_outside seq n)

abbrev pub bound : ℕ → Sequence → Node → ℤ
bound k seq n = if is_complete seq n then pos (arranged_cost seq (node_lists n)) else pos (part_cost_of seq n.closed) +ℤ outside_bound k seq n
