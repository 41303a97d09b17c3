-- What is kept of the scalars that aren't placed, as it stands in memory.
use Rattle.std.specs.Prelude.{◌≡◌, ℕ, ◌<◌, Bool, true, false, not, List, map, filter, sum_by, slice_index, slice_index_or, Option, Some, None}
use Rattle.std.specs.List.{range_with_len}
use Rattle.lay_cost.specs.Weights.{weight_at}
use Rattle.lay_tree.specs.Bound.{greatest}

-- whether a table says that a scalar isn't placed
abbrev pub is_free : List Bool → ℕ → Bool
is_free placed s = not (slice_index_or placed s false)

-- these of the scalars below a number, in rising order
abbrev pub free_below : List Bool → ℕ → List ℕ
free_below placed scalars = filter (is_free placed) (range_with_len 0 scalars)

-- how often a scalar is beside one of some others at most
abbrev pub greatest_among : List ℕ → List ℕ → ℕ → ℕ
greatest_among table others s = greatest (map (weight_at table s) others)

-- in all
abbrev pub greatest_in_all : List ℕ → List ℕ → ℕ
greatest_in_all table others = sum_by (greatest_among table others) others

-- a list has the greatest weight of each scalar that isn't placed
abbrev pub HasGreatest : List ℕ → List ℕ → List Bool → ℕ → Type 0
HasGreatest table numbers placed scalars = (s : ℕ) → s < scalars → is_free placed s ≡ true → slice_index numbers s ≡ greatest_among table (free_below placed scalars) s

-- the numbers of the scalars that are placed, and of what is no scalar, are the same in two lists
abbrev pub SameOfOthers : List ℕ → List ℕ → List Bool → ℕ → Type 0
SameOfOthers old new placed scalars = (s : ℕ) → (s < scalars → is_free placed s ≡ false) → slice_index new s ≡ slice_index old s

-- how often a scalar is beside the last one of a list, where there is one
abbrev pub beside_last : (ℕ → ℕ → ℕ) → Option ℕ → ℕ → ℕ
beside_last w None s = 0
beside_last w (Some last) s = w last s
