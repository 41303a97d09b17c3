-- How often two scalars of a set are neighbours (docs/LAYOUT.md, "Weights").
use Rattle.std.specs.Prelude.{◌≡◌, ◌<◌, ℕ, ◌+◌, ◌*◌, ◌==◌, length, slice_index, Bool, not, ◌&&◌, ◌||◌, List, [], ◌∷◌, filter, sum_by, if◌then◌else◌}
use Rattle.lay_model.specs.Sequences.{Sequence}

-- a and b are x and y, which aren't the same, in either order
abbrev pub is_pair : ℕ → ℕ → ℕ → ℕ → Bool
is_pair x y a b = not (x == y) && (a == x && (b == y) || a == y && (b == x))

-- how often x and y stand beside one another
abbrev pub times_beside : ℕ → ℕ → List ℕ → ℕ
times_beside x y [] = 0
times_beside x y (a ∷ []) = 0
times_beside x y (a ∷ b ∷ rest) = (if is_pair x y a b then 1 else 0) + times_beside x y (b ∷ rest)

-- the weight of each block, once for each time that they are neighbours among its accesses of a set
abbrev pub weight_between : Sequence → (ℕ → Bool) → ℕ → ℕ → ℕ
weight_between seq set x y = sum_by (λ b. b.weight * times_beside x y (filter set b.accesses)) seq.blocks

-- a table of 64 rows of 64 numbers, read by row and column
abbrev pub weight_at : List ℕ → ℕ → ℕ → ℕ
weight_at table a b = slice_index table (a * 64 + b)

-- it has the weight of each two scalars of a set
pub record AreWeights (seq : Sequence) (set : ℕ → Bool) (table : List ℕ) : Type 0 where
  pub size : length table ≡ 4096
  pub weights : (a b : ℕ) → a < 64 → b < 64 → weight_at table a b ≡ weight_between seq set a b

-- over each two of a list
abbrev pub sum_of_pairs : (ℕ → ℕ → ℕ) → List ℕ → ℕ
sum_of_pairs w [] = 0
sum_of_pairs w (s ∷ ss) = sum_by (w s) ss + sum_of_pairs w ss

-- over each one of a list and the next
abbrev pub sum_of_adjacent : (ℕ → ℕ → ℕ) → List ℕ → ℕ
sum_of_adjacent w [] = 0
sum_of_adjacent w (s ∷ []) = 0
sum_of_adjacent w (s ∷ t ∷ ss) = w s t + sum_of_adjacent w (t ∷ ss)
