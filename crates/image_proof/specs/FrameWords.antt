-- Where the words of frames and of objects are, by their addresses (docs/LAYOUT.md, "Data memory").
use Rattle.std.specs.Prelude.{ℕ, zero, suc, ◌+◌, List, [], ◌∷◌, ◌++◌, slice_index}
use Rattle.c_tree.specs.TypedTree.{ObjectTree}
use Rattle.lay_cost.specs.Placements.{list_of, place_in}

-- where a scalar is, by the lists of its frame and the addresses at which they begin
abbrev pub place_of : List ℕ → List (List ℕ) → ℕ → ℕ
place_of bases lists n = slice_index bases (list_of lists n) + place_in lists n

-- so many numbers from one on
abbrev pub numbers_from : ℕ → ℕ → List ℕ
numbers_from n zero = []
numbers_from n (suc count) = n ∷ numbers_from (suc n) count

-- the words of objects at these addresses
abbrev pub object_words : List ℕ → List ObjectTree → List ℕ
object_words [] os = []
object_words (a ∷ rest) [] = []
object_words (a ∷ rest) (o ∷ os) = numbers_from a o.length ++ object_words rest os
