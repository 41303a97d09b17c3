-- Scalars that are spread over registers.
use Rattle.std.specs.Prelude.{ℕ, ◌<◌, List, [], ◌∷◌, ◌++◌, All, fold, slice_index_or, slice_set, if◌then◌else◌}
use Rattle.std.specs.List.{concat}
use Rattle.lay_cost.specs.Parts.{close, StandOnce}
use Rattle.lay_tree.specs.Tree.{is_empty}

-- the lists with a scalar more at the end of the list of a register
abbrev pub with_scalar_at : ℕ → List (List ℕ) → ℕ → List (List ℕ)
with_scalar_at s lists register = slice_set lists register (slice_index_or lists register [] ++ (s ∷ []))

-- a string with a list more. An empty list leaves it as it is
abbrev pub with_list : List ℕ → List ℕ → List ℕ
with_list [] list = list
with_list (s ∷ ss) list = if is_empty list then s ∷ ss else (s ∷ ss) ++ (close ∷ list)

-- the lists that have a scalar, with a close between two of them
abbrev pub string_of : List (List ℕ) → List ℕ
string_of lists = fold with_list [] lists

-- the next scalar in rising order: those that are placed are below it, and stand once each
pub record IsNext (lists : List (List ℕ)) (scalar : ℕ) : Type 0 where
  pub below : All (λ s. s < scalar) (concat lists)
  pub once : StandOnce (concat lists)
