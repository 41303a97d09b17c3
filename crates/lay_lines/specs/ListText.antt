-- The lines of lists (docs/FORMATS.md, "Certificates").
use Rattle.std.specs.Prelude.{◌≡◌, ℕ, ◌<◌, ◌^◌, min, List, [], ◌∷◌, ◌++◌, map, codes}
use Rattle.std.specs.List.{AllByRecursion}
use Rattle.text_base.specs.Hex.{hex4}
use Rattle.lay_lines.specs.BlockText.{spaced}

-- a list: its base address, and its scalars
abbrev pub list_line : ℕ → List ℕ → List ℕ
list_line base scalars = codes "list " ++ (hex4 base ++ spaced scalars)

-- each list with its base
abbrev pub list_lines : List ℕ → List (List ℕ) → List (List ℕ)
list_lines [] lists = []
list_lines (base ∷ bases) [] = []
list_lines (base ∷ bases) (list ∷ lists) = list_line base list ∷ list_lines bases lists

-- greater numbers than 255 are kept as 255, which is no scalar either
abbrev pub capped : List ℕ → List ℕ
capped numbers = map (λ n. min n 255) numbers

-- numbers, each behind one space, and how they are kept
pub record Spells (bytes kept : List ℕ) : Type 0 where
  pub numbers : List ℕ
  pub fit : AllByRecursion (λ n. n < 2 ^ 64) numbers
  pub text : bytes ≡ spaced numbers
  pub is_kept : kept ≡ capped numbers

-- the line of a list, of which greater numbers are kept as 255
pub record ListsSo (line : List ℕ) (base : ℕ) (kept : List ℕ) : Type 0 where
  pub numbers : List ℕ
  pub fit : AllByRecursion (λ n. n < 2 ^ 64) numbers
  pub text : line ≡ list_line base numbers
  pub is_kept : kept ≡ capped numbers
