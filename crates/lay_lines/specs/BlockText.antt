-- The lines of a sequence (docs/FORMATS.md, "Sequences").
use Rattle.std.specs.Prelude.{ℕ, ◌<◌, ◌≤◌, ◌^◌, ◌==◌, if◌then◌else◌, List, [], ◌∷◌, ◌++◌, codes, decimal, All}
use Rattle.std.specs.List.{flat_map}
use Rattle.lay_model.specs.Sequences.{Block, IsBlock, counted}

-- the line that says how many scalars there are
abbrev pub scalars_line : ℕ → List ℕ
scalars_line scalars = codes "scalars " ++ decimal scalars

-- the line of the step
abbrev pub step_line : ℕ → List ℕ
step_line step = codes "step " ++ decimal step

-- a step of 1 isn't written
abbrev pub step_lines : ℕ → List (List ℕ)
step_lines step = if step == 1 then [] else step_line step ∷ []

-- numbers, each behind one space
abbrev pub spaced : List ℕ → List ℕ
spaced numbers = flat_map (λ n. 32 ∷ decimal n) numbers

-- the line of a block: its weight and its accesses
abbrev pub block_line : Block → List ℕ
block_line b = codes "block " ++ (decimal b.weight ++ spaced b.accesses)

-- what a line of a block gives, where there are so many scalars and the sum of weights times accesses may grow by so much
pub record IsBlockOf (scalars room : ℕ) (b : Block) : Type 0 where
  pub block : IsBlock b
  pub weight : b.weight < 2 ^ 32
  pub below : All (λ scalar. scalar < scalars) b.accesses
  pub fits : counted b ≤ room
