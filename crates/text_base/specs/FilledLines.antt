-- The lines of a text that aren't blank (docs/FORMATS.md).
use Rattle.std.specs.Prelude.{◌≡◌, ℕ, ◌+◌, ◌-◌, ◌<◌, ◌≤◌, List, [], ◌∷◌, ◌++◌, length, take, drop}
use Rattle.std.specs.Str.Lines.{lines}

-- the lines that aren't blank
abbrev pub filled : List (List ℕ) → List (List ℕ)
filled [] = []
filled ([] ∷ more) = filled more
filled ((b ∷ bs) ∷ more) = (b ∷ bs) ∷ filled more

-- those among the first so many lines of the bytes
abbrev pub filled_to : ℕ → List ℕ → List (List ℕ)
filled_to count bytes = filled (take count (lines bytes))

-- ---- how far a text is read

-- so many lines of the bytes are read
pub record Place : Type 0 where
  pub bytes : List ℕ
  pub number : ℕ

-- the lines that are left are those of the rest
pub record IsLeft (bytes : List ℕ) (number : ℕ) (rest : List ℕ) : Type 0 where
  pub cut : lines rest ≡ drop number (lines bytes)
  pub there : number ≤ length (lines bytes)
  pub few : number + length rest ≤ length bytes

-- those that aren't blank
abbrev pub read_to : Place → List (List ℕ)
read_to p = filled_to p.number p.bytes

-- the last line that was read isn't blank, and those others stand before it
pub record HasRead (before : List (List ℕ)) (line : List ℕ) (p : Place) : Type 0 where
  pub from_one : 0 < p.number
  pub there : p.number ≤ length (lines p.bytes)
  pub front : filled_to (p.number - 1) p.bytes ≡ before
  pub all : read_to p ≡ before ++ line ∷ []

-- all lines are read, and those aren't blank
pub record HasReadAll (before : List (List ℕ)) (p : Place) : Type 0 where
  pub there : p.number ≡ length (lines p.bytes)
  pub all : read_to p ≡ before
