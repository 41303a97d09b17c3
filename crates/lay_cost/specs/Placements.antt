-- Placements of scalars over address registers (docs/LAYOUT.md, "Placements").
use Rattle.std.specs.Prelude.{◌≡◌, ◌<◌, ℕ, suc, ◌==◌, ℤ, pos, Bool, List, [], ◌∷◌, count_by, if◌then◌else◌}
use Rattle.std.specs.List.{list_any, range_with_len}
use Rattle.lay_model.specs.Sequences.{Sequence}

-- each scalar has a register, and an offset from where its register begins
pub record Placement : Type 0 where
  pub register : ℕ → ℕ
  pub offset : ℕ → ℤ

-- how many scalars below a number have this register
abbrev pub scalars_on : ℕ → Placement → ℕ → ℕ
scalars_on scalars p register = count_by (λ s. p.register s == register) (range_with_len 0 scalars)

-- an offset from 0 to one below a number
pub record IsOffsetBelow (count : ℕ) (offset : ℤ) : Type 0 where
  pub at : ℕ
  pub is : offset ≡ pos at
  pub below : at < count

-- over k registers: no two scalars of one register share an offset. Where the step is above 1 a register has no gaps: the offsets of its scalars
-- are the numbers from 0 to one below how many they are
pub record IsPlacement (seq : Sequence) (k : ℕ) (p : Placement) : Type 0 where
  pub registers : (s : ℕ) → s < seq.scalars → p.register s < k
  pub apart : (s t : ℕ) → s < seq.scalars → t < seq.scalars → p.register s ≡ p.register t → p.offset s ≡ p.offset t → s ≡ t
  pub dense : 1 < seq.step → (s : ℕ) → s < seq.scalars → IsOffsetBelow (scalars_on seq.scalars p (p.register s)) (p.offset s)

-- whether a scalar stands in a list
abbrev pub has : List ℕ → ℕ → Bool
has list scalar = list_any (λ s. s == scalar) list

-- at which position it stands there first
abbrev pub position_in : List ℕ → ℕ → ℕ
position_in [] scalar = 0
position_in (s ∷ ss) scalar = if s == scalar then 0 else suc (position_in ss scalar)

-- the number of the first list that has a scalar, and its position there
abbrev pub list_of : List (List ℕ) → ℕ → ℕ
list_of [] scalar = 0
list_of (list ∷ lists) scalar = if has list scalar then 0 else suc (list_of lists scalar)

abbrev pub place_in : List (List ℕ) → ℕ → ℕ
place_in [] scalar = 0
place_in (list ∷ lists) scalar = if has list scalar then position_in list scalar else place_in lists scalar

-- the scalar at position i of list r has register r and offset i
abbrev pub placement_of : List (List ℕ) → Placement
placement_of lists = record { register = list_of lists; offset = λ s. pos (place_in lists s) }
