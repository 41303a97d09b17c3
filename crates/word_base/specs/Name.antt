-- Names: those of ISO 9899:1990 6.1.2, in at most 127 characters.
use Rattle.std.specs.Prelude.{◌≡◌, ◌≤◌, ◌⊎◌, ℕ, List, length, slice_index, All}

-- from one code to another
abbrev pub IsWithin : ℕ → ℕ → ℕ → Type 0
IsWithin low high code = (low ≤ code) × (code ≤ high)

-- A to Z, a to z, or _
abbrev pub IsNameStart : ℕ → Type 0
IsNameStart code = IsWithin 65 90 code ⊎ IsWithin 97 122 code ⊎ (code ≡ 95)

-- one of these, or 0 to 9
abbrev pub IsNamePart : ℕ → Type 0
IsNamePart code = IsNameStart code ⊎ IsWithin 48 57 code

-- a letter or _, and then letters, digits and _
pub record IsName (bytes : List ℕ) : Type 0 where
  pub from_one : 1 ≤ length bytes
  pub to_127 : length bytes ≤ 127
  pub first : IsNameStart (slice_index bytes 0)
  pub each : All IsNamePart bytes
