-- Where frames begin, in words behind the static objects (docs/LAYOUT.md, "Data memory"): behind the frame of each function that calls this one.
use Rattle.std.specs.Prelude.{◌≡◌, ◌≤◌, ℕ, ◌+◌, ◌⊎◌}

-- a function's frame begins where that of a caller ends
pub record IsBehind (calls : ℕ → ℕ → Type 0) (own begin : ℕ → ℕ) (f : ℕ) : Type 0 where
  pub caller : ℕ
  pub calls_it : calls caller f
  pub is : begin f ≡ begin caller + own caller

-- each begins at the greatest of 0 and the ends of its callers' frames
pub record IsBegin (calls : ℕ → ℕ → Type 0) (own begin : ℕ → ℕ) : Type 0 where
  pub above : (g f : ℕ) → calls g f → begin g + own g ≤ begin f
  pub reached : (f : ℕ) → (begin f ≡ 0) ⊎ IsBehind calls own begin f
