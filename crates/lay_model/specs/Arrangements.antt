-- Arrangements of scalars (docs/LAYOUT.md, "Arrangements").
use Rattle.std.specs.Prelude.{◌≡◌, ℕ, ◌<◌, ◌≤◌, ◌==◌, List, length, count_by, All}
use Rattle.std.specs.List.{concat}

-- the scalars below a number stand each once in lists that aren't empty
pub record Arranges (scalars : ℕ) (lists : List (List ℕ)) : Type 0 where
  pub few : scalars ≤ 64
  pub some : All (λ list. 1 ≤ length list) lists
  pub all : length (concat lists) ≡ scalars
  pub once : (scalar : ℕ) → scalar < scalars → count_by (λ s. s == scalar) (concat lists) ≡ 1
