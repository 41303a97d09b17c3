-- Functions that reach others by calls.
use Rattle.std.specs.Prelude.{◌≡◌, ◌<◌, ℕ, List, [], ◌∷◌, length, slice_get, Some}
use Rattle.std.specs.List.{Contains}

-- a function calls another, by the list of those that each calls
abbrev pub CallsAmong : List (List ℕ) → ℕ → ℕ → Type 0
CallsAmong lists n m = (list : List ℕ) × (slice_get lists n ≡ Some list) × Contains list m

-- a function calls the first of these, that one the next, and so on to the last, which is that function
abbrev pub IsWay : (ℕ → ℕ → Type 0) → ℕ → List ℕ → ℕ → Type 0
IsWay calls n [] z = n ≡ z
IsWay calls n (m ∷ ms) z = calls n m × IsWay calls m ms z

-- a function reaches itself over these
abbrev pub IsRound : (ℕ → ℕ → Type 0) → ℕ → List ℕ → Type 0
IsRound calls n ms = (0 < length ms) × IsWay calls n ms n

-- no function reaches itself
abbrev pub HasNoRound : (ℕ → ℕ → Type 0) → Type 0
HasNoRound calls = (n : ℕ) (ms : List ℕ) → ¬ IsRound calls n ms
