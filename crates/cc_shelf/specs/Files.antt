-- What a shelf holds: a map from names to bytes.
use Rattle.std.specs.Prelude.{◌≡◌, ℕ, List, Option}

-- the bytes under each name, where it has some
abbrev pub Files : Type 0
Files = List ℕ → Option (List ℕ)

-- each name holds what it held
abbrev pub Unchanged : Files → Files → Type 0
Unchanged old new = (n : List ℕ) → new n ≡ old n
