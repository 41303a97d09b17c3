-- Fields of a line (docs/FORMATS.md).
use Rattle.std.specs.Prelude.{◌≡◌, ℕ, List, [], ◌∷◌}

-- nothing, or a space first
abbrev pub IsSpacedOff : List ℕ → Type 0
IsSpacedOff [] = Unit {0}
IsSpacedOff (code ∷ codes) = code ≡ 32
