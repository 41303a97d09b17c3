-- A count that is kept in a byte. It stays at 255 from there on.
use Rattle.std.specs.Prelude.{ℕ, min}

abbrev pub in_byte : ℕ → ℕ
in_byte n = min n 255
