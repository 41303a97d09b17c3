-- A count in 32 bits: the most that they hold, where there is more.
use Rattle.std.specs.Prelude.{ℕ, min}

abbrev pub capped : ℕ → ℕ
capped n = min n 4294967295
