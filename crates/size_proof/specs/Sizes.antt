-- The words that every program may have beside its weight (docs/TRANSLATION.md, "Pieces").
use Rattle.std.specs.Prelude.{ℕ}

-- those of the startup, without what static objects begin with
abbrev pub STARTUP_WORDS : ℕ
STARTUP_WORDS = 16

-- those of all routines for what the machine has no instruction for
abbrev pub ROUTINE_WORDS : ℕ
ROUTINE_WORDS = 126
