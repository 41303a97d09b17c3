-- How a function is entered and left: by the hardware stack, or by the word of data memory that has its return address.
use Rattle.std.specs.Prelude.{ℕ, ◌/◌, ◌∷◌, Option, Some, None}
use Rattle.c25_isa.specs.State.{write}
use Rattle.c25_code.specs.Work.{Work}

-- work where a function has been entered: its return address is on the hardware stack or in its word
abbrev pub entered : Option ℕ → ℕ → Work → Work
entered None address w = record w { stack = address ∷ w.stack }
entered (Some word) address w = record w { dp = word / 128; ram = write w.ram word address }
