-- Which labels a table holds (docs/TRANSLATION.md, "Labels").
use Rattle.std.specs.Prelude.{ℕ, Bool, false, List, slice_get, Option, Some, None}
use Rattle.emit_control.specs.declared.named.Named.{Named}

abbrev pub or_false : Option Bool → Bool
or_false None = false
or_false (Some b) = b

abbrev pub is_marked : List Bool → ℕ → Bool
is_marked marked l = or_false (slice_get marked l)

-- a label that isn't in the table isn't named
abbrev pub names_of : Named → ℕ → Bool
names_of n = λ l. is_marked n.marked.items l
