-- When the read of a whole file is refused, by its count of bytes read.
use Rattle.std.specs.Prelude.{ℕ, ◌<◌, ⊤}
use Rattle.cc_shelf.specs.Counts.{RoseBy}
use Rattle.cc_shelf.specs.declared.shelf.ShelfFault.{ShelfFault}
use Rattle.cc_shelf.specs.declared.shelf.ShelfFault.TheVariants.{Failed, Absent, TooLong, NoMemory}

-- when a read of at most `max` bytes is refused so
abbrev pub ReadRefused : ℕ → ℕ → ℕ → ShelfFault → Type 0
ReadRefused max before now Failed = ⊤
ReadRefused max before now Absent = ⊥
ReadRefused max before now (TooLong at_least) = (max < at_least) × RoseBy at_least before now
ReadRefused max before now NoMemory = ⊤
