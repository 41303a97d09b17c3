-- What is known along a stretch and what an instruction accesses, as the code has them.
use Rattle.std.specs.Prelude.{ℕ, List, slice_index_or, Option, None}
use Rattle.c25_isa.specs.Walk as walk
use Rattle.c25_walk.specs.declared.known.Known.{Known}
use Rattle.c25_walk.specs.declared.access.Access.{Access}
use Rattle.c25_walk.specs.declared.access.Access.TheVariants.{Listed, Unlisted, Unknown}

-- the numbers of registers, by a list
abbrev pub numbers_at : List (Option ℕ) → ℕ → Option ℕ
numbers_at numbers = λ register. slice_index_or numbers register None

abbrev pub known_of : Known → walk.Known
known_of k = record { arp = k.arp; ar = numbers_at k.ar }

abbrev pub access_of : Access → walk.Access
access_of (Listed a) = walk.Listed a
access_of Unlisted = walk.Unlisted
access_of Unknown = walk.Unknown
