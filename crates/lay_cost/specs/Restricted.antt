-- A sequence restricted to a set of scalars (docs/LAYOUT.md, "Weights").
use Rattle.std.specs.Prelude.{ℕ, ◌/◌, ◌%◌, ◌^◌, ◌==◌, Bool, map, filter, sum_by, if◌then◌else◌}
use Rattle.std.specs.List.{list_any}
use Rattle.lay_model.specs.Sequences.{Sequence, Block}

-- the accesses of the scalars of a set alone. A block that keeps none stays, and costs nothing
abbrev pub restricted_block : (ℕ → Bool) → Block → Block
restricted_block set b = record { weight = b.weight; accesses = filter set b.accesses }

abbrev pub restricted : Sequence → (ℕ → Bool) → Sequence
restricted seq set = record { scalars = seq.scalars; step = seq.step; blocks = map (restricted_block set) seq.blocks }

-- the weights of the blocks that hold a scalar of a set
abbrev pub loads : Sequence → (ℕ → Bool) → ℕ
loads seq set = sum_by (λ b. if list_any set b.accesses then b.weight else 0) seq.blocks

-- the set of the scalars whose bits are set
abbrev pub in_bits : ℕ → ℕ → Bool
in_bits bits scalar = (bits / 2 ^ scalar) % 2 == 1
