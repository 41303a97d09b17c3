-- Blocks that lie one behind another.
use Rattle.std.specs.Prelude.{◌≡◌, ℕ, zero, suc, ◌≤◌, List, [], ◌∷◌, slice_index_or, slice_range}
use Rattle.lay_model.specs.declared.blocks.BlockEnd.{BlockEnd}
use Rattle.lay_model.specs.Sequences.{Block}

-- each block has the accesses from where the one before it ends up to its own end
abbrev pub blocks_from : ℕ → List BlockEnd → List ℕ → List Block
blocks_from start [] accesses = []
blocks_from start (e ∷ ends) accesses = record { weight = e.weight; accesses = slice_range accesses start e.end } ∷ blocks_from e.end ends accesses

-- where the block of a number begins
abbrev pub start_at : ℕ → List BlockEnd → ℕ → ℕ
start_at start ends zero = start
start_at start [] (suc i) = start
start_at start (e ∷ ends) (suc i) = start_at e.end ends i

-- no end stands before another, and behind the last there is no access
abbrev pub AreEnds : ℕ → List BlockEnd → ℕ → Type 0
AreEnds start [] size = start ≡ size
AreEnds start (e ∷ ends) size = (start ≤ e.end) × AreEnds e.end ends size

-- the block of this number, where there are so many
abbrev pub block_at : List Block → ℕ → Block
block_at blocks i = slice_index_or blocks i (record { weight = 0; accesses = [] })
