-- Sequences weighed by counts of their blocks, and what placements cost by these counts (docs/LAYOUT.md, "Cost").
use Rattle.std.specs.Prelude.{ℕ, zero, suc, ◌+◌, ◌*◌, List, [], ◌∷◌, length, sum_by}
use Rattle.lay_model.specs.Sequences.{Block, Sequence}
use Rattle.lay_cost.specs.Placements.{Placement, placement_of}
use Rattle.lay_cost.specs.Cost.{block_cost}

-- the blocks whose count isn't 0, each so often as its count says
abbrev pub weighed_blocks : List Block → List ℕ → List Block
weighed_blocks [] counts = []
weighed_blocks (b ∷ blocks) [] = []
weighed_blocks (b ∷ blocks) (zero ∷ counts) = weighed_blocks blocks counts
weighed_blocks (b ∷ blocks) (suc n ∷ counts) = record { weight = suc n; accesses = b.accesses } ∷ weighed_blocks blocks counts

abbrev pub weighed : Sequence → List ℕ → Sequence
weighed seq counts = record { scalars = seq.scalars; step = seq.step; blocks = weighed_blocks seq.blocks counts }

-- how many accesses there are, of whatever weight
abbrev pub accesses_in : List Block → ℕ
accesses_in blocks = sum_by (λ b. length b.accesses) blocks

-- what each block costs, once for each time that it is counted
abbrev pub cost_of_counted : ℕ → Placement → List Block → List ℕ → ℕ
cost_of_counted step p [] counts = 0
cost_of_counted step p (b ∷ blocks) [] = 0
cost_of_counted step p (b ∷ blocks) (n ∷ counts) = n * block_cost step p b.accesses + cost_of_counted step p blocks counts

-- how many address instructions a run needs that enters each block so often
abbrev pub run_cost : Sequence → List ℕ → Placement → ℕ
run_cost seq counts p = cost_of_counted seq.step p seq.blocks counts

-- the same of lists, each on a register of its own
abbrev pub arranged_run_cost : Sequence → List ℕ → List (List ℕ) → ℕ
arranged_run_cost seq counts lists = run_cost seq counts (placement_of lists)
