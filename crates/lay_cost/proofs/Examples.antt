-- What sequences cost, by hand.
use Rattle.std.proofs.Common.{◌≡◌, ℕ, List, [], ◌∷◌, map, refl}
use Rattle.std.specs.List.{range_with_len, flat_map}
use Rattle.std.specs.Prelude.{nat_lt, filter, pos, negsuc, ◌-◌, ◌==◌, if◌then◌else◌}
use Rattle.std.proofs.Common.{lit<}
use Rattle.lay_model.specs.Sequences.{Sequence, Block}
use Rattle.lay_cost.specs.Placements.{Placement, IsPlacement}
use Rattle.lay_cost.specs.Cost.{cost_of, arranged_cost}
use Rattle.lay_cost.specs.Restricted.{loads, in_bits}
use Rattle.lay_cost.specs.Weights.{weight_between}
use Rattle.lay_cost.specs.Parts.{part_cost_of, lists_of}

abbrev block : List ℕ → Block
block accesses = record { weight = 1; accesses = accesses }

abbrev one_block : ℕ → ℕ → List ℕ → Sequence
one_block scalars step accesses = record { scalars = scalars; step = step; blocks = block accesses ∷ [] }

-- four scalars on one register: the load, and one move by 2
four : arranged_cost (one_block 4 1 (1 ∷ 0 ∷ 1 ∷ 0 ∷ 2 ∷ 0 ∷ 3 ∷ [])) ((1 ∷ 0 ∷ 2 ∷ 3 ∷ []) ∷ []) ≡ 2
four = refl

-- two moves by 2, which are free where the step is 2: it is loaded once
two_moves : arranged_cost (one_block 4 1 (1 ∷ 0 ∷ 1 ∷ 0 ∷ 2 ∷ 0 ∷ 3 ∷ 0 ∷ [])) ((1 ∷ 0 ∷ 2 ∷ 3 ∷ []) ∷ []) ≡ 3
two_moves = refl

by_the_step : arranged_cost (one_block 4 2 (1 ∷ 0 ∷ 1 ∷ 0 ∷ 2 ∷ 0 ∷ 3 ∷ 0 ∷ [])) ((1 ∷ 0 ∷ 2 ∷ 3 ∷ []) ∷ []) ≡ 2
by_the_step = refl

-- each two of eight scalars in a block of their own
pairs : List Block
pairs = flat_map (λ a. map (λ b. block (a ∷ b ∷ [])) (filter (λ b. nat_lt a b) (range_with_len 0 8))) (range_with_len 0 8)

eight : arranged_cost (record { scalars = 8; step = 1; blocks = pairs }) ((6 ∷ 4 ∷ 2 ∷ 0 ∷ 1 ∷ 3 ∷ 5 ∷ 7 ∷ []) ∷ []) ≡ 49
unfolding pairs
eight = refl

-- two registers: a load for each
two_lists : arranged_cost (one_block 5 1 (0 ∷ 1 ∷ 0 ∷ 2 ∷ 0 ∷ 3 ∷ 0 ∷ 4 ∷ [])) ((0 ∷ 1 ∷ []) ∷ (2 ∷ 3 ∷ 4 ∷ []) ∷ []) ≡ 2
two_lists = refl

-- a block that counts three times, and one that counts once and loads again
abbrev two_blocks : Sequence
two_blocks = record { scalars = 3; step = 1; blocks = record { weight = 3; accesses = 0 ∷ 2 ∷ [] } ∷ record { weight = 1; accesses = 2 ∷ 1 ∷ [] } ∷ [] }

over_blocks : arranged_cost two_blocks ((0 ∷ 1 ∷ 2 ∷ []) ∷ []) ≡ 7
over_blocks = refl

-- each time that they are neighbours counts
three_times : weight_between (one_block 2 1 (1 ∷ 0 ∷ 1 ∷ 0 ∷ [])) (in_bits 3) 0 1 ≡ 3
three_times = refl

-- without 0 the others of this block are neighbours
without_0 : weight_between (one_block 4 1 (1 ∷ 0 ∷ 1 ∷ 0 ∷ 2 ∷ 0 ∷ 3 ∷ [])) (in_bits 14) 1 2 ≡ 1
without_0 = refl

not_itself : weight_between (one_block 2 1 (1 ∷ 1 ∷ 0 ∷ [])) (in_bits 3) 1 1 ≡ 0
not_itself = refl

loads_of_0 : loads two_blocks (in_bits 1) ≡ 3
loads_of_0 = refl

-- a string of two lists, the second one open
string : lists_of (2 ∷ 0 ∷ 255 ∷ 1 ∷ []) ≡ (2 ∷ 0 ∷ []) ∷ (1 ∷ []) ∷ []
string = refl

closed_string : lists_of (2 ∷ 0 ∷ 255 ∷ []) ≡ (2 ∷ 0 ∷ []) ∷ [] ∷ []
closed_string = refl

-- the accesses of 0 and 2 alone
part : part_cost_of two_blocks (lists_of (2 ∷ 0 ∷ 255 ∷ [])) ≡ 4
part = refl

-- offsets are any whole numbers: 0 lies three words before 1, and 2 behind it
abbrev with_gap : Placement
with_gap = record { register = λ s. 0; offset = λ s. if s == 0 then negsuc 2 else pos (s - 1) }

gap_costs : cost_of (one_block 3 1 (1 ∷ 2 ∷ 0 ∷ [])) with_gap ≡ 2
gap_costs = refl

-- at a step above 1 that is no placement
no_gaps : IsPlacement (one_block 3 2 (1 ∷ 2 ∷ 0 ∷ [])) 1 with_gap → ⊥
no_gaps h = let d = h.dense (lit< tt) 0 (lit< tt) in below d.at d.is
  where
    below : (n : ℕ) → negsuc 2 ≡ pos n → ⊥
    below n e = cc

-- two registers with an offset each: a load for each, and no move between them
apart : cost_of (one_block 2 1 (0 ∷ 1 ∷ 0 ∷ 1 ∷ [])) (record { register = λ s. s; offset = λ s. pos 7 }) ≡ 2
apart = refl

-- a move by 3 at a step of 3 costs the load of the step alone, however often it is made; one by 2 costs 1 each time
by_3 : arranged_cost (one_block 4 3 (0 ∷ 3 ∷ 0 ∷ 3 ∷ [])) ((0 ∷ 1 ∷ 2 ∷ 3 ∷ []) ∷ []) ≡ 2
by_3 = refl

by_2 : arranged_cost (one_block 4 3 (0 ∷ 2 ∷ 0 ∷ 2 ∷ [])) ((0 ∷ 1 ∷ 2 ∷ 3 ∷ []) ∷ []) ≡ 4
by_2 = refl

-- the step is loaded again in each block, as the registers are
in_each_block : arranged_cost (record { scalars = 3; step = 2; blocks = block (0 ∷ 2 ∷ 0 ∷ []) ∷ block (2 ∷ 0 ∷ []) ∷ [] }) ((0 ∷ 1 ∷ 2 ∷ []) ∷ []) ≡ 4
in_each_block = refl
