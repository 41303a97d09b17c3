-- Entries and weighed sequences, by hand.
use Rattle.std.proofs.Common.{◌≡◌, ℕ, List, [], ◌∷◌, map, refl}
use Rattle.lay_model.specs.Sequences.{Sequence}
use Rattle.lay_profile.specs.Entries.{entries_of}
use Rattle.lay_profile.specs.Weighing.{weighed, arranged_run_cost}

abbrev first_five : List ℕ
first_five = 0 ∷ 1 ∷ 2 ∷ 3 ∷ 4 ∷ []

-- LACK 3; at 1 SUBK 1 and BNZ to it; IDLE
abbrev three_turns : List ℕ
three_turns = 0xca03 ∷ 0xcd01 ∷ 0xf580 ∷ 1 ∷ 0xce1f ∷ []

-- the state behind the last of seven steps isn't counted, and the step that ends is, once
seven_steps : map (entries_of three_turns (λ port. []) 7) first_five ≡ 1 ∷ 3 ∷ 3 ∷ 0 ∷ 0 ∷ []
seven_steps = refl

twelve_steps : map (entries_of three_turns (λ port. []) 12) first_five ≡ 1 ∷ 3 ∷ 3 ∷ 0 ∷ 1 ∷ []
twelve_steps = refl

-- RET of an empty stack traps where it stands
trapped : map (entries_of (0xce26 ∷ []) (λ port. []) 9) first_five ≡ 1 ∷ 0 ∷ 0 ∷ 0 ∷ 0 ∷ []
trapped = refl

-- RPTK 2; SFL, three times; IDLE
repeated : map (entries_of (0xcb02 ∷ 0xce18 ∷ 0xce1f ∷ []) (λ port. []) 9) first_five ≡ 1 ∷ 3 ∷ 1 ∷ 0 ∷ 0 ∷ []
repeated = refl

-- the blocks 0 1, 1 2 and 0 2
abbrev three_blocks : Sequence
three_blocks = record {
  scalars = 3;
  step = 1;
  blocks = record { weight = 1; accesses = 0 ∷ 1 ∷ [] } ∷ record { weight = 1; accesses = 1 ∷ 2 ∷ [] } ∷ record { weight = 1; accesses = 0 ∷ 2 ∷ [] } ∷ [];
}

one_left_out : weighed three_blocks (1 ∷ 0 ∷ 5 ∷ [])
    ≡ record { scalars = 3; step = 1; blocks = record { weight = 1; accesses = 0 ∷ 1 ∷ [] } ∷ record { weight = 5; accesses = 0 ∷ 2 ∷ [] } ∷ [] }
one_left_out = refl

-- entered 1, 5 and 1 times they cost 8 in the list 0 1 2: each is loaded, and 0 to 2 is far
costs_8 : arranged_run_cost three_blocks (1 ∷ 5 ∷ 1 ∷ []) ((0 ∷ 1 ∷ 2 ∷ []) ∷ []) ≡ 8
costs_8 = refl
