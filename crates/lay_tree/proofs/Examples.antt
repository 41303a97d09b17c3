-- What is found for sequences, worked out apart from these definitions.
use Rattle.std.proofs.Common.{◌≡◌, [], ◌∷◌, refl}
use Rattle.std.specs.Prelude.{pos, negsuc}
use Rattle.lay_model.specs.Sequences.{Sequence}
use Rattle.lay_tree.specs.declared.answer.Mark.TheVariants.{Branched, Closed}
use Rattle.lay_tree.specs.declared.answer.Answer.TheVariants.{Certified, Exhausted}
use Rattle.lay_tree.specs.Bound.{bound}
use Rattle.lay_tree.specs.Greedy.{starting_lists}
use Rattle.lay_tree.specs.Search.{search_answer}
use Rattle.lay_tree.specs.Replays.{replay, Fits, IsTooLow, HasNoShape}

-- a scalar beside three others: two of them can stand beside it
abbrev four : Sequence
four = record { scalars = 4; step = 1; blocks = (record { weight = 1; accesses = 0 ∷ 1 ∷ 0 ∷ 2 ∷ 0 ∷ 3 ∷ [] }) ∷ [] }

start_of_four : starting_lists 1 four ≡ (1 ∷ 0 ∷ 2 ∷ 3 ∷ []) ∷ []
start_of_four = refl

four_on_one : search_answer 1 four 200000 ≡ Certified ((1 ∷ 0 ∷ 2 ∷ 3 ∷ []) ∷ []) 2 (Branched ∷ Branched ∷ Closed ∷ Closed ∷ Closed ∷ Branched ∷ Branched ∷ Closed ∷ Closed ∷ Closed ∷ Closed ∷ Branched ∷ Branched ∷ Closed ∷ Closed ∷ Closed ∷ Closed ∷ Branched ∷ Branched ∷ Closed ∷ Closed ∷ Closed ∷ Closed ∷ [])
four_on_one = refl

-- a scalar beside four others
abbrev five : Sequence
five = record { scalars = 5; step = 1; blocks = (record { weight = 1; accesses = 0 ∷ 1 ∷ 0 ∷ 2 ∷ 0 ∷ 3 ∷ 0 ∷ 4 ∷ [] }) ∷ [] }

-- each register is loaded
five_on_two : search_answer 2 five 200000 ≡ Certified ((0 ∷ 1 ∷ []) ∷ (2 ∷ 3 ∷ 4 ∷ []) ∷ []) 2 (Branched ∷ Branched ∷ Branched ∷ Branched ∷ Branched ∷ Closed ∷ Closed ∷ Branched ∷ Closed ∷ Closed ∷ Closed ∷ Branched ∷ Branched ∷ Closed ∷ Closed ∷ Branched ∷ Closed ∷ Closed ∷ Closed ∷ Branched ∷ Branched ∷ Closed ∷ Closed ∷ Branched ∷ Closed ∷ Closed ∷ Closed ∷ Branched ∷ Closed ∷ Closed ∷ Closed ∷ Branched ∷ Branched ∷ Branched ∷ Closed ∷ Closed ∷ Branched ∷ Closed ∷ Closed ∷ Closed ∷ Branched ∷ Branched ∷ Closed ∷ Closed ∷ Branched ∷ Closed ∷ Closed ∷ Closed ∷ Branched ∷ Branched ∷ Closed ∷ Closed ∷ Branched ∷ Closed ∷ Closed ∷ Closed ∷ Branched ∷ Closed ∷ Closed ∷ Closed ∷ Branched ∷ Branched ∷ Branched ∷ Closed ∷ Closed ∷ Branched ∷ Closed ∷ Closed ∷ Closed ∷ Branched ∷ Branched ∷ Closed ∷ Closed ∷ Branched ∷ Closed ∷ Closed ∷ Closed ∷ Branched ∷ Branched ∷ Closed ∷ Closed ∷ Branched ∷ Closed ∷ Closed ∷ Closed ∷ Branched ∷ Closed ∷ Closed ∷ Closed ∷ Branched ∷ Branched ∷ Branched ∷ Closed ∷ Closed ∷ Branched ∷ Closed ∷ Closed ∷ Closed ∷ Branched ∷ Branched ∷ Closed ∷ Closed ∷ Branched ∷ Closed ∷ Closed ∷ Closed ∷ Branched ∷ Branched ∷ Closed ∷ Closed ∷ Branched ∷ Closed ∷ Closed ∷ Closed ∷ Branched ∷ Closed ∷ Closed ∷ Closed ∷ Branched ∷ Closed ∷ Closed ∷ Closed ∷ Closed ∷ Branched ∷ Branched ∷ Branched ∷ Branched ∷ Closed ∷ Closed ∷ Branched ∷ Closed ∷ Closed ∷ Branched ∷ Closed ∷ Closed ∷ Branched ∷ Branched ∷ Closed ∷ Closed ∷ Branched ∷ Closed ∷ Closed ∷ Branched ∷ Closed ∷ Closed ∷ Branched ∷ Branched ∷ Closed ∷ Closed ∷ Branched ∷ Closed ∷ Closed ∷ Branched ∷ Closed ∷ Closed ∷ Branched ∷ Closed ∷ Closed ∷ Closed ∷ Branched ∷ Branched ∷ Branched ∷ Closed ∷ Closed ∷ Branched ∷ Closed ∷ Closed ∷ Closed ∷ Branched ∷ Branched ∷ Closed ∷ Closed ∷ Branched ∷ Closed ∷ Closed ∷ Branched ∷ Closed ∷ Closed ∷ Branched ∷ Branched ∷ Closed ∷ Closed ∷ Branched ∷ Closed ∷ Closed ∷ Branched ∷ Closed ∷ Closed ∷ Branched ∷ Closed ∷ Closed ∷ Branched ∷ Closed ∷ Closed ∷ Branched ∷ Branched ∷ Branched ∷ Closed ∷ Closed ∷ Branched ∷ Closed ∷ Closed ∷ Closed ∷ Branched ∷ Branched ∷ Closed ∷ Closed ∷ Branched ∷ Closed ∷ Closed ∷ Closed ∷ Branched ∷ Branched ∷ Closed ∷ Closed ∷ Branched ∷ Closed ∷ Closed ∷ Branched ∷ Closed ∷ Closed ∷ Branched ∷ Closed ∷ Closed ∷ Branched ∷ Closed ∷ Closed ∷ Branched ∷ Branched ∷ Branched ∷ Closed ∷ Closed ∷ Branched ∷ Closed ∷ Closed ∷ Closed ∷ Branched ∷ Branched ∷ Closed ∷ Closed ∷ Branched ∷ Closed ∷ Closed ∷ Branched ∷ Closed ∷ Closed ∷ Branched ∷ Branched ∷ Closed ∷ Closed ∷ Branched ∷ Closed ∷ Closed ∷ Branched ∷ Closed ∷ Closed ∷ Branched ∷ Closed ∷ Closed ∷ Closed ∷ Branched ∷ Closed ∷ Closed ∷ Closed ∷ Branched ∷ Closed ∷ Closed ∷ Closed ∷ Branched ∷ Branched ∷ Branched ∷ Branched ∷ Closed ∷ Closed ∷ Branched ∷ Closed ∷ Closed ∷ Branched ∷ Closed ∷ Closed ∷ Branched ∷ Branched ∷ Closed ∷ Closed ∷ Branched ∷ Closed ∷ Closed ∷ Branched ∷ Closed ∷ Closed ∷ Branched ∷ Branched ∷ Closed ∷ Closed ∷ Branched ∷ Closed ∷ Closed ∷ Branched ∷ Closed ∷ Closed ∷ Branched ∷ Closed ∷ Closed ∷ Closed ∷ Branched ∷ Branched ∷ Branched ∷ Closed ∷ Closed ∷ Branched ∷ Closed ∷ Closed ∷ Closed ∷ Branched ∷ Branched ∷ Closed ∷ Closed ∷ Branched ∷ Closed ∷ Closed ∷ Closed ∷ Branched ∷ Branched ∷ Closed ∷ Closed ∷ Branched ∷ Closed ∷ Closed ∷ Branched ∷ Closed ∷ Closed ∷ Branched ∷ Closed ∷ Closed ∷ Branched ∷ Closed ∷ Closed ∷ Branched ∷ Branched ∷ Branched ∷ Closed ∷ Closed ∷ Branched ∷ Closed ∷ Closed ∷ Closed ∷ Branched ∷ Branched ∷ Closed ∷ Closed ∷ Branched ∷ Closed ∷ Closed ∷ Closed ∷ Branched ∷ Branched ∷ Closed ∷ Closed ∷ Branched ∷ Closed ∷ Closed ∷ Branched ∷ Closed ∷ Closed ∷ Branched ∷ Closed ∷ Closed ∷ Branched ∷ Closed ∷ Closed ∷ Branched ∷ Branched ∷ Branched ∷ Closed ∷ Closed ∷ Branched ∷ Closed ∷ Closed ∷ Closed ∷ Branched ∷ Branched ∷ Closed ∷ Closed ∷ Branched ∷ Closed ∷ Closed ∷ Branched ∷ Closed ∷ Closed ∷ Branched ∷ Branched ∷ Closed ∷ Closed ∷ Branched ∷ Closed ∷ Closed ∷ Branched ∷ Closed ∷ Closed ∷ Branched ∷ Closed ∷ Closed ∷ Closed ∷ Branched ∷ Closed ∷ Closed ∷ Closed ∷ Branched ∷ Closed ∷ Closed ∷ Closed ∷ Branched ∷ Branched ∷ Branched ∷ Branched ∷ Closed ∷ Closed ∷ Branched ∷ Closed ∷ Closed ∷ Branched ∷ Closed ∷ Closed ∷ Branched ∷ Branched ∷ Closed ∷ Closed ∷ Branched ∷ Closed ∷ Closed ∷ Branched ∷ Closed ∷ Closed ∷ Branched ∷ Branched ∷ Closed ∷ Closed ∷ Branched ∷ Closed ∷ Closed ∷ Branched ∷ Closed ∷ Closed ∷ Branched ∷ Closed ∷ Closed ∷ Closed ∷ Branched ∷ Branched ∷ Branched ∷ Closed ∷ Closed ∷ Branched ∷ Closed ∷ Closed ∷ Closed ∷ Branched ∷ Branched ∷ Closed ∷ Closed ∷ Branched ∷ Closed ∷ Closed ∷ Closed ∷ Branched ∷ Branched ∷ Closed ∷ Closed ∷ Branched ∷ Closed ∷ Closed ∷ Branched ∷ Closed ∷ Closed ∷ Branched ∷ Closed ∷ Closed ∷ Branched ∷ Closed ∷ Closed ∷ Branched ∷ Branched ∷ Branched ∷ Closed ∷ Closed ∷ Branched ∷ Closed ∷ Closed ∷ Closed ∷ Branched ∷ Branched ∷ Closed ∷ Closed ∷ Branched ∷ Closed ∷ Closed ∷ Branched ∷ Closed ∷ Closed ∷ Branched ∷ Branched ∷ Closed ∷ Closed ∷ Branched ∷ Closed ∷ Closed ∷ Branched ∷ Closed ∷ Closed ∷ Branched ∷ Closed ∷ Closed ∷ Branched ∷ Closed ∷ Closed ∷ Branched ∷ Branched ∷ Branched ∷ Closed ∷ Closed ∷ Branched ∷ Closed ∷ Closed ∷ Closed ∷ Branched ∷ Branched ∷ Closed ∷ Closed ∷ Branched ∷ Closed ∷ Closed ∷ Branched ∷ Closed ∷ Closed ∷ Branched ∷ Branched ∷ Closed ∷ Closed ∷ Branched ∷ Closed ∷ Closed ∷ Branched ∷ Closed ∷ Closed ∷ Branched ∷ Closed ∷ Closed ∷ Closed ∷ Branched ∷ Closed ∷ Closed ∷ Closed ∷ Branched ∷ Closed ∷ Closed ∷ Closed ∷ Branched ∷ Branched ∷ Branched ∷ Branched ∷ Closed ∷ Closed ∷ Branched ∷ Closed ∷ Closed ∷ Branched ∷ Closed ∷ Closed ∷ Branched ∷ Branched ∷ Closed ∷ Closed ∷ Branched ∷ Closed ∷ Closed ∷ Branched ∷ Closed ∷ Closed ∷ Branched ∷ Branched ∷ Closed ∷ Closed ∷ Branched ∷ Closed ∷ Closed ∷ Branched ∷ Closed ∷ Closed ∷ Branched ∷ Closed ∷ Closed ∷ Closed ∷ Branched ∷ Branched ∷ Branched ∷ Closed ∷ Closed ∷ Branched ∷ Closed ∷ Closed ∷ Closed ∷ Branched ∷ Branched ∷ Closed ∷ Closed ∷ Branched ∷ Closed ∷ Closed ∷ Branched ∷ Closed ∷ Closed ∷ Branched ∷ Branched ∷ Closed ∷ Closed ∷ Branched ∷ Closed ∷ Closed ∷ Branched ∷ Closed ∷ Closed ∷ Branched ∷ Closed ∷ Closed ∷ Closed ∷ Branched ∷ Branched ∷ Branched ∷ Closed ∷ Closed ∷ Branched ∷ Closed ∷ Closed ∷ Closed ∷ Branched ∷ Branched ∷ Closed ∷ Closed ∷ Branched ∷ Closed ∷ Closed ∷ Branched ∷ Closed ∷ Closed ∷ Branched ∷ Branched ∷ Closed ∷ Closed ∷ Branched ∷ Closed ∷ Closed ∷ Branched ∷ Closed ∷ Closed ∷ Branched ∷ Closed ∷ Closed ∷ Closed ∷ Branched ∷ Branched ∷ Branched ∷ Closed ∷ Closed ∷ Branched ∷ Closed ∷ Closed ∷ Closed ∷ Branched ∷ Branched ∷ Closed ∷ Closed ∷ Branched ∷ Closed ∷ Closed ∷ Branched ∷ Closed ∷ Closed ∷ Branched ∷ Branched ∷ Closed ∷ Closed ∷ Branched ∷ Closed ∷ Closed ∷ Branched ∷ Closed ∷ Closed ∷ Branched ∷ Closed ∷ Closed ∷ Closed ∷ Branched ∷ Closed ∷ Closed ∷ Closed ∷ Closed ∷ [])
five_on_two = refl

-- two moves by 2
abbrev returning : Sequence
returning = record { scalars = 4; step = 1; blocks = (record { weight = 1; accesses = 0 ∷ 1 ∷ 0 ∷ 2 ∷ 0 ∷ 3 ∷ 0 ∷ [] }) ∷ [] }

at_step_one : search_answer 1 returning 200000 ≡ Certified ((1 ∷ 0 ∷ 2 ∷ 3 ∷ []) ∷ []) 3 (Branched ∷ Branched ∷ Closed ∷ Closed ∷ Closed ∷ Branched ∷ Branched ∷ Closed ∷ Closed ∷ Closed ∷ Closed ∷ Branched ∷ Branched ∷ Closed ∷ Closed ∷ Closed ∷ Closed ∷ Branched ∷ Branched ∷ Closed ∷ Closed ∷ Closed ∷ Closed ∷ [])
at_step_one = refl

-- at step 2 they are free, and the step is loaded once
abbrev by_two : Sequence
by_two = record { scalars = 4; step = 2; blocks = (record { weight = 1; accesses = 0 ∷ 1 ∷ 0 ∷ 2 ∷ 0 ∷ 3 ∷ 0 ∷ [] }) ∷ [] }

at_step_two : search_answer 1 by_two 200000 ≡ Certified ((1 ∷ 0 ∷ 2 ∷ 3 ∷ []) ∷ []) 2 (Branched ∷ Branched ∷ Branched ∷ Branched ∷ Closed ∷ Branched ∷ Closed ∷ Branched ∷ Branched ∷ Closed ∷ Branched ∷ Closed ∷ Branched ∷ Branched ∷ Closed ∷ Branched ∷ Closed ∷ Branched ∷ Branched ∷ Branched ∷ Closed ∷ Branched ∷ Closed ∷ Branched ∷ Branched ∷ Closed ∷ Branched ∷ Closed ∷ Branched ∷ Branched ∷ Closed ∷ Branched ∷ Closed ∷ Branched ∷ Branched ∷ Branched ∷ Closed ∷ Branched ∷ Closed ∷ Branched ∷ Branched ∷ Closed ∷ Branched ∷ Closed ∷ Branched ∷ Branched ∷ Closed ∷ Branched ∷ Closed ∷ Branched ∷ Branched ∷ Branched ∷ Closed ∷ Branched ∷ Closed ∷ Branched ∷ Branched ∷ Closed ∷ Branched ∷ Closed ∷ Branched ∷ Branched ∷ Closed ∷ Branched ∷ Closed ∷ [])
at_step_two = refl

abbrev often : Sequence
often = record { scalars = 4; step = 1; blocks = (record { weight = 1; accesses = 0 ∷ 1 ∷ 0 ∷ 2 ∷ 0 ∷ 2 ∷ 0 ∷ 3 ∷ 0 ∷ 3 ∷ [] }) ∷ [] }

often_on_one : search_answer 1 often 200000 ≡ Certified ((2 ∷ 0 ∷ 3 ∷ 1 ∷ []) ∷ []) 3 (Branched ∷ Branched ∷ Closed ∷ Closed ∷ Closed ∷ Branched ∷ Branched ∷ Closed ∷ Closed ∷ Closed ∷ Branched ∷ Closed ∷ Closed ∷ Branched ∷ Branched ∷ Closed ∷ Closed ∷ Closed ∷ Closed ∷ Branched ∷ Branched ∷ Closed ∷ Closed ∷ Branched ∷ Closed ∷ Closed ∷ Closed ∷ [])
often_on_one = refl

-- the heaviest edge is a wrong one to begin with: the starting layout costs 15, and the best one 14
abbrev cycle : Sequence
cycle = record { scalars = 5; step = 1; blocks = (record { weight = 2; accesses = 1 ∷ 0 ∷ [] }) ∷ (record { weight = 2; accesses = 0 ∷ 2 ∷ [] }) ∷ (record { weight = 2; accesses = 2 ∷ 4 ∷ [] }) ∷ (record { weight = 2; accesses = 4 ∷ 3 ∷ [] }) ∷ (record { weight = 3; accesses = 0 ∷ 4 ∷ [] }) ∷ [] }

start_of_cycle : starting_lists 1 cycle ≡ (1 ∷ 0 ∷ 4 ∷ 2 ∷ 3 ∷ []) ∷ []
start_of_cycle = refl

cycle_on_one : search_answer 1 cycle 200000 ≡ Certified ((1 ∷ 0 ∷ 2 ∷ 4 ∷ 3 ∷ []) ∷ []) 14 (Branched ∷ Branched ∷ Branched ∷ Closed ∷ Closed ∷ Closed ∷ Closed ∷ Closed ∷ Closed ∷ Branched ∷ Branched ∷ Branched ∷ Closed ∷ Branched ∷ Closed ∷ Closed ∷ Branched ∷ Closed ∷ Closed ∷ Closed ∷ Closed ∷ Closed ∷ Branched ∷ Branched ∷ Branched ∷ Closed ∷ Closed ∷ Closed ∷ Closed ∷ Branched ∷ Closed ∷ Closed ∷ Closed ∷ Branched ∷ Closed ∷ Closed ∷ Closed ∷ Branched ∷ Closed ∷ Closed ∷ Branched ∷ Closed ∷ Closed ∷ Branched ∷ Closed ∷ Branched ∷ Closed ∷ Closed ∷ Closed ∷ Branched ∷ Closed ∷ Closed ∷ Closed ∷ Branched ∷ Branched ∷ Closed ∷ Closed ∷ Closed ∷ Branched ∷ Branched ∷ Closed ∷ Closed ∷ Branched ∷ Closed ∷ Closed ∷ Closed ∷ Closed ∷ [])
cycle_on_one = refl

-- a piece may write 5 marks, and the first one has more
cycle_of_25 : search_answer 1 cycle 25 ≡ Exhausted ((1 ∷ 0 ∷ 4 ∷ 2 ∷ 3 ∷ []) ∷ []) 15 0 5 (Branched ∷ Branched ∷ Closed ∷ Closed ∷ Closed ∷ [])
cycle_of_25 = refl

cycle_of_30 : search_answer 1 cycle 30 ≡ Exhausted ((1 ∷ 0 ∷ 2 ∷ 4 ∷ 3 ∷ []) ∷ []) 14 0 6 (Branched ∷ Branched ∷ Closed ∷ Closed ∷ Closed ∷ Closed ∷ [])
cycle_of_30 = refl

cycle_of_40 : search_answer 1 cycle 40 ≡ Exhausted ((1 ∷ 0 ∷ 2 ∷ 4 ∷ 3 ∷ []) ∷ []) 14 1 8 (Branched ∷ Branched ∷ Branched ∷ Closed ∷ Branched ∷ Closed ∷ Closed ∷ Branched ∷ [])
cycle_of_40 = refl

-- a cycle of three
abbrev three : Sequence
three = record { scalars = 3; step = 1; blocks = (record { weight = 1; accesses = 0 ∷ 1 ∷ 2 ∷ 0 ∷ [] }) ∷ [] }

bound_of_root : bound 1 three (record { closed = []; open_list = [] }) ≡ pos 1
bound_of_root = refl

three_fit : replay 1 three 2 (Branched ∷ Closed ∷ Closed ∷ Closed ∷ []) ≡ Fits
three_fit = refl

too_low : replay 1 three 2 (Closed ∷ Closed ∷ Closed ∷ Closed ∷ []) ≡ IsTooLow 0 (pos 1)
too_low = refl

absent : replay 1 three 2 (Branched ∷ Closed ∷ Closed ∷ []) ≡ HasNoShape 3
absent = refl

branched_last : replay 1 three 2 (Branched ∷ Closed ∷ Closed ∷ Branched ∷ []) ≡ HasNoShape 4
branched_last = refl

left_over : replay 1 three 2 (Branched ∷ Closed ∷ Closed ∷ Closed ∷ Closed ∷ []) ≡ HasNoShape 4
left_over = refl

behind_two : bound 1 four (record { closed = []; open_list = 1 ∷ 2 ∷ [] }) ≡ pos 3
behind_two = refl

behind_a_close : bound 2 five (record { closed = (0 ∷ 1 ∷ []) ∷ []; open_list = 2 ∷ [] }) ≡ pos 2
behind_a_close = refl

closes_left : bound 3 five (record { closed = (0 ∷ 1 ∷ []) ∷ []; open_list = 2 ∷ [] }) ≡ pos 2
closes_left = refl

-- each of two scalars may save the moves between them
abbrev between_two : Sequence
between_two = record { scalars = 2; step = 1; blocks = (record { weight = 1; accesses = 0 ∷ 1 ∷ 0 ∷ 1 ∷ 0 ∷ 1 ∷ [] }) ∷ [] }

below_zero : bound 1 between_two (record { closed = []; open_list = [] }) ≡ negsuc 3
below_zero = refl

-- over three registers
abbrev spread_out : Sequence
spread_out = record { scalars = 4; step = 1; blocks = (record { weight = 3; accesses = 0 ∷ 3 ∷ 0 ∷ 3 ∷ [] }) ∷ (record { weight = 2; accesses = 1 ∷ 2 ∷ 1 ∷ 0 ∷ [] }) ∷ (record { weight = 1; accesses = 2 ∷ 3 ∷ 2 ∷ [] }) ∷ [] }

start_on_three : starting_lists 3 spread_out ≡ (2 ∷ 1 ∷ 0 ∷ 3 ∷ []) ∷ []
start_on_three = refl

three_registers : search_answer 3 spread_out 200000 ≡ Certified ((2 ∷ 1 ∷ 0 ∷ 3 ∷ []) ∷ []) 8 (Branched ∷ Branched ∷ Branched ∷ Branched ∷ Closed ∷ Closed ∷ Branched ∷ Closed ∷ Closed ∷ Closed ∷ Branched ∷ Branched ∷ Closed ∷ Closed ∷ Branched ∷ Closed ∷ Closed ∷ Closed ∷ Branched ∷ Branched ∷ Closed ∷ Closed ∷ Branched ∷ Closed ∷ Closed ∷ Closed ∷ Closed ∷ Branched ∷ Branched ∷ Branched ∷ Closed ∷ Closed ∷ Branched ∷ Closed ∷ Closed ∷ Closed ∷ Branched ∷ Branched ∷ Closed ∷ Closed ∷ Branched ∷ Closed ∷ Closed ∷ Closed ∷ Branched ∷ Branched ∷ Closed ∷ Closed ∷ Branched ∷ Closed ∷ Closed ∷ Closed ∷ Closed ∷ Branched ∷ Branched ∷ Branched ∷ Closed ∷ Closed ∷ Branched ∷ Closed ∷ Closed ∷ Closed ∷ Branched ∷ Branched ∷ Closed ∷ Closed ∷ Branched ∷ Closed ∷ Closed ∷ Closed ∷ Branched ∷ Branched ∷ Closed ∷ Closed ∷ Branched ∷ Closed ∷ Closed ∷ Closed ∷ Closed ∷ Branched ∷ Branched ∷ Branched ∷ Closed ∷ Closed ∷ Branched ∷ Closed ∷ Closed ∷ Closed ∷ Branched ∷ Branched ∷ Closed ∷ Closed ∷ Branched ∷ Closed ∷ Closed ∷ Closed ∷ Branched ∷ Branched ∷ Closed ∷ Closed ∷ Branched ∷ Closed ∷ Closed ∷ Closed ∷ Closed ∷ [])
three_registers = refl

-- of pairs that weigh the same, that with the smaller lower scalar comes first
abbrev by_low : Sequence
by_low = record { scalars = 4; step = 1; blocks = (record { weight = 1; accesses = 3 ∷ 1 ∷ 2 ∷ 3 ∷ [] }) ∷ [] }

start_by_low : starting_lists 1 by_low ≡ (0 ∷ 2 ∷ 1 ∷ 3 ∷ []) ∷ []
start_by_low = refl

-- then that with the smaller higher one
abbrev by_high : Sequence
by_high = record { scalars = 4; step = 1; blocks = (record { weight = 1; accesses = 3 ∷ 2 ∷ 3 ∷ 1 ∷ 2 ∷ [] }) ∷ [] }

start_by_high : starting_lists 1 by_high ≡ (0 ∷ 1 ∷ 2 ∷ 3 ∷ []) ∷ []
start_by_high = refl

abbrev by_low_first : Sequence
by_low_first = record { scalars = 4; step = 1; blocks = (record { weight = 1; accesses = 3 ∷ 1 ∷ 2 ∷ 0 ∷ 3 ∷ 1 ∷ [] }) ∷ [] }

start_by_low_first : starting_lists 1 by_low_first ≡ (1 ∷ 3 ∷ 0 ∷ 2 ∷ []) ∷ []
start_by_low_first = refl

-- a pair whose lower scalar is the last one of a path
abbrev at_the_end : Sequence
at_the_end = record { scalars = 5; step = 1; blocks = (record { weight = 1; accesses = 0 ∷ 3 ∷ 0 ∷ 3 ∷ 4 ∷ [] }) ∷ [] }

start_at_the_end : starting_lists 1 at_the_end ≡ (0 ∷ 3 ∷ 4 ∷ 1 ∷ 2 ∷ []) ∷ []
start_at_the_end = refl

-- each two of eight scalars: the starting layout is the best one, since the bound of each child is its cost
abbrev pairs_of_eight : Sequence
pairs_of_eight = record { scalars = 8; step = 1; blocks = (record { weight = 1; accesses = 0 ∷ 1 ∷ [] }) ∷ (record { weight = 1; accesses = 0 ∷ 2 ∷ [] }) ∷ (record { weight = 1; accesses = 0 ∷ 3 ∷ [] }) ∷ (record { weight = 1; accesses = 0 ∷ 4 ∷ [] }) ∷ (record { weight = 1; accesses = 0 ∷ 5 ∷ [] }) ∷ (record { weight = 1; accesses = 0 ∷ 6 ∷ [] }) ∷ (record { weight = 1; accesses = 0 ∷ 7 ∷ [] }) ∷ (record { weight = 1; accesses = 1 ∷ 2 ∷ [] }) ∷ (record { weight = 1; accesses = 1 ∷ 3 ∷ [] }) ∷ (record { weight = 1; accesses = 1 ∷ 4 ∷ [] }) ∷ (record { weight = 1; accesses = 1 ∷ 5 ∷ [] }) ∷ (record { weight = 1; accesses = 1 ∷ 6 ∷ [] }) ∷ (record { weight = 1; accesses = 1 ∷ 7 ∷ [] }) ∷ (record { weight = 1; accesses = 2 ∷ 3 ∷ [] }) ∷ (record { weight = 1; accesses = 2 ∷ 4 ∷ [] }) ∷ (record { weight = 1; accesses = 2 ∷ 5 ∷ [] }) ∷ (record { weight = 1; accesses = 2 ∷ 6 ∷ [] }) ∷ (record { weight = 1; accesses = 2 ∷ 7 ∷ [] }) ∷ (record { weight = 1; accesses = 3 ∷ 4 ∷ [] }) ∷ (record { weight = 1; accesses = 3 ∷ 5 ∷ [] }) ∷ (record { weight = 1; accesses = 3 ∷ 6 ∷ [] }) ∷ (record { weight = 1; accesses = 3 ∷ 7 ∷ [] }) ∷ (record { weight = 1; accesses = 4 ∷ 5 ∷ [] }) ∷ (record { weight = 1; accesses = 4 ∷ 6 ∷ [] }) ∷ (record { weight = 1; accesses = 4 ∷ 7 ∷ [] }) ∷ (record { weight = 1; accesses = 5 ∷ 6 ∷ [] }) ∷ (record { weight = 1; accesses = 5 ∷ 7 ∷ [] }) ∷ (record { weight = 1; accesses = 6 ∷ 7 ∷ [] }) ∷ [] }

eight_on_one : search_answer 1 pairs_of_eight 200000 ≡ Certified ((6 ∷ 4 ∷ 2 ∷ 0 ∷ 1 ∷ 3 ∷ 5 ∷ 7 ∷ []) ∷ []) 49 (Branched ∷ Closed ∷ Closed ∷ Closed ∷ Closed ∷ Closed ∷ Closed ∷ Closed ∷ Closed ∷ [])
eight_on_one = refl

-- each two of six scalars: a register more doesn't pay
abbrev pairs_of_six : Sequence
pairs_of_six = record { scalars = 6; step = 1; blocks = (record { weight = 1; accesses = 0 ∷ 1 ∷ [] }) ∷ (record { weight = 1; accesses = 0 ∷ 2 ∷ [] }) ∷ (record { weight = 1; accesses = 0 ∷ 3 ∷ [] }) ∷ (record { weight = 1; accesses = 0 ∷ 4 ∷ [] }) ∷ (record { weight = 1; accesses = 0 ∷ 5 ∷ [] }) ∷ (record { weight = 1; accesses = 1 ∷ 2 ∷ [] }) ∷ (record { weight = 1; accesses = 1 ∷ 3 ∷ [] }) ∷ (record { weight = 1; accesses = 1 ∷ 4 ∷ [] }) ∷ (record { weight = 1; accesses = 1 ∷ 5 ∷ [] }) ∷ (record { weight = 1; accesses = 2 ∷ 3 ∷ [] }) ∷ (record { weight = 1; accesses = 2 ∷ 4 ∷ [] }) ∷ (record { weight = 1; accesses = 2 ∷ 5 ∷ [] }) ∷ (record { weight = 1; accesses = 3 ∷ 4 ∷ [] }) ∷ (record { weight = 1; accesses = 3 ∷ 5 ∷ [] }) ∷ (record { weight = 1; accesses = 4 ∷ 5 ∷ [] }) ∷ [] }

start_of_six : starting_lists 4 pairs_of_six ≡ (4 ∷ 2 ∷ 0 ∷ 1 ∷ 3 ∷ 5 ∷ []) ∷ []
start_of_six = refl

-- a scalar beside nineteen others: a piece may write one mark
abbrev star : Sequence
star = record { scalars = 20; step = 1; blocks = (record { weight = 1; accesses = 0 ∷ 1 ∷ 0 ∷ 2 ∷ 0 ∷ 3 ∷ 0 ∷ 4 ∷ 0 ∷ 5 ∷ 0 ∷ 6 ∷ 0 ∷ 7 ∷ 0 ∷ 8 ∷ 0 ∷ 9 ∷ 0 ∷ 10 ∷ 0 ∷ 11 ∷ 0 ∷ 12 ∷ 0 ∷ 13 ∷ 0 ∷ 14 ∷ 0 ∷ 15 ∷ 0 ∷ 16 ∷ 0 ∷ 17 ∷ 0 ∷ 18 ∷ 0 ∷ 19 ∷ [] }) ∷ [] }

twenty_on_one : search_answer 1 star 20 ≡ Exhausted ((1 ∷ 0 ∷ 2 ∷ 3 ∷ 4 ∷ 5 ∷ 6 ∷ 7 ∷ 8 ∷ 9 ∷ 10 ∷ 11 ∷ 12 ∷ 13 ∷ 14 ∷ 15 ∷ 16 ∷ 17 ∷ 18 ∷ 19 ∷ []) ∷ []) 34 0 1 (Branched ∷ [])
twenty_on_one = refl

-- no scalars
abbrev nothing : Sequence
nothing = record { scalars = 0; step = 1; blocks = [] }

nothing_to_search : search_answer 2 nothing 200000 ≡ Certified ([]) 0 (Closed ∷ [])
nothing_to_search = refl
