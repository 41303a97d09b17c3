-- What a placement costs over a sequence (docs/LAYOUT.md, "Cost").
use Rattle.std.specs.Prelude.{◌≡◌, ◌≤◌, ℕ, ◌+◌, ◌*◌, nat_lt, nat_le, ◌==◌, ℤ, ◌-ℤ◌, nat_abs, Bool, false, ◌&&◌, ◌||◌, List, length, Option, Some, None, fold, sum_by, if◌then◌else◌}
use Rattle.lay_model.specs.Arrangements.{Arranges}
use Rattle.lay_model.specs.Sequences.{Sequence}
use Rattle.lay_cost.specs.Placements.{Placement, IsPlacement, placement_of}

-- how far two offsets are apart
abbrev pub distance : ℤ → ℤ → ℕ
distance a b = nat_abs (a -ℤ b)

-- a move so far is by exactly the step, which is above 1
abbrev pub is_by_step : ℕ → ℕ → Bool
is_by_step step far = nat_lt 1 step && (far == step)

-- behind an access a register moves by 1 at no cost, and by the step
abbrev pub move_cost : ℕ → ℕ → ℕ
move_cost step far = if nat_le far 1 || is_by_step step far then 0 else 1

-- what an access at an offset costs, by the last offset of its register in the block: the first one costs 1
abbrev pub access_cost : ℕ → Option ℤ → ℤ → ℕ
access_cost step None offset = 1
access_cost step (Some last) offset = move_cost step (distance last offset)

-- whether the move to it is by exactly the step
abbrev pub steps : ℕ → Option ℤ → ℤ → Bool
steps step None offset = false
steps step (Some last) offset = is_by_step step (distance last offset)

-- what is kept along a block: the last offset of each register, whether a move by exactly the step was made, and what the accesses cost
pub record Tally : Type 0 where
  pub last : ℕ → Option ℤ
  pub stepped : Bool
  pub paid : ℕ

abbrev pub no_access : Tally
no_access = record { last = λ register. None; stepped = false; paid = 0 }

-- behind one more access, at an offset of a register
abbrev pub tally_behind : ℕ → Tally → ℕ → ℤ → Tally
tally_behind step t register offset = record {
  last = λ r. if r == register then Some offset else t.last r;
  stepped = t.stepped || steps step (t.last register) offset;
  paid = t.paid + access_cost step (t.last register) offset;
}

abbrev pub with_access : ℕ → Placement → Tally → ℕ → Tally
with_access step p t s = tally_behind step t (p.register s) (p.offset s)

-- loading the step costs 1
abbrev pub with_step_load : Tally → ℕ
with_step_load t = t.paid + (if t.stepped then 1 else 0)

abbrev pub block_cost : ℕ → Placement → List ℕ → ℕ
block_cost step p accesses = with_step_load (fold (with_access step p) no_access accesses)

-- a block counts so often as its weight says
abbrev pub cost_of : Sequence → Placement → ℕ
cost_of seq p = sum_by (λ b. b.weight * block_cost seq.step p b.accesses) seq.blocks

-- what lists cost, each on a register of its own
abbrev pub arranged_cost : Sequence → List (List ℕ) → ℕ
arranged_cost seq lists = cost_of seq (placement_of lists)

-- c is what the best placement over k registers costs
pub record Least (seq : Sequence) (k c : ℕ) : Type 0 where
  pub placement : Placement
  pub places : IsPlacement seq k placement
  pub costs : cost_of seq placement ≡ c
  pub least : (p : Placement) → IsPlacement seq k p → c ≤ cost_of seq p

-- lists of the scalars, for at most k registers
pub record IsArranged (seq : Sequence) (k : ℕ) (lists : List (List ℕ)) : Type 0 where
  pub arranges : Arranges seq.scalars lists
  pub few : length lists ≤ k

-- c is what the best lists for at most k registers cost
pub record LeastArranged (seq : Sequence) (k c : ℕ) : Type 0 where
  pub lists : List (List ℕ)
  pub arranged : IsArranged seq k lists
  pub costs : arranged_cost seq lists ≡ c
  pub least : (others : List (List ℕ)) → IsArranged seq k others → c ≤ arranged_cost seq others

-- lists that cost no more than a placement
pub record ClosesUp (seq : Sequence) (k : ℕ) (p : Placement) : Type 0 where
  pub lists : List (List ℕ)
  pub arranged : IsArranged seq k lists
  pub no_dearer : arranged_cost seq lists ≤ cost_of seq p
