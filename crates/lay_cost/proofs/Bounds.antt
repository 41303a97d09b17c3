-- A block costs one for each access at most, and at a step above 1 no more than at 1.
use Rattle.std.proofs.Common.{◌≡◌, ℕ, ◌+◌, ◌*◌, ◌≤◌, Bool, true, false, ◌||◌, nat_le, ◌==◌, ℤ, List, [], ◌∷◌, length, Option, Some, None, fold, filter, sum_by, refl, ap, arith, if◌then◌else◌, le_refl, true≢false}
use Rattle.std.proofs.Math.Nat.{mul-le-mul_left}
use Rattle.std.proofs.lemmas.Bool.Decides.{nat_tests}
use Rattle.std.proofs.lemmas.List.Sums.{sum_by-le-sum_by, length-filter, count_by-le-length}
use Rattle.std.proofs.lemmas.List.Folds.{fold-map}
use Rattle.lay_cost.specs.Restricted.{restricted, restricted_block}
use Rattle.lay_model.specs.Sequences.{Sequence}
use Rattle.lay_cost.specs.Placements.{Placement}
use Rattle.lay_cost.specs.Cost.{Tally, access_cost, is_by_step, distance, steps, no_access, tally_behind, with_access, with_step_load, block_cost, cost_of}

-- what is paid and loaded grows by one at most: a move by the step costs nothing itself
one_more : (near step stepped : Bool) (paid : ℕ) → paid + (if near || step then 0 else 1) + (if stepped || step then 1 else 0) ≤ paid + (if stepped then 1 else 0) + 1
one_more true true true paid = omega arith
one_more true true false paid = omega arith
one_more true false true paid = omega arith
one_more true false false paid = omega arith
one_more false true true paid = omega arith
one_more false true false paid = omega arith
one_more false false true paid = omega arith
one_more false false false paid = omega arith

first_one : (stepped : Bool) (paid : ℕ) → paid + 1 + (if stepped || false then 1 else 0) ≤ paid + (if stepped then 1 else 0) + 1
first_one true paid = omega arith
first_one false paid = omega arith

one_access : (step : ℕ) (last : Option ℤ) (offset : ℤ) (stepped : Bool) (paid : ℕ) → paid + access_cost step last offset + (if stepped || steps step last offset then 1 else 0) ≤ paid + (if stepped then 1 else 0) + 1
one_access step None offset stepped paid = first_one stepped paid
one_access step (Some last) offset stepped paid = one_more (nat_le (distance last offset) 1) (is_by_step step (distance last offset)) stepped paid

tally_grows : (step : ℕ) (t : Tally) (register : ℕ) (offset : ℤ) → with_step_load (tally_behind step t register offset) ≤ with_step_load t + 1
tally_grows step t register offset = one_access step (t.last register) offset t.stepped t.paid

fold_le : (step : ℕ) (p : Placement) (t : Tally) (xs : List ℕ) → with_step_load (fold (with_access step p) t xs) ≤ with_step_load t + length xs
fold_le step p t [] = omega arith
fold_le step p t (x ∷ xs) = omega (arith, fold_le step p (with_access step p t x) xs, tally_grows step t (p.register x) (p.offset x))

-- one for each access at most
pub block_cost_le : (step : ℕ) (p : Placement) (xs : List ℕ) → block_cost step p xs ≤ length xs
block_cost_le step p xs = omega (arith, fold_le step p no_access xs)

-- at a step and at 1: the same last offsets, and what is paid at the step, with its load, is at most what is paid at 1
record NoDearer (t u : Tally) : Type 0 where
  last : t.last ≡ u.last
  plain : u.stepped ≡ false
  paid : with_step_load t ≤ u.paid

-- a move by 1 at most isn't by the step
not_by_step : (step far : ℕ) → nat_le far 1 ≡ true → is_by_step step far ≡ false
not_by_step step far near = grind (arith, nat_tests)

one_move : (near by stepped : Bool) (paid other : ℕ) → (near ≡ true → by ≡ false) → paid + (if stepped then 1 else 0) ≤ other → paid + (if near || by then 0 else 1) + (if stepped || by then 1 else 0) ≤ other + (if near || false then 0 else 1)
one_move true true stepped paid other apart h = absurd (true≢false (apart refl))
one_move true false true paid other apart h = omega (arith, h)
one_move true false false paid other apart h = omega (arith, h)
one_move false true true paid other apart h = omega (arith, h)
one_move false true false paid other apart h = omega (arith, h)
one_move false false true paid other apart h = omega (arith, h)
one_move false false false paid other apart h = omega (arith, h)

first_move : (stepped : Bool) (paid other : ℕ) → paid + (if stepped then 1 else 0) ≤ other → paid + 1 + (if stepped || false then 1 else 0) ≤ other + 1
first_move true paid other h = omega (arith, h)
first_move false paid other h = omega (arith, h)

no_dearer_access : (step : ℕ) (last : Option ℤ) (offset : ℤ) (stepped : Bool) (paid other : ℕ) → paid + (if stepped then 1 else 0) ≤ other → paid + access_cost step last offset + (if stepped || steps step last offset then 1 else 0) ≤ other + access_cost 1 last offset
no_dearer_access step None offset stepped paid other h = first_move stepped paid other h
no_dearer_access step (Some last) offset stepped paid other h = let far = distance last offset in one_move (nat_le far 1) (is_by_step step far) stepped paid other (not_by_step step far) h

pub no_step_at_1 : (last : Option ℤ) (offset : ℤ) → steps 1 last offset ≡ false
no_step_at_1 None offset = refl
no_step_at_1 (Some last) offset = refl

no_dearer : (step : ℕ) (p : Placement) (t u : Tally) (s : ℕ) → NoDearer t u → NoDearer (with_access step p t s) (with_access 1 p u s)
no_dearer step p t u s h = record {
  last = ap (λ (l : ℕ → Option ℤ). (λ r. if r == p.register s then Some (p.offset s) else l r)) h.last;
  plain = rw (h.plain, no_step_at_1 (u.last (p.register s)) (p.offset s)) refl;
  paid = rw (← h.last) (no_dearer_access step (t.last (p.register s)) (p.offset s) t.stepped t.paid u.paid h.paid);
}

no_dearer_fold : (step : ℕ) (p : Placement) (t u : Tally) (xs : List ℕ) → NoDearer t u → NoDearer (fold (with_access step p) t xs) (fold (with_access 1 p) u xs)
no_dearer_fold step p t u [] h = h
no_dearer_fold step p t u (x ∷ xs) h = no_dearer_fold step p (with_access step p t x) (with_access 1 p u x) xs (no_dearer step p t u x h)

block_no_dearer : (step : ℕ) (p : Placement) (xs : List ℕ) → block_cost step p xs ≤ block_cost 1 p xs
block_no_dearer step p xs = let h = no_dearer_fold step p no_access no_access xs (record { last = refl; plain = refl; paid = le_refl 0 }) in omega (arith, h.paid)

-- at a step above 1 no placement costs more than at 1
pub no_dearer_at_a_step : (seq : Sequence) (p : Placement) → cost_of seq p ≤ cost_of (record { scalars = seq.scalars; step = 1; blocks = seq.blocks }) p
no_dearer_at_a_step seq p = sum_by-le-sum_by (λ b. b.weight * block_cost seq.step p b.accesses) (λ b. b.weight * block_cost 1 p b.accesses) seq.blocks (λ b. mul-le-mul_left b.weight (block_no_dearer seq.step p b.accesses))

length_filter_le : (set : ℕ → Bool) (xs : List ℕ) → length (filter set xs) ≤ length xs
length_filter_le set xs = omega (arith, length-filter set xs, count_by-le-length set xs)

-- one for each access at most, also where some are left out
pub kept_cost_le : (step : ℕ) (p : Placement) (set : ℕ → Bool) (xs : List ℕ) → block_cost step p (filter set xs) ≤ length xs
kept_cost_le step p set xs = omega (arith, block_cost_le step p (filter set xs), length_filter_le set xs)

-- the cost over a restricted sequence, by the blocks of the whole one
pub cost_of_restricted : (seq : Sequence) (set : ℕ → Bool) (p : Placement) → cost_of (restricted seq set) p ≡ sum_by (λ b. b.weight * block_cost seq.step p (filter set b.accesses)) seq.blocks
cost_of_restricted seq set p = fold-map (λ a b. a + b.weight * block_cost seq.step p b.accesses) (restricted_block set) 0 seq.blocks
