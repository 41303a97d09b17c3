-- What conditions weigh: what asks, and both parts, of which one may stand twice where it is short.
use Rattle.std.proofs.Common.{◌≡◌, ℕ, ◌+◌, ◌≤◌, Bool, true, false, refl, arith}
use Rattle.std.specs.Prelude.{not, if◌then◌else◌}
use Rattle.acc_code.specs.AccTree.{If, ItemList, end, ◌▸◌}
use Rattle.acc_code.specs.declared.operation.Test.{Test}
use Rattle.acc_code.specs.declared.operation.Test.TheVariants.{Nz}
use Rattle.acc_select.specs.acc_operations.Comparisons.{Compared}
use Rattle.acc_select.specs.acc_operations.Kinds.{in_sense}
use Rattle.acc_select.specs.acc_operations.Words.{Word, load_clean}
use Rattle.acc_select.specs.Conditions.{Part, Nothing, One, Null, Breaks, Continues, Runs, part_items, is_short, Branch, tested, by_comparison, clean_items, by_word, truth_items, where_both, where_either, by_number, joined, and_branch, or_branch}
use Rattle.ir_semantics.specs.Weights.{items_weight}
use Rattle.size_proof.proofs.Weighing.{Weighs, weight_of, WordWeighs, load_clean_weighs}

abbrev pub part_weight : Part → ℕ
part_weight p = items_weight (part_items p)

-- a branch weighs so much beside its parts
abbrev pub BranchWeighs : Branch → ℕ → Type 0
BranchWeighs b n = (sense : Bool) (hit miss : Part) → items_weight (b sense hit miss) ≤ n + (part_weight hit + part_weight miss)

pub tested_weighs : (xs : ItemList) (t : Test) (n : ℕ) → Weighs xs n → BranchWeighs (tested xs t) (n + 4)
tested_weighs xs t n h sense hit miss = let e = weight_of xs (If (in_sense sense t) (part_items hit) (part_items miss) ▸ end) in omega (arith, e, h)

pub by_comparison_weighs : (c : Compared) (n : ℕ) → Weighs c.items n → BranchWeighs (by_comparison c) (n + 4)
by_comparison_weighs c n h = tested_weighs c.items c.test n h

pub clean_items_weigh : (w : Word) (n : ℕ) → WordWeighs w n → Weighs (clean_items w) (n + 2)
clean_items_weigh w n h = let e = weight_of w.items (load_clean w.found) in let l = load_clean_weighs w.found in omega (arith, e, l, h)

pub by_word_weighs : (w : Word) (n : ℕ) → WordWeighs w n → BranchWeighs (by_word w) (n + 6)
by_word_weighs w n h sense hit miss = let k = tested_weighs (clean_items w) Nz (n + 2) (clean_items_weigh w n h) sense hit miss in omega (arith, k)

short_weighs : (p : Part) → is_short p ≡ true → part_weight p ≤ 2
short_weighs Nothing is = omega arith
short_weighs One is = omega arith
short_weighs Null is = omega arith
short_weighs Breaks is = omega arith
short_weighs Continues is = omega arith
short_weighs (Runs items) is = absurd cc

module _ (a b : Branch) (n m : ℕ) (ha : BranchWeighs a n) (hb : BranchWeighs b m) where
  both_weigh : (sense : Bool) (hit miss : Part) → items_weight (where_both sense a b hit miss) ≤ n + m + (part_weight hit + part_weight miss + part_weight miss)
  both_weigh sense hit miss = let h = ha sense (Runs (b sense hit miss)) miss in let k = hb sense hit miss in omega (arith, h, k)

  either_weigh : (sense : Bool) (hit miss : Part) → items_weight (where_either sense a b hit miss) ≤ n + m + (part_weight hit + part_weight hit + part_weight miss)
  either_weigh sense hit miss = let h = ha sense hit (Runs (b sense hit miss)) in let k = hb sense hit miss in omega (arith, h, k)

  joined_weighs : (sense : Bool) → Weighs (joined sense a b) (n + m + 6)
  joined_weighs true = let h = both_weigh true One Null in omega (arith, h)
  joined_weighs false = let h = either_weigh true One Null in omega (arith, h)

  needs_both_by : (t : Bool) (sense : Bool) (hit miss : Part) → is_short miss ≡ t
      → items_weight (if t then where_both sense a b hit miss else by_number (joined sense a b) sense hit miss) ≤ (n + m + 10) + (part_weight hit + part_weight miss)
  needs_both_by true sense hit miss is = let h = both_weigh sense hit miss in let k = short_weighs miss is in omega (arith, h, k)
  needs_both_by false sense hit miss is = let h = tested_weighs (joined sense a b) Nz (n + m + 6) (joined_weighs sense) sense hit miss in omega (arith, h)

  needs_either_by : (t : Bool) (sense : Bool) (hit miss : Part) → is_short hit ≡ t
      → items_weight (if t then where_either sense a b hit miss else by_number (joined (not sense) a b) sense hit miss) ≤ (n + m + 10) + (part_weight hit + part_weight miss)
  needs_either_by true sense hit miss is = let h = either_weigh sense hit miss in let k = short_weighs hit is in omega (arith, h, k)
  needs_either_by false sense hit miss is = let h = tested_weighs (joined (not sense) a b) Nz (n + m + 6) (joined_weighs (not sense)) sense hit miss in omega (arith, h)

  pub and_weighs : BranchWeighs (and_branch a b) (n + m + 10)
  and_weighs true hit miss = needs_both_by (is_short miss) true hit miss refl
  and_weighs false hit miss = needs_either_by (is_short hit) false hit miss refl

  pub or_weighs : BranchWeighs (or_branch a b) (n + m + 10)
  or_weighs true hit miss = needs_either_by (is_short hit) true hit miss refl
  or_weighs false hit miss = needs_both_by (is_short miss) false hit miss refl

  -- as a number, and where nothing is done: then short parts stand twice
  pub and_number : Weighs (truth_items (and_branch a b)) (n + m + 6)
  and_number = let h = both_weigh true One Null in omega (arith, h)

  pub or_number : Weighs (truth_items (or_branch a b)) (n + m + 6)
  or_number = let h = either_weigh true One Null in omega (arith, h)

  pub and_nothing : Weighs (and_branch a b true Nothing Nothing) (n + m)
  and_nothing = let h = both_weigh true Nothing Nothing in omega (arith, h)

  pub or_nothing : Weighs (or_branch a b true Nothing Nothing) (n + m)
  or_nothing = let h = either_weigh true Nothing Nothing in omega (arith, h)
