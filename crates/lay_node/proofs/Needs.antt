-- Which weights are kept.
use Rattle.std.proofs.Common.{◌≡◌, ℕ, suc, ◌+◌, ◌-◌, ◌<◌, ◌≤◌, Bool, true, false, cond, not, ◌||◌, length, refl, ap, sym, ◌∙◌, arith, lt-ltb}
use Rattle.std.specs.Prelude.{nat_lt}
use Rattle.std.proofs.lemmas.Bool.{both_ways}
use Rattle.lay_model.specs.Sequences.{Sequence}
use Rattle.lay_cost.specs.Parts.{Node}
use Rattle.lay_tree.specs.Tree.{has_closes_left}
use Rattle.lay_node.specs.declared.kept.Kept.{Kept}
use Rattle.lay_node.specs.declared.level.Level.{Level}
use Rattle.lay_node.specs.Numbers.{needs_weights, needs_greatest, may_close, by_loads}
use Rattle.lay_node.specs.Positions.{IsLevel}

pub weights_below : (seq : Sequence) → seq.step ≡ 1 → needs_weights seq ≡ true
weights_below seq one = ap (λ s. not (nat_lt 1 s)) one

pub no_weights_above : (seq : Sequence) → 1 < seq.step → needs_weights seq ≡ false
no_weights_above seq lt = ap not (lt-ltb 1 seq.step lt)

pub greatest_weigh : (k : ℕ) (seq : Sequence) (n : Node) → needs_greatest k seq n ≡ true → needs_weights seq ≡ true
greatest_weigh k seq n e = by (has_closes_left k n) (nat_lt 1 seq.step) e
  where
    by : (a b : Bool) → not (a || b) ≡ true → not b ≡ true
    by true b is = absurd (both_ways false refl is)
    by false b is = is

pub no_greatest_above : (k : ℕ) (seq : Sequence) (n : Node) → needs_weights seq ≡ false → needs_greatest k seq n ≡ false
no_greatest_above k seq n e = by (has_closes_left k n) (nat_lt 1 seq.step) e
  where
    by : (a b : Bool) → not b ≡ false → not (a || b) ≡ false
    by true b is = refl
    by false b is = is

pub closes_left : (k : ℕ) (n : Node) (j : Kept) → j.closes ≡ length n.closed → may_close k j ≡ has_closes_left k n
closes_left k n j e =
    let more : j.closes + 1 ≡ suc (length n.closed) = omega (arith, e) in
    ap (λ m. nat_lt m k) more

pub loads_are : (k : ℕ) (seq : Sequence) (n : Node) (j : Kept) → j.closes ≡ length n.closed → not (by_loads k seq.step j) ≡ needs_greatest k seq n
loads_are k seq n j e = ap (λ b. not (b || nat_lt 1 seq.step)) (closes_left k n j e)

pub greatest_of_loads : (k : ℕ) (seq : Sequence) (n : Node) (j : Kept) (b c : Bool) → j.closes ≡ length n.closed → b ≡ by_loads k seq.step j → b ≡ c → needs_greatest k seq n ≡ not c
greatest_of_loads k seq n j b c e is test = sym (loads_are k seq n j e) ∙ ap not (sym is ∙ test)

pub greatest_of_may_close : (k : ℕ) (seq : Sequence) (n : Node) (j : Kept) (b c : Bool) → needs_weights seq ≡ true → j.closes ≡ length n.closed → b ≡ may_close k j → b ≡ c → needs_greatest k seq n ≡ not c
greatest_of_may_close k seq n j b c some e is test = by c (nat_lt 1 seq.step) some (sym (closes_left k n j e) ∙ sym is ∙ test)
  where
    by : (a d : Bool) → not d ≡ true → has_closes_left k n ≡ a → not (has_closes_left k n || d) ≡ not a
    by a true never left = absurd (both_ways false refl never)
    by true false _ left = ap (λ f. not (f || false)) left
    by false false _ left = ap (λ f. not (f || false)) left

-- all that may be asked for is there
pub all_found : (k : ℕ) (seq : Sequence) (n : Node) (l : Level) → needs_greatest k seq n ≡ true → IsLevel (needs_weights seq) (needs_greatest k seq n) seq n l → IsLevel true true seq n l
all_found k seq n l ranks level = record { weights = λ _. level.weights (greatest_weigh k seq n ranks); greatest = λ _. level.greatest ranks }

-- nothing is asked for
pub nothing_found : (seq : Sequence) (n : Node) (l : Level) → IsLevel false false seq n l
nothing_found seq n l = record { weights = λ e. absurd (both_ways false refl e); greatest = λ e. absurd (both_ways false refl e) }

-- a number that is kept or not
pub if_plus : (b : Bool) (x y z : ℕ) → x ≡ y + z → cond b x 0 ≡ cond b y 0 + cond b z 0
if_plus true x y z e = e
if_plus false x y z e = omega arith

pub if_minus : (b : Bool) (x y z : ℕ) → x ≡ y - z → cond b x 0 ≡ cond b y 0 - cond b z 0
if_minus true x y z e = e
if_minus false x y z e = omega arith

pub if_le : (b : Bool) (x y : ℕ) → x ≤ y → cond b x 0 ≤ y
if_le true x y le = le
if_le false x y le = omega arith

pub if_both_le : (b : Bool) (x y : ℕ) → x ≤ y → cond b x 0 ≤ cond b y 0
if_both_le true x y le = le
if_both_le false x y le = omega arith
