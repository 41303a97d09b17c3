-- Nodes whose scalars are below a number and stand there once each: what is kept of them is small, and what complete ones cost.
use Rattle.std.proofs.Common.{◌≡◌, ℕ, zero, suc, ◌+◌, ◌*◌, ◌-◌, ◌^◌, ◌<◌, ◌≤◌, Bool, true, false, cond, not, List, [], ◌∷◌, ◌++◌, filter, length, refl, ap, sym, subst, ◌∙◌, arith, ne_eqb, append-nil, lt-ltb}
use Rattle.std.specs.Prelude.{◌==◌, nat_lt, All, sum_by, count_by, if◌then◌else◌}
use Rattle.std.specs.List.{concat, range_with_len, list_any}
use Rattle.std.proofs.Math.Nat.{mul-le-mul_left}
use Rattle.std.proofs.lemmas.Bool.{both_ways, not_from_false}
use Rattle.std.proofs.lemmas.List.FromFn.{length-range_with_len, get_or-range_with_len}
use Rattle.std.proofs.lemmas.List.Elements.{All-head, All-tail, All-push, All-weaker}
use Rattle.std.proofs.lemmas.List.Folds.{concat-append}
use Rattle.std.proofs.lemmas.List.Sums.{sum_by-cons, sum_by-append, sum_by-le-sum_by, get_or-le-sum_by}
use Rattle.lay_model.specs.Sequences.{Sequence, Block, IsSequence, counted}
use Rattle.lay_model.specs.Arrangements.{Arranges}
use Rattle.lay_cost.specs.Placements.{has, placement_of}
use Rattle.lay_cost.specs.Cost.{arranged_cost, block_cost}
use Rattle.lay_cost.specs.Restricted.{loads}
use Rattle.lay_cost.specs.Parts.{Node, node_lists, part_cost_of, lists_of, IsString, StandOnce, AreMembers}
use Rattle.lay_cost.specs.Weights as costs
use Rattle.lay_cost.proofs.Bounds.{block_cost_le, kept_cost_le}
use Rattle.lay_cost.proofs.Pairs.{load_le}
use Rattle.lay_cost.proofs.Adding.{part_by_blocks, apart_from}
use Rattle.lay_cost.proofs.Arranged.{part_of_all, back_of, scalar_there}
use Rattle.lay_cost.proofs.Counts.{count_below, count_all, is_there}
use Rattle.lay_cost.proofs.LastList.{last_list_costs}
use Rattle.lay_cost.proofs.Listed.{counted as has_counted}
use Rattle.lay_cost.proofs.Rising.{all_has}
use Rattle.lay_tree.specs.Tree.{with_scalar, unplaced, all_scalars, is_complete, is_empty}
use Rattle.lay_tree.specs.Bound.{is_outside, weight_outside, sum_of_adjacent, sum_of_pairs, paid_outside}
use Rattle.lay_node.specs.declared.kept.Kept.{Kept}
use Rattle.lay_node.specs.Numbers.{needs_weights, needs_greatest, kept_found, kept_at, most_beside, AreSmall}
use Rattle.lay_node.specs.Strings.{node_of}
use Rattle.lay_node.proofs.Sizes.{one_if, weights_small, greatest_small, pairs_small, sum_filter_le, count_in_range}
use Rattle.lay_node.proofs.Unplaced.{minus, sum_minus, count_kept}
use Rattle.lay_node.proofs.Needs.{weights_below, if_le}
use Rattle.lay_node.proofs.Children.{count_unplaced, child_kept}
use Rattle.lay_node.proofs.Agreeing.{paid_is}
use Rattle.lay_node.proofs.Strung.{lists_are}

pub record IsProper (n : ℕ) (node : Node) : Type 0 where
  pub few : All (λ s. s < n) (concat (node_lists node))
  pub once : StandOnce (concat (node_lists node))

pub proper_string : (n : ℕ) (string : List ℕ) → IsString n string → IsProper n (node_of string)
proper_string n string h = record {
  few = subst (λ ls. All (λ s. s < n) (concat ls)) (lists_are string) h.few;
  once = subst (λ ls. StandOnce (concat ls)) (lists_are string) h.once;
}

pub parted : (node : Node) → concat (node_lists node) ≡ concat node.closed ++ node.open_list
parted node = concat-append node.closed (node.open_list ∷ []) ∙ ap (λ l. concat node.closed ++ l) (append-nil node.open_list)

pub open_few : (n : ℕ) (node : Node) → IsProper n node → All (λ s. s < n) node.open_list
open_few n node h = back_of (λ s. s < n) (concat node.closed) node.open_list (subst (λ xs. All (λ s. s < n) xs) (parted node) h.few)

pub open_once : (n : ℕ) (node : Node) → IsProper n node → StandOnce node.open_list
open_once n node h s =
    let all : count_by (λ t. t == s) (concat node.closed ++ node.open_list) ≤ 1 = subst (λ xs. count_by (λ t. t == s) xs ≤ 1) (parted node) (h.once s) in
    omega (arith, all, sum_by-append (λ t. cond (t == s) 1 0) (concat node.closed) node.open_list)

-- sums over different numbers
at_least_once : (c a : ℕ) → 1 ≤ c → a ≤ c * a
at_least_once zero a h = absurd (omega (arith, h))
at_least_once (suc c) a h = omega arith

count_minus : (s x : ℕ) (ys : List ℕ) → (x ≡ s → ⊥) → count_by (λ t. t == s) (minus x ys) ≡ count_by (λ t. t == s) ys
count_minus s x ys differ =
    let none : bit (x == s) ≡ bit false = ap bit (ne_eqb x s differ) in
    let product : count_by (λ t. t == x) ys * bit (x == s) ≡ 0 = ap (λ b. count_by (λ t. t == x) ys * b) none ∙ zeroes (count_by (λ t. t == x) ys) in
    omega (arith, sum_minus (λ t. cond (t == s) 1 0) x ys, product)
  where
    bit : Bool → ℕ
    bit b = cond b 1 0

    zeroes : (a : ℕ) → a * 0 ≡ 0
    zeroes a = omega arith

pub once_within : (f : ℕ → ℕ) (xs ys : List ℕ) → StandOnce xs → ((s : ℕ) → has xs s ≡ true → 1 ≤ count_by (λ t. t == s) ys) → sum_by f xs ≤ sum_by f ys
once_within f [] ys once inside = omega arith
once_within f (x ∷ xs) ys once inside =
    let here : 1 ≤ count_by (λ t. t == x) ys = inside x (first x xs) in
    let rest = once_within f xs (minus x ys) (λ s. omega (arith, once s, sum_by-cons (λ t. cond (t == s) 1 0) x xs)) (λ s e. subst (λ c. 1 ≤ c) (sym (count_minus s x ys (other s e))) (inside s (later s e))) in
    omega (arith, sum_by-cons f x xs, sum_minus f x ys, at_least_once (count_by (λ t. t == x) ys) (f x) here, rest)
  where
    one : (b : Bool) → b ≡ true → one_if b ≡ 1
    one true e = refl
    one false e = absurd (both_ways false refl e)

    same : (a : ℕ) → (a == a) ≡ true
    same a = Rattle.std.proofs.Common.eq-eqb a a refl

    first : (a : ℕ) (l : List ℕ) → has (a ∷ l) a ≡ true
    first a l = ap (λ b. Rattle.std.specs.Prelude.◌||◌ b (has l a)) (same a)

    later : (s : ℕ) → has xs s ≡ true → has (x ∷ xs) s ≡ true
    later s e = either (x == s) (has xs s) e
      where
        either : (a b : Bool) → b ≡ true → Rattle.std.specs.Prelude.◌||◌ a b ≡ true
        either true b e2 = refl
        either false b e2 = e2

    other : (s : ℕ) → has xs s ≡ true → x ≡ s → ⊥
    other s e is = absurd (omega (arith, once s, sum_by-cons (λ t. cond (t == s) 1 0) x xs, one (x == s) (ap (λ a. a == s) is ∙ same s), has_counted xs s e))

one_of_range : (f : ℕ → ℕ) (y n : ℕ) → y < n → f y ≤ sum_by f (range_with_len 0 n)
one_of_range f y n lt =
    let at : Rattle.std.proofs.Common.get_or (range_with_len 0 n) y 0 ≡ y = get_or-range_with_len 0 n y 0 lt ∙ plain y in
    subst (λ z. f z ≤ sum_by f (range_with_len 0 n)) at (get_or-le-sum_by f (range_with_len 0 n) y 0 (omega (arith, lt, length-range_with_len 0 n)))
  where
    plain : (a : ℕ) → 0 + a ≡ a
    plain a = omega arith

adjacent_le : (w : ℕ → ℕ → ℕ) (n : ℕ) (xs : List ℕ) → All (λ s. s < n) xs → sum_of_adjacent w xs ≤ sum_by (λ x. sum_by (w x) (range_with_len 0 n)) xs
adjacent_le w n [] all = omega arith
adjacent_le w n (x ∷ []) all = omega arith
adjacent_le w n (x ∷ y ∷ ys) all =
    let rest = All-tail (λ s. s < n) x (y ∷ ys) all in
    omega (arith, one_of_range (w x) y n (All-head (λ s. s < n) y ys rest), adjacent_le w n (y ∷ ys) rest, sum_by-cons (λ z. sum_by (w z) (range_with_len 0 n)) x (y ∷ ys))

pub in_range : (s n : ℕ) → s < n → 1 ≤ count_by (λ t. t == s) (range_with_len 0 n)
in_range s n lt = omega (arith, count_kept (λ t. true) s 0 n refl (omega arith) (omega (arith, lt)), sum_filter_le (λ t. cond (t == s) 1 0) (λ t. true) (range_with_len 0 n))

saved_small : (seq : Sequence) (node : Node) → IsSequence seq → IsProper seq.scalars node → sum_of_adjacent (weight_outside seq node) node.open_list ≤ 2 ^ 61
saved_small seq node h proper =
    let w = weight_outside seq node in
    let n = seq.scalars in
    let few = open_few n node proper in
    let within = once_within (λ x. sum_by (w x) (range_with_len 0 n)) node.open_list (range_with_len 0 n) (open_once n node proper) (λ s e. in_range s n (all_has (λ t. t < n) node.open_list s few e)) in
    omega (arith, adjacent_le w n node.open_list few, within, weights_small seq (is_outside node) h)

-- the other numbers
parts_small : (step : ℕ) (ls : List (List ℕ)) (bs : List Block) → sum_by (λ b. b.weight * block_cost step (placement_of ls) (filter (has (concat ls)) b.accesses)) bs ≤ sum_by counted bs
parts_small step ls bs = sum_by-le-sum_by (λ b. b.weight * block_cost step (placement_of ls) (filter (has (concat ls)) b.accesses)) counted bs (λ b. mul-le-mul_left b.weight (kept_cost_le step (placement_of ls) (has (concat ls)) b.accesses))

pub part_small : (seq : Sequence) (ls : List (List ℕ)) → IsSequence seq → part_cost_of seq ls ≤ 2 ^ 60
part_small seq ls h = omega (arith, part_by_blocks seq ls, parts_small seq.step ls seq.blocks, h.countable)

pub cost_small : (seq : Sequence) (ls : List (List ℕ)) → IsSequence seq → arranged_cost seq ls ≤ 2 ^ 60
cost_small seq ls h = omega (arith, h.countable, sum_by-le-sum_by (λ b. b.weight * block_cost seq.step (placement_of ls) b.accesses) counted seq.blocks (λ b. mul-le-mul_left b.weight (block_cost_le seq.step (placement_of ls) b.accesses)))

pub loads_small : (seq : Sequence) (set : ℕ → Bool) → IsSequence seq → loads seq set ≤ 2 ^ 60
loads_small seq set h = omega (arith, h.countable, sum_by-le-sum_by (λ b. if list_any set b.accesses then b.weight else 0) counted seq.blocks (λ b. load_le set b.weight b.accesses))

pub paid_small : (seq : Sequence) (node : Node) → IsSequence seq → paid_outside seq node ≤ 2 ^ 61
paid_small seq node h = omega (arith, paid_is seq node, pairs_small (weight_outside seq node) seq.scalars, weights_small seq (is_outside node) h)

pub found_small : (weighs ranks : Bool) (seq : Sequence) (node : Node) → IsSequence seq → IsProper seq.scalars node → AreSmall (kept_found weighs ranks seq node)
found_small weighs ranks seq node h proper = record {
  closed = part_small seq node.closed h;
  loads = loads_small seq (is_outside node) h;
  paid = if_le weighs (paid_outside seq node) (2 ^ 61) (paid_small seq node h);
  saved = if_le weighs (sum_of_adjacent (weight_outside seq node) node.open_list) (2 ^ 61) (saved_small seq node h proper);
  greatest = if_le ranks (sum_by (most_beside seq node) (unplaced seq node)) (2 ^ 61) (omega (arith, greatest_small (weight_outside seq node) (λ s. not (has (concat (node_lists node)) s)) seq.scalars, weights_small seq (is_outside node) h));
}

pub child_small : (k : ℕ) (seq : Sequence) (node : Node) (s : ℕ) → IsSequence seq → IsProper seq.scalars node → IsProper seq.scalars (with_scalar node s) → s < seq.scalars → has (concat (node_lists node)) s ≡ false → AreSmall (kept_at k seq (with_scalar node s))
child_small k seq node s h proper child lt e =
    let small = found_small (needs_weights seq) (needs_greatest k seq node) seq node h proper in
    record {
      closed = small.closed;
      loads = small.loads;
      paid = small.paid;
      saved = if_le (needs_weights seq) (sum_of_adjacent (weight_outside seq (with_scalar node s)) (with_scalar node s).open_list) (2 ^ 61) (saved_small seq (with_scalar node s) h child);
      greatest = omega (arith, small.greatest, ap (λ (j : Kept). j.greatest) (child_kept k seq node s lt e));
    }

-- a complete node
none_there : (xs : List ℕ) (s : ℕ) → is_empty xs ≡ true → count_by (λ t. t == s) xs ≡ 0
none_there [] s e = refl
none_there (x ∷ xs) s e = absurd (both_ways false refl e)

pub complete_has : (seq : Sequence) (node : Node) (s : ℕ) → is_complete seq node ≡ true → s < seq.scalars → has (concat (node_lists node)) s ≡ true
complete_has seq node s e lt = by (has (concat (node_lists node)) s) refl
  where
    by : (b : Bool) → has (concat (node_lists node)) s ≡ b → has (concat (node_lists node)) s ≡ true
    by true is = is
    by false is = absurd (omega (arith, count_unplaced seq node s lt is, none_there (unplaced seq node) s e))

pub complete_arranges : (seq : Sequence) (node : Node) → seq.scalars ≤ 64 → IsProper seq.scalars node → All (λ l. 1 ≤ length l) node.closed → 1 ≤ length node.open_list → is_complete seq node ≡ true → Arranges seq.scalars (node_lists node)
complete_arranges seq node few proper closed open_some e =
    let xs = concat (node_lists node) in
    let once : (s : ℕ) → s < seq.scalars → count_by (λ t. t == s) xs ≡ 1 = λ s lt. omega (arith, proper.once s, has_counted xs s (complete_has seq node s e lt)) in
    let below = All-weaker (λ s. s < seq.scalars) (λ s. nat_lt s seq.scalars ≡ true) (λ s lt. lt-ltb s seq.scalars lt) xs proper.few in
    record {
      few = few;
      some = All-push (λ l. 1 ≤ length l) node.closed node.open_list closed open_some;
      all = sym (count_all (λ s. nat_lt s seq.scalars) xs below) ∙ count_below seq.scalars xs once;
      once = once;
    }

same_pairs : (w : ℕ → ℕ → ℕ) (xs : List ℕ) → costs.sum_of_pairs w xs ≡ sum_of_pairs w xs
same_pairs w [] = refl
same_pairs w (x ∷ xs) = ap (λ a. sum_by (w x) xs + a) (same_pairs w xs)

same_adjacent : (w : ℕ → ℕ → ℕ) (xs : List ℕ) → costs.sum_of_adjacent w xs ≡ sum_of_adjacent w xs
same_adjacent w [] = refl
same_adjacent w (x ∷ []) = refl
same_adjacent w (x ∷ y ∷ ys) = ap (λ a. w x y + a) (same_adjacent w (y ∷ ys))

open_members : (seq : Sequence) (node : Node) → IsProper seq.scalars node → AreMembers node.open_list (filter (is_outside node) (all_scalars seq))
open_members seq node proper = record {
  once = open_once seq.scalars node proper;
  members_once = λ s. omega (arith, sum_filter_le (λ t. cond (t == s) 1 0) (is_outside node) (all_scalars seq), count_in_range s 0 seq.scalars);
  members_have = λ s e. is_there s (filter (is_outside node) (all_scalars seq)) (omega (arith, count_kept (is_outside node) s 0 seq.scalars (out s e (has (concat node.closed) s) refl) (omega arith) (omega (arith, all_has (λ t. t < seq.scalars) node.open_list s (open_few seq.scalars node proper) e))));
}
  where
    out : (s : ℕ) → has node.open_list s ≡ true → (b : Bool) → has (concat node.closed) s ≡ b → is_outside node s ≡ true
    out s e false is = not_from_false (has (concat node.closed) s) is
    out s e true is = absurd (both_ways (has node.open_list s) (ap (λ l. has l s) (sym (append-nil node.open_list)) ∙ apart_from node.closed (node.open_list ∷ []) s proper.once is) e)

-- at a step of 1
pub complete_cost : (k : ℕ) (seq : Sequence) (node : Node) → IsSequence seq → seq.step ≡ 1 → IsProper seq.scalars node → Arranges seq.scalars (node_lists node)
    → arranged_cost seq (node_lists node) + (kept_at k seq node).saved ≡ (kept_at k seq node).closed + (kept_at k seq node).loads + (kept_at k seq node).paid
complete_cost k seq node h one proper arranges =
    let there = All-weaker (λ b. All (λ s. s < seq.scalars) b.accesses) (λ b. All (λ s. has (concat (node_lists node)) s ≡ true) b.accesses) (λ b all. All-weaker (λ s. s < seq.scalars) (λ s. has (concat (node_lists node)) s ≡ true) (λ s lt. scalar_there seq.scalars (node_lists node) s arranges lt) b.accesses all) seq.blocks h.scalars in
    let law = last_list_costs seq node.closed node.open_list (filter (is_outside node) (all_scalars seq)) one proper.once there (open_members seq node proper) in
    let some = weights_below seq one in
    let paid : (kept_at k seq node).paid ≡ paid_outside seq node = ap (λ b. cond b (paid_outside seq node) 0) some in
    let saved : (kept_at k seq node).saved ≡ sum_of_adjacent (weight_outside seq node) node.open_list = ap (λ b. cond b (sum_of_adjacent (weight_outside seq node) node.open_list) 0) some in
    omega (arith, law, paid, saved, same_pairs (weight_outside seq node) (filter (is_outside node) (all_scalars seq)), same_adjacent (weight_outside seq node) node.open_list)

pub complete_part : (seq : Sequence) (string : List ℕ) → IsSequence seq → Arranges seq.scalars (node_lists (node_of string)) → part_cost_of seq (lists_of string) ≡ arranged_cost seq (node_lists (node_of string))
complete_part seq string h arranges = ap (part_cost_of seq) (lists_are string) ∙ part_of_all seq (node_lists (node_of string)) h arranges
