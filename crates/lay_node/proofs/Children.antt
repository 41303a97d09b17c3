-- What is kept of a child, and whether its bound reaches a cost.
use Rattle.std.proofs.Common.{◌≡◌, ℕ, ◌+◌, ◌*◌, ◌-◌, ◌<◌, ◌≤◌, Bool, true, false, cond, not, List, [], ◌∷◌, ◌++◌, map, length, refl, ap, ap₂, sym, ◌∙◌, arith, append-nil}
use Rattle.std.specs.Prelude.{◌==◌, ◌||◌, nat_le, nat_lt, pos, ◌+ℤ◌, ◌-ℤ◌, sum_by, count_by, Option, Some}
use Rattle.std.specs.List.{concat}
use Rattle.std.proofs.lemmas.Bool.{not_from_false}
use Rattle.std.proofs.lemmas.Bool.Decides.{nat_tests}
use Rattle.std.proofs.lemmas.Int.{ints}
use Rattle.std.proofs.lemmas.List.Sums.{sum_by-le-sum_by}
use Rattle.lay_model.specs.Sequences.{Sequence}
use Rattle.lay_cost.specs.Placements.{has}
use Rattle.lay_cost.specs.Parts.{Node, node_lists, part_cost_of}
use Rattle.lay_cost.proofs.Counts.{is_there}
use Rattle.lay_tree.specs.Tree.{with_scalar, unplaced, is_complete, has_closes_left}
use Rattle.lay_tree.specs.Bound.{weight_outside, sum_of_adjacent, greatest, last_of, most_saved, outside_loads, paid_outside, bound}
use Rattle.lay_tree.specs.Search.{reaches}
use Rattle.lay_node.specs.declared.kept.Kept.{Kept}
use Rattle.lay_node.specs.Levels.{beside_last}
use Rattle.lay_node.specs.Numbers.{last_scalar, most_beside, needs_weights, needs_greatest, kept_with, kept_found, kept_in, kept_at, next_kept, kept_reaches, kept_bound}
use Rattle.lay_node.proofs.Needs.{greatest_weigh, closes_left, if_plus, if_minus, if_both_le}
use Rattle.lay_node.proofs.Unplaced.{minus, unplaced_scalar, greatest_minus, greatest_back, sum_minus, length_minus, count_kept}

pub sum_same : {X : Type 0} (f g : X → ℕ) (xs : List X) → ((x : X) → f x ≡ g x) → sum_by f xs ≡ sum_by g xs
sum_same f g xs h = omega (arith, sum_by-le-sum_by f g xs (λ x. omega (arith, h x)), sum_by-le-sum_by g f xs (λ x. omega (arith, h x)))

pub adjacent_push : (w : ℕ → ℕ → ℕ) (xs : List ℕ) (s : ℕ) → sum_of_adjacent w (xs ++ (s ∷ [])) ≡ sum_of_adjacent w xs + beside_last w (last_scalar xs) s
adjacent_push w [] s = refl
adjacent_push w (x ∷ []) s = omega arith
adjacent_push w (x ∷ y ∷ ys) s = omega (arith, adjacent_push w (y ∷ ys) s)

pub last_push : (xs : List ℕ) (s : ℕ) → last_scalar (xs ++ (s ∷ [])) ≡ Some s
last_push [] s = refl
last_push (x ∷ []) s = refl
last_push (x ∷ y ∷ ys) s = last_push (y ∷ ys) s

last_list_push : (xs : List ℕ) (s : ℕ) → last_of (xs ++ (s ∷ [])) ≡ s ∷ []
last_list_push [] s = refl
last_list_push (x ∷ []) s = refl
last_list_push (x ∷ y ∷ ys) s = last_list_push (y ∷ ys) s

-- a scalar that isn't placed
pub count_unplaced : (seq : Sequence) (n : Node) (s : ℕ) → s < seq.scalars → has (concat (node_lists n)) s ≡ false → count_by (λ t. t == s) (unplaced seq n) ≡ 1
count_unplaced seq n s lt e = count_kept (λ t. not (has (concat (node_lists n)) t)) s 0 seq.scalars (not_from_false (has (concat (node_lists n)) s) e) (omega arith) (omega (arith, lt))

pub has_unplaced : (seq : Sequence) (n : Node) (s : ℕ) → s < seq.scalars → has (concat (node_lists n)) s ≡ false → has (unplaced seq n) s ≡ true
has_unplaced seq n s lt e = is_there s (unplaced seq n) (omega (arith, count_unplaced seq n s lt e))

-- what can be saved for the scalars of a child is what is greatest among those of its parent
pub most_of_child : (seq : Sequence) (n : Node) (s u : ℕ) → has (unplaced seq n) s ≡ true → most_saved seq (with_scalar n s) u ≡ most_beside seq n u
most_of_child seq n s u e =
    let f = weight_outside seq n u in
    ap (λ l. greatest (map f (unplaced seq (with_scalar n s) ++ l))) (last_list_push n.open_list s)
    ∙ ap (λ l. greatest (map f (l ++ (s ∷ [])))) (unplaced_scalar seq n s)
    ∙ greatest_back f s (minus s (unplaced seq n))
    ∙ sym (greatest_minus f s (unplaced seq n) e)

pub sum_unplaced : (f : ℕ → ℕ) (seq : Sequence) (n : Node) (s : ℕ) → s < seq.scalars → has (concat (node_lists n)) s ≡ false → sum_by f (unplaced seq n) ≡ f s + sum_by f (unplaced seq (with_scalar n s))
sum_unplaced f seq n s lt e =
    sum_minus f s (unplaced seq n) ∙ ap (λ c. c * f s + sum_by f (minus s (unplaced seq n))) (count_unplaced seq n s lt e)
    ∙ ap (λ a. a + sum_by f (minus s (unplaced seq n))) (one (f s)) ∙ ap (λ l. f s + sum_by f l) (sym (unplaced_scalar seq n s))
  where
    one : (a : ℕ) → 1 * a ≡ a
    one a = omega arith

pub length_unplaced : (seq : Sequence) (n : Node) (s : ℕ) → s < seq.scalars → has (concat (node_lists n)) s ≡ false → length (unplaced seq n) ≡ 1 + length (unplaced seq (with_scalar n s))
length_unplaced seq n s lt e = length_minus s (unplaced seq n) ∙ ap (λ c. c + length (minus s (unplaced seq n))) (count_unplaced seq n s lt e) ∙ ap (λ l. 1 + length l) (sym (unplaced_scalar seq n s))

saved_by_child : (seq : Sequence) (n : Node) (s : ℕ) → s < seq.scalars → has (concat (node_lists n)) s ≡ false → sum_by (most_beside seq n) (unplaced seq n) ≡ most_beside seq n s + sum_by (most_saved seq (with_scalar n s)) (unplaced seq (with_scalar n s))
saved_by_child seq n s lt e =
    sum_unplaced (most_beside seq n) seq n s lt e
    ∙ ap (λ a. most_beside seq n s + a) (sym (sum_same (most_saved seq (with_scalar n s)) (most_beside seq n) (unplaced seq (with_scalar n s)) (λ u. most_of_child seq n s u (has_unplaced seq n s lt e))))

pub most_beside_le : (k : ℕ) (seq : Sequence) (n : Node) (s : ℕ) → s < seq.scalars → has (concat (node_lists n)) s ≡ false → cond (needs_greatest k seq n) (most_beside seq n s) 0 ≤ (kept_in k seq n).greatest
most_beside_le k seq n s lt e = if_both_le (needs_greatest k seq n) (most_beside seq n s) (sum_by (most_beside seq n) (unplaced seq n)) (omega (arith, saved_by_child seq n s lt e))

-- what a child has more in its open list, and what its scalars can save less, where these are kept
abbrev pub beside_kept : Sequence → Node → ℕ → ℕ
beside_kept seq n s = cond (needs_weights seq) (beside_last (weight_outside seq n) (last_scalar n.open_list) s) 0

abbrev pub most_kept : ℕ → Sequence → Node → ℕ → ℕ
most_kept k seq n s = cond (needs_greatest k seq n) (most_beside seq n s) 0

pub child_kept : (k : ℕ) (seq : Sequence) (n : Node) (s : ℕ) → s < seq.scalars → has (concat (node_lists n)) s ≡ false → kept_at k seq (with_scalar n s) ≡ next_kept (kept_in k seq n) s (beside_kept seq n s) (most_kept k seq n s)
child_kept k seq n s lt e =
    let w = weight_outside seq n in
    let some = needs_weights seq in
    let ranks = needs_greatest k seq n in
    let fewer : length (unplaced seq (with_scalar n s)) ≡ length (unplaced seq n) - 1 = omega (arith, length_unplaced seq n s lt e) in
    let left : sum_by (most_saved seq (with_scalar n s)) (unplaced seq (with_scalar n s)) ≡ sum_by (most_beside seq n) (unplaced seq n) - most_beside seq n s = omega (arith, saved_by_child seq n s lt e) in
    let less = if_minus ranks (sum_by (most_saved seq (with_scalar n s)) (unplaced seq (with_scalar n s))) (sum_by (most_beside seq n) (unplaced seq n)) (most_beside seq n s) left in
    let saved = if_plus some (sum_of_adjacent w (n.open_list ++ (s ∷ []))) (sum_of_adjacent w n.open_list) (beside_last w (last_scalar n.open_list) s) (adjacent_push w n.open_list s) in
    let a = cond some (sum_of_adjacent w (n.open_list ++ (s ∷ []))) 0 in
    let g = cond ranks (sum_by (most_saved seq (with_scalar n s)) (unplaced seq (with_scalar n s))) 0 in
    ap (λ u. make u (last_scalar (n.open_list ++ (s ∷ []))) a g) fewer
    ∙ ap (λ l. make (length (unplaced seq n) - 1) l a g) (last_push n.open_list s)
    ∙ ap₂ (make (length (unplaced seq n) - 1) (Some s)) saved less
  where
    make : ℕ → Option ℕ → ℕ → ℕ → Kept
    make u l a g = record { closes = length n.closed; unplaced = u; last = l; closed = part_cost_of seq n.closed; loads = outside_loads seq n; paid = cond (needs_weights seq) (paid_outside seq n) 0; saved = a; greatest = g }

-- where the open list is empty, nothing but scalars that aren't placed can stand before one
empty_most : (seq : Sequence) (n : Node) → n.open_list ≡ [] → sum_by (most_beside seq n) (unplaced seq n) ≡ sum_by (most_saved seq n) (unplaced seq n)
empty_most seq n e = sum_same (most_beside seq n) (most_saved seq n) (unplaced seq n) (λ u. ap (λ l. greatest (map (weight_outside seq n u) l)) (sym (append-nil (unplaced seq n)) ∙ ap (λ o. unplaced seq n ++ last_of o) (sym e)))

pub empty_kept : (k : ℕ) (seq : Sequence) (n : Node) → n.open_list ≡ [] → kept_in k seq n ≡ kept_at k seq n
empty_kept k seq n e = ap (λ g. kept_with (needs_weights seq) seq n (cond (needs_greatest k seq n) g 0)) (empty_most seq n e)

-- the bound
by_loads_alone : (a b c : ℕ) → nat_le c (a + b) ≡ reaches (pos a +ℤ pos b) c
by_loads_alone a b c = grind (arith, ints, nat_tests)

by_pairs : (a b p s g c : ℕ) → nat_le (c + s + g) (a + b + p) ≡ reaches (pos a +ℤ (pos (b + p) -ℤ pos (s + g))) c
by_pairs a b p s g c = grind (arith, ints, nat_tests)

-- what a bound needs of what is kept
record CanBound (k : ℕ) (seq : Sequence) (n : Node) (j : Kept) : Type 0 where
  closes : j.closes ≡ length n.closed
  closed : j.closed ≡ part_cost_of seq n.closed
  loads : j.loads ≡ outside_loads seq n
  paid : needs_greatest k seq n ≡ true → j.paid ≡ paid_outside seq n
  saved : needs_greatest k seq n ≡ true → j.saved ≡ sum_of_adjacent (weight_outside seq n) n.open_list
  greatest : needs_greatest k seq n ≡ true → j.greatest ≡ sum_by (most_saved seq n) (unplaced seq n)

reaches_by : (k : ℕ) (seq : Sequence) (n : Node) (j : Kept) (cost : ℕ) → CanBound k seq n j → is_complete seq n ≡ false → kept_reaches k seq.step j cost ≡ reaches (bound k seq n) cost
reaches_by k seq n j cost can e = ap (λ m. cond (m || nat_lt 1 seq.step) (nat_le cost (j.closed + j.loads)) (nat_le (cost + j.saved + j.greatest) (j.closed + j.loads + j.paid))) (closes_left k n j can.closes) ∙ rw e (by (has_closes_left k n) (nat_lt 1 seq.step) can.paid can.saved can.greatest)
  where
    by : (a b : Bool) → (not (a || b) ≡ true → j.paid ≡ paid_outside seq n) → (not (a || b) ≡ true → j.saved ≡ sum_of_adjacent (weight_outside seq n) n.open_list) → (not (a || b) ≡ true → j.greatest ≡ sum_by (most_saved seq n) (unplaced seq n))
        → cond (a || b) (nat_le cost (j.closed + j.loads)) (nat_le (cost + j.saved + j.greatest) (j.closed + j.loads + j.paid))
        ≡ reaches (pos (part_cost_of seq n.closed) +ℤ cond (a || b) (pos (outside_loads seq n)) (pos (outside_loads seq n + paid_outside seq n) -ℤ pos (sum_of_adjacent (weight_outside seq n) n.open_list + sum_by (most_saved seq n) (unplaced seq n)))) cost
    by true b p s g = rw (can.closed, can.loads) (by_loads_alone (part_cost_of seq n.closed) (outside_loads seq n) cost)
    by false true p s g = rw (can.closed, can.loads) (by_loads_alone (part_cost_of seq n.closed) (outside_loads seq n) cost)
    by false false p s g = rw (can.closed, can.loads, p refl, s refl, g refl) (by_pairs (part_cost_of seq n.closed) (outside_loads seq n) (paid_outside seq n) (sum_of_adjacent (weight_outside seq n) n.open_list) (sum_by (most_saved seq n) (unplaced seq n)) cost)

-- and the bound itself
bound_by_loads_alone : (a b : ℕ) → pos (a + b) ≡ pos a +ℤ pos b
bound_by_loads_alone a b = grind (arith, ints)

bound_by_pairs : (a b p s : ℕ) → pos (a + b + p) -ℤ pos s ≡ pos a +ℤ (pos (b + p) -ℤ pos s)
bound_by_pairs a b p s = grind (arith, ints)

bound_by : (k : ℕ) (seq : Sequence) (n : Node) (j : Kept) → CanBound k seq n j → is_complete seq n ≡ false → kept_bound k seq.step j ≡ bound k seq n
bound_by k seq n j can e = ap (λ m. cond (m || nat_lt 1 seq.step) (pos (j.closed + j.loads)) (pos (j.closed + j.loads + j.paid) -ℤ pos (j.saved + j.greatest))) (closes_left k n j can.closes) ∙ rw e (by (has_closes_left k n) (nat_lt 1 seq.step) can.paid can.saved can.greatest)
  where
    by : (a b : Bool) → (not (a || b) ≡ true → j.paid ≡ paid_outside seq n) → (not (a || b) ≡ true → j.saved ≡ sum_of_adjacent (weight_outside seq n) n.open_list) → (not (a || b) ≡ true → j.greatest ≡ sum_by (most_saved seq n) (unplaced seq n))
        → cond (a || b) (pos (j.closed + j.loads)) (pos (j.closed + j.loads + j.paid) -ℤ pos (j.saved + j.greatest))
        ≡ pos (part_cost_of seq n.closed) +ℤ cond (a || b) (pos (outside_loads seq n)) (pos (outside_loads seq n + paid_outside seq n) -ℤ pos (sum_of_adjacent (weight_outside seq n) n.open_list + sum_by (most_saved seq n) (unplaced seq n)))
    by true b p s g = rw (can.closed, can.loads) (bound_by_loads_alone (part_cost_of seq n.closed) (outside_loads seq n))
    by false true p s g = rw (can.closed, can.loads) (bound_by_loads_alone (part_cost_of seq n.closed) (outside_loads seq n))
    by false false p s g = rw (can.closed, can.loads, p refl, s refl, g refl) (bound_by_pairs (part_cost_of seq n.closed) (outside_loads seq n) (paid_outside seq n) (sum_of_adjacent (weight_outside seq n) n.open_list + sum_by (most_saved seq n) (unplaced seq n)))

at_bounds : (k : ℕ) (seq : Sequence) (n : Node) → CanBound k seq n (kept_at k seq n)
at_bounds k seq n = record {
  closes = refl;
  closed = refl;
  loads = refl;
  paid = λ ranks. ap (λ b. cond b (paid_outside seq n) 0) (greatest_weigh k seq n ranks);
  saved = λ ranks. ap (λ b. cond b (sum_of_adjacent (weight_outside seq n) n.open_list) 0) (greatest_weigh k seq n ranks);
  greatest = λ ranks. ap (λ b. cond b (sum_by (most_saved seq n) (unplaced seq n)) 0) ranks;
}

pub bound_reaches : (k : ℕ) (seq : Sequence) (n : Node) (cost : ℕ) → is_complete seq n ≡ false → kept_reaches k seq.step (kept_at k seq n) cost ≡ reaches (bound k seq n) cost
bound_reaches k seq n cost = reaches_by k seq n (kept_at k seq n) cost (at_bounds k seq n)

pub bound_is : (k : ℕ) (seq : Sequence) (n : Node) → is_complete seq n ≡ false → kept_bound k seq.step (kept_at k seq n) ≡ bound k seq n
bound_is k seq n = bound_by k seq n (kept_at k seq n) (at_bounds k seq n)

-- where the open list is empty, also before the weights are found that the bound doesn't need
empty_bounds : (k : ℕ) (seq : Sequence) (n : Node) → n.open_list ≡ [] → CanBound k seq n (kept_found (needs_greatest k seq n) (needs_greatest k seq n) seq n)
empty_bounds k seq n none = record {
  closes = refl;
  closed = refl;
  loads = refl;
  paid = λ ranks. ap (λ b. cond b (paid_outside seq n) 0) ranks;
  saved = λ ranks. ap (λ b. cond b (sum_of_adjacent (weight_outside seq n) n.open_list) 0) ranks;
  greatest = λ ranks. ap (λ b. cond b (sum_by (most_beside seq n) (unplaced seq n)) 0) ranks ∙ empty_most seq n none;
}

pub empty_reaches : (k : ℕ) (seq : Sequence) (n : Node) (cost : ℕ) → n.open_list ≡ [] → is_complete seq n ≡ false → kept_reaches k seq.step (kept_found (needs_greatest k seq n) (needs_greatest k seq n) seq n) cost ≡ reaches (bound k seq n) cost
empty_reaches k seq n cost none = reaches_by k seq n (kept_found (needs_greatest k seq n) (needs_greatest k seq n) seq n) cost (empty_bounds k seq n none)

pub empty_bound : (k : ℕ) (seq : Sequence) (n : Node) → n.open_list ≡ [] → is_complete seq n ≡ false → kept_bound k seq.step (kept_found (needs_greatest k seq n) (needs_greatest k seq n) seq n) ≡ bound k seq n
empty_bound k seq n none = bound_by k seq n (kept_found (needs_greatest k seq n) (needs_greatest k seq n) seq n) (empty_bounds k seq n none)
