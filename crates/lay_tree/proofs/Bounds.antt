-- The bound of a node is at most what each complete node below it costs.
use Rattle.std.proofs.Common.{◌≡◌, ◌<◌, ◌≤◌, ◌+◌, ◌*◌, ◌++◌, ℕ, zero, suc, List, [], ◌∷◌, Bool, true, false, refl, map, ap, sym, subst, inl, inr, arith}
use Rattle.std.specs.Prelude.{◌||◌, pos, ◌+ℤ◌, ◌-ℤ◌, ◌≤ℤ◌, max, nat_lt, All, filter, fold, sum_by}
use Rattle.std.specs.List.{concat, range_with_len}
use Rattle.std.proofs.lemmas.Bool.{or_parts, ltb-false, cond-true, cond-false}
use Rattle.std.proofs.lemmas.Int.{ints}
use Rattle.std.proofs.lemmas.List.Sums.{sum_by-cons}
use lib.Signed.{≤ℤ_refl}
use Rattle.lay_model.specs.Sequences.{Sequence, IsSequence}
use Rattle.lay_cost.specs.Placements.{has}
use Rattle.lay_cost.specs.Cost.{arranged_cost}
use Rattle.lay_cost.specs.Weights.{is_pair, times_beside, weight_between}
use Rattle.lay_cost.specs.Parts.{Node, node_lists, part_cost_of}
use Rattle.lay_tree.specs.Tree.{all_scalars, unplaced, is_complete, has_closes_left, IsBelow}
use Rattle.lay_tree.specs.Bound.{bound, outside_bound, is_outside, weight_outside, sum_of_adjacent, greatest, last_of, before, most_saved, outside_loads, paid_outside, saved_outside}
use Rattle.lay_tree.proofs.Members.{IsIn, IsOnce, to_contains, in_map, in_front, in_back, of_filter, of_range}
use Rattle.lay_tree.proofs.Sums.{sum_same, sum_within}
use Rattle.lay_tree.proofs.ClosedCosts.{closed_lists}
use Rattle.lay_tree.proofs.OneListCosts.{one_list, AreIn}
use Rattle.lay_tree.proofs.Pairs.{pair_of, pair_from}
use Rattle.lay_tree.proofs.Nodes.{in_unplaced, complete_has, closed_first, HasMore, open_grows, below_complete}

-- the greatest number
above_start : (a : ℕ) (ns : List ℕ) → a ≤ fold max a ns
above_start a [] = omega arith
above_start a (n ∷ ns) = omega (arith, above_start (max a n) ns)

above_each : (a n : ℕ) (ns : List ℕ) → IsIn n ns → n ≤ fold max a ns
above_each a n [] i = absurd i
above_each a n (m ∷ ns) (inl e) = omega (arith, above_start (max a m) ns, e)
above_each a n (m ∷ ns) (inr i) = above_each (max a m) n ns i

at_most_greatest : (f : ℕ → ℕ) (s : ℕ) (ss : List ℕ) → IsIn s ss → f s ≤ greatest (map f ss)
at_most_greatest f s ss i = above_each 0 (f s) (map f ss) (in_map f s ss i)

same_truth : (a b : Bool) → (a ≡ true → b ≡ true) → (b ≡ true → a ≡ true) → a ≡ b
same_truth true b there back = sym (there refl)
same_truth false true there back = back refl
same_truth false false there back = refl

-- the order of two neighbours doesn't matter
same_order : (x y a b : ℕ) → is_pair x y a b ≡ is_pair y x a b
same_order x y a b = same_truth (is_pair x y a b) (is_pair y x a b) (turned x y) (turned y x)
  where
    turned : (s t : ℕ) → is_pair s t a b ≡ true → is_pair t s a b ≡ true
    turned s t e = let p = pair_of s t a b e in pair_from t s a b (λ same. p.differ (sym same)) (elim (p.are) [ inl h ↦ inr h | inr h ↦ inl h ])

same_times : (x y : ℕ) (a : List ℕ) → times_beside x y a ≡ times_beside y x a
same_times x y [] = refl
same_times x y (s ∷ []) = refl
same_times x y (s ∷ t ∷ a) = rw (same_order x y s t, same_times x y (t ∷ a)) refl

same_weight : (seq : Sequence) (set : ℕ → Bool) (x y : ℕ) → weight_between seq set x y ≡ weight_between seq set y x
same_weight seq set x y = sum_same (λ b. b.weight * times_beside x y (filter set b.accesses)) (λ b. b.weight * times_beside y x (filter set b.accesses)) seq.blocks (λ b. ap (λ n. b.weight * n) (same_times x y (filter set b.accesses)))

-- what neighbours in the rest of a list weigh
saved_behind : (w : ℕ → ℕ → ℕ) (g : ℕ → ℕ) (p : ℕ) (new pool : List ℕ) → ((s t : ℕ) → IsIn s pool → w s t ≤ g t) → IsIn p pool → ((s : ℕ) → IsIn s new → IsIn s pool)
    → sum_of_adjacent w (p ∷ new) ≤ sum_by g new
saved_behind w g p [] pool most inside all = omega arith
saved_behind w g p (s ∷ new) pool most inside all =
    let more = saved_behind w g s new pool most (all s (inl refl)) (λ t i. all t (inr i))
    in omega (arith, sum_by-cons g s new, most p s inside, more)

saved_in_all : (w : ℕ → ℕ → ℕ) (g : ℕ → ℕ) (open_list new pool : List ℕ) → ((s t : ℕ) → IsIn s pool → w s t ≤ g t) → ((s : ℕ) → IsIn s (last_of open_list) → IsIn s pool) → ((s : ℕ) → IsIn s new → IsIn s pool)
    → sum_of_adjacent w (open_list ++ new) ≤ sum_of_adjacent w open_list + sum_by g new
saved_in_all w g [] [] pool most last all = omega arith
saved_in_all w g [] (s ∷ new) pool most last all = omega (arith, saved_behind w g s new pool most (all s (inl refl)) (λ t i. all t (inr i)), sum_by-cons g s new)
saved_in_all w g (p ∷ []) new pool most last all = omega (arith, saved_behind w g p new pool most (last p (inl refl)) all)
saved_in_all w g (p ∷ q ∷ ps) new pool most last all = omega (arith, saved_in_all w g (q ∷ ps) new pool most last all)

-- no scalar twice
pub once_range : (from count : ℕ) → IsOnce (range_with_len from count)
once_range from zero = tt
once_range from (suc count) = (λ i. let h = of_range from (from + 1) count i in absurd (omega (arith, h.0)), once_range (from + 1) count)

once_filter : (test : ℕ → Bool) (xs : List ℕ) → IsOnce xs → IsOnce (filter test xs)
once_filter test [] once = tt
once_filter test (x ∷ xs) once = go (test x) refl (once_filter test xs once.1)
  where
    go : (b : Bool) → test x ≡ b → IsOnce (filter test xs) → IsOnce (filter test (x ∷ xs))
    go true is more = subst (λ zs. IsOnce zs) (sym (cond-true (test x) (x ∷ filter test xs) (filter test xs) is)) ((λ i. once.0 (of_filter test x xs i).0), more)
    go false is more = subst (λ zs. IsOnce zs) (sym (cond-false (test x) (x ∷ filter test xs) (filter test xs) is)) more

pub all_in : {X : Type 0} (P : X → Type 0) (xs : List X) (x : X) → All P xs → IsIn x xs → P x
all_in P xs x all i = let c = to_contains x xs i in subst P c.2 (all c.0 x c.1)

-- over closed lists alone, and a load for each block that has another scalar
loads_bound : (k : ℕ) (seq : Sequence) (n m : Node) → IsBelow k seq n m → part_cost_of seq n.closed + outside_loads seq n ≤ arranged_cost seq (node_lists m)
loads_bound k seq n m below = let h = closed_first k seq n m below in rw (h.is) (closed_lists seq n.closed h.others)

-- all others in one list
accessed_in : (k : ℕ) (seq : Sequence) (n m : Node) → IsSequence seq → is_complete seq m ≡ true → (h : HasMore seq n m) → AreIn m.open_list n.closed seq.blocks
accessed_in k seq n m sequence complete h b i s j outside =
    let below : s < seq.scalars = all_in (λ t. t < seq.scalars) b.accesses s (all_in (λ c. All (λ t. t < seq.scalars) c.accesses) seq.blocks b sequence.scalars i) j
    in complete_has seq m s complete below (subst (λ cs. has (concat cs) s ≡ false) (sym h.closed) outside)

saved_bound : (seq : Sequence) (n m : Node) → (h : HasMore seq n m) → sum_of_adjacent (weight_outside seq n) m.open_list ≤ saved_outside seq n
saved_bound seq n m h =
    let w = weight_outside seq n in
    let g = most_saved seq n in
    let within = sum_within g h.new (unplaced seq n) h.once (λ s i. in_unplaced seq n s (h.fresh s i)) in
    let most : (s t : ℕ) → IsIn s (before seq n) → weight_outside seq n s t ≤ most_saved seq n t = λ s t i. subst (λ v. v ≤ most_saved seq n t) (same_weight seq (is_outside n) t s) (at_most_greatest (weight_outside seq n t) s (before seq n) i) in
    let all = saved_in_all w g n.open_list h.new (before seq n) most (λ s i. in_back s (unplaced seq n) (last_of n.open_list) i) (λ s i. in_front s (unplaced seq n) (last_of n.open_list) (in_unplaced seq n s (h.fresh s i)))
    in rw (h.opened) (omega (arith, within, all))

one_list_bound : (k : ℕ) (seq : Sequence) (n m : Node) → IsSequence seq → seq.step ≡ 1 → has_closes_left k n ≡ false → IsBelow k seq n m → is_complete seq m ≡ true
    → part_cost_of seq n.closed + (outside_loads seq n + paid_outside seq n) ≤ arranged_cost seq (node_lists m) + saved_outside seq n
one_list_bound k seq n m sequence one no_more below complete =
    let h = open_grows k seq n m no_more below in
    let members = filter (is_outside n) (all_scalars seq) in
    let once = once_filter (is_outside n) (all_scalars seq) (once_range 0 seq.scalars) in
    let costs = one_list seq n.closed m.open_list members one once (accessed_in k seq n m sequence complete h) in
    let lists : node_lists m ≡ n.closed ++ (m.open_list ∷ []) = ap (λ cs. cs ++ (m.open_list ∷ [])) h.closed
    in rw (lists) (omega (arith, costs, saved_bound seq n m h))

-- the bound itself
from_loads : (a b c : ℕ) → a + b ≤ c → (pos a +ℤ pos b) ≤ℤ pos c
from_loads a b c h = omega (arith, ints)

from_one_list : (a b c d : ℕ) → a + b ≤ c + d → (pos a +ℤ (pos b -ℤ pos d)) ≤ℤ pos c
from_one_list a b c d h = omega (arith, ints)

outside_holds : (k : ℕ) (seq : Sequence) (n m : Node) → IsSequence seq → IsBelow k seq n m → is_complete seq m ≡ true → (pos (part_cost_of seq n.closed) +ℤ outside_bound k seq n) ≤ℤ pos (arranged_cost seq (node_lists m))
outside_holds k seq n m sequence below complete = go (has_closes_left k n || nat_lt 1 seq.step) refl
  where
    go : (b : Bool) → (has_closes_left k n || nat_lt 1 seq.step) ≡ b → (pos (part_cost_of seq n.closed) +ℤ outside_bound k seq n) ≤ℤ pos (arranged_cost seq (node_lists m))
    go true is = rw (is) (from_loads _ _ _ (loads_bound k seq n m below))
    go false is =
        let parts = or_parts (has_closes_left k n) (nat_lt 1 seq.step) is in
        let one : seq.step ≡ 1 = omega (arith, ltb-false 1 seq.step parts.1, sequence.moves)
        in rw (is) (from_one_list _ _ _ _ (one_list_bound k seq n m sequence one parts.0 below complete))

pub bound_holds : (k : ℕ) (seq : Sequence) (n m : Node) → IsSequence seq → IsBelow k seq n m → is_complete seq m ≡ true → bound k seq n ≤ℤ pos (arranged_cost seq (node_lists m))
bound_holds k seq n m sequence below complete = go (is_complete seq n) refl
  where
    go : (b : Bool) → is_complete seq n ≡ b → bound k seq n ≤ℤ pos (arranged_cost seq (node_lists m))
    go true is = rw (is, below_complete k seq n m is below) (≤ℤ_refl _)
    go false is = rw (is) (outside_holds k seq n m sequence below complete)
