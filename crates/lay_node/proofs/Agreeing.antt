-- What two tests, tables or functions that agree on the scalars of a sequence make is the same.
use Rattle.std.proofs.Common.{◌≡◌, ℕ, zero, suc, ◌+◌, ◌*◌, ◌<◌, ◌≤◌, Bool, true, false, cond, not, List, [], ◌∷◌, map, filter, refl, ap, ap₂, sym, ◌∙◌, arith, lt_of_lt_of_le}
use Rattle.std.specs.Prelude.{◌||◌, All, sum_by, slice_index_or, if◌then◌else◌}
use Rattle.std.specs.List.{range_with_len, concat, list_any}
use Rattle.std.proofs.lemmas.List.Elements.{All-head, All-tail, All-nil, All-cons, All-filter, All-weaker}
use Rattle.std.proofs.lemmas.List.Sums.{sum_by-cons}
use Rattle.lay_model.specs.Sequences.{Sequence, IsSequence}
use Rattle.lay_cost.specs.Placements.{has}
use Rattle.lay_cost.specs.Restricted.{loads}
use Rattle.lay_cost.specs.Weights.{weight_at, weight_between, times_beside, AreWeights}
use Rattle.lay_cost.specs.Parts.{Node, node_lists}
use Rattle.lay_cost.proofs.Pairs.{weight_turned, weight_outside as outside_weighs}
use Rattle.lay_tree.specs.Tree.{unplaced, all_scalars}
use Rattle.lay_tree.specs.Bound.{is_outside, weight_outside, sum_of_pairs, greatest, paid_outside}
use Rattle.lay_node.specs.Levels.{is_free, free_below, greatest_among, greatest_in_all}
use Rattle.lay_node.specs.Numbers.{most_beside}

pub sum_same_in : {X : Type 0} (f g : X → ℕ) (xs : List X) → All (λ x. f x ≡ g x) xs → sum_by f xs ≡ sum_by g xs
sum_same_in f g [] all = refl
sum_same_in f g (x ∷ xs) all = sum_by-cons f x xs ∙ ap₂ (λ a b. a + b) (All-head (λ y. f y ≡ g y) x xs all) (sum_same_in f g xs (All-tail (λ y. f y ≡ g y) x xs all)) ∙ sym (sum_by-cons g x xs)

pub map_same_in : {X Y : Type 0} (f g : X → Y) (xs : List X) → All (λ x. f x ≡ g x) xs → map f xs ≡ map g xs
map_same_in f g [] all = refl
map_same_in f g (x ∷ xs) all = ap₂ (λ a b. a ∷ b) (All-head (λ y. f y ≡ g y) x xs all) (map_same_in f g xs (All-tail (λ y. f y ≡ g y) x xs all))

pub filter_same_in : {X : Type 0} (p q : X → Bool) (xs : List X) → All (λ x. p x ≡ q x) xs → filter p xs ≡ filter q xs
filter_same_in p q [] all = refl
filter_same_in p q (x ∷ xs) all = ap₂ (λ b l. cond b (x ∷ l) l) (All-head (λ y. p y ≡ q y) x xs all) (filter_same_in p q xs (All-tail (λ y. p y ≡ q y) x xs all))

any_same_in : {X : Type 0} (p q : X → Bool) (xs : List X) → All (λ x. p x ≡ q x) xs → list_any p xs ≡ list_any q xs
any_same_in p q [] all = refl
any_same_in p q (x ∷ xs) all = ap₂ (λ a b. a || b) (All-head (λ y. p y ≡ q y) x xs all) (any_same_in p q xs (All-tail (λ y. p y ≡ q y) x xs all))

pub range_below : (a n m : ℕ) → a + n ≤ m → All (λ s. s < m) (range_with_len a n)
range_below a zero m le = All-nil (λ s. s < m)
range_below a (suc n) m le = All-cons (λ s. s < m) a (range_with_len (a + 1) n) (omega (arith, le)) (range_below (a + 1) n m (omega (arith, le)))

pub scalars_below : (seq : Sequence) → All (λ s. s < seq.scalars) (all_scalars seq)
scalars_below seq = range_below 0 seq.scalars seq.scalars (omega arith)

-- sets that agree on the scalars
abbrev pub Agree : ℕ → (ℕ → Bool) → (ℕ → Bool) → Type 0
Agree n p q = (s : ℕ) → s < n → p s ≡ q s

pub weights_agree : (seq : Sequence) (p q : ℕ → Bool) (x y : ℕ) → IsSequence seq → Agree seq.scalars p q → weight_between seq p x y ≡ weight_between seq q x y
weights_agree seq p q x y h agree =
    sum_same_in (λ b. b.weight * times_beside x y (filter p b.accesses)) (λ b. b.weight * times_beside x y (filter q b.accesses)) seq.blocks
    (All-weaker (λ b. All (λ s. s < seq.scalars) b.accesses) (λ b. b.weight * times_beside x y (filter p b.accesses) ≡ b.weight * times_beside x y (filter q b.accesses))
    (λ b all. ap (λ l. b.weight * times_beside x y l) (filter_same_in p q b.accesses (All-weaker (λ s. s < seq.scalars) (λ s. p s ≡ q s) agree b.accesses all))) seq.blocks h.scalars)

pub loads_agree : (seq : Sequence) (p q : ℕ → Bool) → IsSequence seq → Agree seq.scalars p q → loads seq p ≡ loads seq q
loads_agree seq p q h agree =
    sum_same_in (λ b. if list_any p b.accesses then b.weight else 0) (λ b. if list_any q b.accesses then b.weight else 0) seq.blocks
    (All-weaker (λ b. All (λ s. s < seq.scalars) b.accesses) (λ b. (if list_any p b.accesses then b.weight else 0) ≡ (if list_any q b.accesses then b.weight else 0))
    (λ b all. ap (λ t. if t then b.weight else 0) (any_same_in p q b.accesses (All-weaker (λ s. s < seq.scalars) (λ s. p s ≡ q s) agree b.accesses all))) seq.blocks h.scalars)

-- a table of the weights of the scalars outside the closed lists of a node
abbrev pub AreOutside : Sequence → Node → List ℕ → Type 0
AreOutside seq n table = (x y : ℕ) → x < 64 → y < 64 → weight_at table x y ≡ weight_outside seq n x y

pub table_outside : (seq : Sequence) (n : Node) (set : ℕ → Bool) (table : List ℕ) → IsSequence seq → Agree seq.scalars set (is_outside n) → AreWeights seq set table → AreOutside seq n table
table_outside seq n set table h agree are x y lx ly = are.weights x y lx ly ∙ weights_agree seq set (is_outside n) x y h agree

-- a table of the scalars that are placed
abbrev pub ArePlaced : Sequence → Node → List Bool → Type 0
ArePlaced seq n placed = (s : ℕ) → s < seq.scalars → slice_index_or placed s false ≡ has (concat (node_lists n)) s

pub free_unplaced : (seq : Sequence) (n : Node) (placed : List Bool) → ArePlaced seq n placed → free_below placed seq.scalars ≡ unplaced seq n
free_unplaced seq n placed are = filter_same_in (is_free placed) (λ s. not (has (concat (node_lists n)) s)) (all_scalars seq) (All-weaker (λ s. s < seq.scalars) (λ s. is_free placed s ≡ not (has (concat (node_lists n)) s)) (λ s lt. ap not (are s lt)) (all_scalars seq) (scalars_below seq))

pub unplaced_below : (seq : Sequence) (n : Node) → All (λ s. s < seq.scalars) (unplaced seq n)
unplaced_below seq n = All-filter (λ s. not (has (concat (node_lists n)) s)) (λ s. s < seq.scalars) (all_scalars seq) (scalars_below seq)

pub greatest_outside : (seq : Sequence) (n : Node) (table : List ℕ) (placed : List Bool) (s : ℕ) → seq.scalars ≤ 64 → AreOutside seq n table → ArePlaced seq n placed → s < seq.scalars → greatest_among table (free_below placed seq.scalars) s ≡ most_beside seq n s
greatest_outside seq n table placed s few are placed_are lt =
    ap (λ l. greatest_among table l s) (free_unplaced seq n placed placed_are)
    ∙ ap greatest (map_same_in (weight_at table s) (weight_outside seq n s) (unplaced seq n) (All-weaker (λ t. t < seq.scalars) (λ t. weight_at table s t ≡ weight_outside seq n s t) (λ t less. are s t (lt_of_lt_of_le lt few) (lt_of_lt_of_le less few)) (unplaced seq n) (unplaced_below seq n)))

pub greatest_all_outside : (seq : Sequence) (n : Node) (table : List ℕ) (placed : List Bool) → seq.scalars ≤ 64 → AreOutside seq n table → ArePlaced seq n placed → greatest_in_all table (free_below placed seq.scalars) ≡ sum_by (most_beside seq n) (unplaced seq n)
greatest_all_outside seq n table placed few are placed_are =
    ap (sum_by (greatest_among table (free_below placed seq.scalars))) (free_unplaced seq n placed placed_are)
    ∙ sum_same_in (greatest_among table (free_below placed seq.scalars)) (most_beside seq n) (unplaced seq n) (All-weaker (λ t. t < seq.scalars) (λ t. greatest_among table (free_below placed seq.scalars) t ≡ most_beside seq n t) (λ t less. greatest_outside seq n table placed t few are placed_are less) (unplaced seq n) (unplaced_below seq n))

-- pairs of which one isn't in a set weigh nothing
sum_filter_same : (f : ℕ → ℕ) (p : ℕ → Bool) (xs : List ℕ) → ((y : ℕ) → p y ≡ false → f y ≡ 0) → sum_by f (filter p xs) ≡ sum_by f xs
sum_filter_same f p [] h = refl
sum_filter_same f p (x ∷ xs) h = by (p x) refl (sum_filter_same f p xs h)
  where
    by : (b : Bool) → p x ≡ b → sum_by f (filter p xs) ≡ sum_by f xs → sum_by f (cond b (x ∷ filter p xs) (filter p xs)) ≡ sum_by f (x ∷ xs)
    by true e rest = omega (arith, sum_by-cons f x xs, sum_by-cons f x (filter p xs), rest)
    by false e rest = omega (arith, sum_by-cons f x xs, h x e, rest)

sum_none : (f : ℕ → ℕ) (xs : List ℕ) → ((y : ℕ) → f y ≡ 0) → sum_by f xs ≡ 0
sum_none f [] h = refl
sum_none f (x ∷ xs) h = omega (arith, sum_by-cons f x xs, h x, sum_none f xs h)

pub pairs_filter : (w : ℕ → ℕ → ℕ) (p : ℕ → Bool) (xs : List ℕ) → ((x y : ℕ) → p x ≡ false → w x y ≡ 0) → ((x y : ℕ) → p y ≡ false → w x y ≡ 0) → sum_of_pairs w (filter p xs) ≡ sum_of_pairs w xs
pairs_filter w p [] first second = refl
pairs_filter w p (x ∷ xs) first second = by (p x) refl (pairs_filter w p xs first second)
  where
    by : (b : Bool) → p x ≡ b → sum_of_pairs w (filter p xs) ≡ sum_of_pairs w xs → sum_of_pairs w (cond b (x ∷ filter p xs) (filter p xs)) ≡ sum_of_pairs w (x ∷ xs)
    by true e rest = omega (arith, rest, sum_filter_same (w x) p xs (second x))
    by false e rest = omega (arith, rest, sum_none (w x) xs (λ y. first x y e))

pub paid_is : (seq : Sequence) (n : Node) → paid_outside seq n ≡ sum_of_pairs (weight_outside seq n) (all_scalars seq)
paid_is seq n = pairs_filter (weight_outside seq n) (is_outside n) (all_scalars seq) (λ x y e. outside_weighs seq (is_outside n) x y e) (λ x y e. weight_turned seq (is_outside n) x y ∙ outside_weighs seq (is_outside n) y x e)

pairs_same_in : (v w : ℕ → ℕ → ℕ) (n : ℕ) (xs : List ℕ) → All (λ x. x < n) xs → ((x y : ℕ) → x < n → y < n → v x y ≡ w x y) → sum_of_pairs v xs ≡ sum_of_pairs w xs
pairs_same_in v w n [] all h = refl
pairs_same_in v w n (x ∷ xs) all h =
    let first = All-head (λ y. y < n) x xs all in
    let more = All-tail (λ y. y < n) x xs all in
    ap₂ (λ a b. a + b) (sum_same_in (v x) (w x) xs (All-weaker (λ y. y < n) (λ y. v x y ≡ w x y) (λ y lt. h x y first lt) xs more)) (pairs_same_in v w n xs more h)

pub total_is_paid : (seq : Sequence) (n : Node) (table : List ℕ) → seq.scalars ≤ 64 → AreOutside seq n table → sum_of_pairs (weight_at table) (all_scalars seq) ≡ paid_outside seq n
total_is_paid seq n table few are = pairs_same_in (weight_at table) (weight_outside seq n) seq.scalars (all_scalars seq) (scalars_below seq) (λ x y lx ly. are x y (lt_of_lt_of_le lx few) (lt_of_lt_of_le ly few)) ∙ sym (paid_is seq n)
