-- All weights of a sequence together are small.
use Rattle.std.proofs.Common.{◌≡◌, ℕ, zero, suc, ◌+◌, ◌*◌, ◌^◌, ◌<◌, ◌≤◌, max, Bool, true, false, cond, List, [], ◌∷◌, map, filter, fold, length, refl, ap, ap₂, sym, ◌∙◌, arith}
use Rattle.std.specs.Prelude.{◌==◌, sum_by, count_by, if◌then◌else◌}
use Rattle.std.specs.List.{range_with_len}
use Rattle.std.proofs.Math.Nat.{mul-le-mul_left}
use Rattle.std.proofs.lemmas.Bool.Decides.{nat_tests}
use Rattle.std.proofs.lemmas.List.Sums.{sum_by-cons, sum_by-le-sum_by, length-filter, count_by-le-length}
use Rattle.lay_model.specs.Sequences.{Sequence, Block, IsSequence, counted}
use Rattle.lay_cost.specs.Weights.{weight_at, weight_between, times_beside, is_pair, AreWeights}
use Rattle.lay_tree.specs.Bound.{greatest, sum_of_pairs}

-- sums over a list
pub sum_plus : {X : Type 0} (f g : X → ℕ) (xs : List X) → sum_by (λ x. f x + g x) xs ≡ sum_by f xs + sum_by g xs
sum_plus f g [] = refl
sum_plus f g (x ∷ xs) = omega (arith, sum_by-cons f x xs, sum_by-cons g x xs, sum_by-cons (λ y. f y + g y) x xs, sum_plus f g xs)

pub sum_zero : {X : Type 0} (xs : List X) → sum_by (λ x. 0) xs ≡ 0
sum_zero [] = refl
sum_zero (x ∷ xs) = omega (arith, sum_by-cons (λ y. 0) x xs, sum_zero xs)

pub sum_times : {X : Type 0} (c : ℕ) (f : X → ℕ) (xs : List X) → sum_by (λ x. c * f x) xs ≡ c * sum_by f xs
sum_times c f [] = omega arith
sum_times c f (x ∷ xs) =
    let e : c * f x + c * sum_by f xs ≡ c * (f x + sum_by f xs) = omega arith
    in sum_by-cons (λ y. c * f y) x xs ∙ ap (λ n. c * f x + n) (sum_times c f xs) ∙ e ∙ ap (λ n. c * n) (sym (sum_by-cons f x xs))

pub sum_filter_le : {X : Type 0} (f : X → ℕ) (p : X → Bool) (xs : List X) → sum_by f (filter p xs) ≤ sum_by f xs
sum_filter_le f p [] = omega arith
sum_filter_le f p (x ∷ xs) = by (p x) (sum_filter_le f p xs)
  where
    by : (b : Bool) → sum_by f (filter p xs) ≤ sum_by f xs → sum_by f (cond b (x ∷ filter p xs) (filter p xs)) ≤ sum_by f (x ∷ xs)
    by true h = omega (arith, sum_by-cons f x xs, sum_by-cons f x (filter p xs), h)
    by false h = omega (arith, sum_by-cons f x xs, h)

pub sum_same_in_range : (f g : ℕ → ℕ) (a n : ℕ) → ((x : ℕ) → a ≤ x → x < a + n → f x ≡ g x) → sum_by f (range_with_len a n) ≡ sum_by g (range_with_len a n)
sum_same_in_range f g a zero h = refl
sum_same_in_range f g a (suc n) h =
    let first : f a ≡ g a = h a (omega arith) (omega arith) in
    let more = sum_same_in_range f g (a + 1) n (λ x low high. h x (omega arith) (omega arith)) in
    sum_by-cons f a (range_with_len (a + 1) n) ∙ ap₂ (λ b c. b + c) first more ∙ sym (sum_by-cons g a (range_with_len (a + 1) n))

abbrev pub one_if : Bool → ℕ
one_if t = cond t 1 0

-- each number stands in a range once at most
pub count_above : (b a n : ℕ) → b < a → count_by (λ y. y == b) (range_with_len a n) ≡ 0
count_above b a zero lt = refl
count_above b a (suc n) lt =
    let no : one_if (a == b) ≡ 0 = grind (arith, nat_tests) in
    omega (arith, sum_by-cons (λ y. cond (y == b) 1 0) a (range_with_len (a + 1) n), no, count_above b (a + 1) n (omega arith))

pub count_in_range : (b a n : ℕ) → count_by (λ y. y == b) (range_with_len a n) ≤ 1
count_in_range b a zero = omega arith
count_in_range b a (suc n) = by (a == b) refl (count_in_range b (a + 1) n)
  where
    by : (t : Bool) → (a == b) ≡ t → count_by (λ y. y == b) (range_with_len (a + 1) n) ≤ 1 → count_by (λ y. y == b) (range_with_len a (suc n)) ≤ 1
    by true e more =
        let same : a ≡ b = grind (arith, nat_tests) in
        let one : one_if (a == b) ≡ 1 = ap one_if e in
        omega (arith, sum_by-cons (λ y. cond (y == b) 1 0) a (range_with_len (a + 1) n), one, count_above b (a + 1) n (omega (arith, same)))
    by false e more =
        let none : one_if (a == b) ≡ 0 = ap one_if e in
        omega (arith, sum_by-cons (λ y. cond (y == b) 1 0) a (range_with_len (a + 1) n), none, more)

-- over each two scalars below a number, in either order
abbrev pub over_all : ℕ → (ℕ → ℕ → ℕ) → ℕ
over_all n f = sum_by (λ x. sum_by (f x) (range_with_len 0 n)) (range_with_len 0 n)

all_plus : (n : ℕ) (f g : ℕ → ℕ → ℕ) → over_all n (λ x y. f x y + g x y) ≡ over_all n f + over_all n g
all_plus n f g =
    sum_same_in_range (λ x. sum_by (λ y. f x y + g x y) (range_with_len 0 n)) (λ x. sum_by (f x) (range_with_len 0 n) + sum_by (g x) (range_with_len 0 n)) 0 n (λ x _ _. sum_plus (f x) (g x) (range_with_len 0 n))
    ∙ sum_plus (λ x. sum_by (f x) (range_with_len 0 n)) (λ x. sum_by (g x) (range_with_len 0 n)) (range_with_len 0 n)

all_times : (n c : ℕ) (f : ℕ → ℕ → ℕ) → over_all n (λ x y. c * f x y) ≡ c * over_all n f
all_times n c f =
    sum_same_in_range (λ x. sum_by (λ y. c * f x y) (range_with_len 0 n)) (λ x. c * sum_by (f x) (range_with_len 0 n)) 0 n (λ x _ _. sum_times c (f x) (range_with_len 0 n))
    ∙ sum_times c (λ x. sum_by (f x) (range_with_len 0 n)) (range_with_len 0 n)

all_zero : (n : ℕ) → over_all n (λ x y. 0) ≡ 0
all_zero n = sum_same_in_range (λ x. sum_by (λ y. 0) (range_with_len 0 n)) (λ x. 0) 0 n (λ x _ _. sum_zero (range_with_len 0 n)) ∙ sum_zero (range_with_len 0 n)

all_le : (n : ℕ) (f g : ℕ → ℕ → ℕ) → ((x y : ℕ) → f x y ≤ g x y) → over_all n f ≤ over_all n g
all_le n f g h = sum_by-le-sum_by (λ x. sum_by (f x) (range_with_len 0 n)) (λ x. sum_by (g x) (range_with_len 0 n)) (range_with_len 0 n) (λ x. sum_by-le-sum_by (f x) (g x) (range_with_len 0 n) (h x))

pub all_same : (n : ℕ) (f g : ℕ → ℕ → ℕ) → ((x y : ℕ) → x < n → y < n → f x y ≡ g x y) → over_all n f ≡ over_all n g
all_same n f g h =
    sum_same_in_range (λ x. sum_by (f x) (range_with_len 0 n)) (λ x. sum_by (g x) (range_with_len 0 n)) 0 n
    (λ x _ lx. sum_same_in_range (f x) (g x) 0 n (λ y _ ly. h x y (omega (arith, lx)) (omega (arith, ly))))

-- x and y in this order
abbrev in_order : ℕ → ℕ → ℕ → ℕ → ℕ
in_order a b x y = cond (x == a) (cond (y == b) 1 0) 0

in_order_once : (n a b : ℕ) → over_all n (in_order a b) ≤ 1
in_order_once n a b =
    let rows : over_all n (in_order a b) ≤ sum_by (λ x. cond (x == a) 1 0) (range_with_len 0 n) = sum_by-le-sum_by (λ x. sum_by (in_order a b x) (range_with_len 0 n)) (λ x. cond (x == a) 1 0) (range_with_len 0 n) (λ x. by x (x == a)) in
    omega (arith, rows, count_in_range a 0 n)
  where
    by : (x : ℕ) (t : Bool) → sum_by (λ y. cond t (cond (y == b) 1 0) 0) (range_with_len 0 n) ≤ cond t 1 0
    by x true = count_in_range b 0 n
    by x false = omega (arith, sum_zero (range_with_len 0 n))

abbrev pair_bit : ℕ → ℕ → ℕ → ℕ → ℕ
pair_bit a b x y = if is_pair x y a b then 1 else 0

pair_bit_le : (a b x y : ℕ) → pair_bit a b x y ≤ in_order a b x y + in_order b a x y
pair_bit_le a b x y = grind (arith, nat_tests)

beside_small : (n : ℕ) (xs : List ℕ) → over_all n (λ x y. times_beside x y xs) ≤ 2 * length xs
beside_small n [] = omega (arith, all_zero n)
beside_small n (a ∷ []) = omega (arith, all_zero n)
beside_small n (a ∷ b ∷ rest) =
    let one : over_all n (pair_bit a b) ≤ 2 = omega (arith, all_le n (pair_bit a b) (λ x y. in_order a b x y + in_order b a x y) (pair_bit_le a b), all_plus n (in_order a b) (in_order b a), in_order_once n a b, in_order_once n b a) in
    omega (arith, all_plus n (pair_bit a b) (λ x y. times_beside x y (b ∷ rest)), one, beside_small n (b ∷ rest))

abbrev between : (ℕ → Bool) → List Block → ℕ → ℕ → ℕ
between set bs x y = sum_by (λ b. b.weight * times_beside x y (filter set b.accesses)) bs

blocks_small : (n : ℕ) (set : ℕ → Bool) (bs : List Block) → over_all n (between set bs) ≤ 2 * sum_by counted bs
blocks_small n set [] = omega (arith, all_zero n)
blocks_small n set (b ∷ bs) =
    let f = λ (x : ℕ) (y : ℕ). times_beside x y (filter set b.accesses) in
    let split : over_all n (between set (b ∷ bs)) ≡ over_all n (λ x y. b.weight * f x y + between set bs x y) = all_same n (between set (b ∷ bs)) (λ x y. b.weight * f x y + between set bs x y) (λ x y _ _. sum_by-cons (λ c. c.weight * times_beside x y (filter set c.accesses)) b bs) in
    let few : length (filter set b.accesses) ≤ length b.accesses = omega (arith, length-filter set b.accesses, count_by-le-length set b.accesses) in
    let here : b.weight * over_all n f ≤ b.weight * (2 * length b.accesses) = mul-le-mul_left b.weight (omega (arith, beside_small n (filter set b.accesses), few)) in
    let turned : b.weight * (2 * length b.accesses) ≡ 2 * counted b = omega arith in
    omega (arith, split, all_plus n (λ x y. b.weight * f x y) (between set bs), all_times n b.weight f, here, turned, blocks_small n set bs, sum_by-cons counted b bs)

pub weights_small : (seq : Sequence) (set : ℕ → Bool) → IsSequence seq → over_all seq.scalars (weight_between seq set) ≤ 2 ^ 61
weights_small seq set h = omega (arith, blocks_small seq.scalars set seq.blocks, h.countable)

pub table_small : (seq : Sequence) (set : ℕ → Bool) (table : List ℕ) → IsSequence seq → AreWeights seq set table → over_all seq.scalars (weight_at table) ≤ 2 ^ 61
table_small seq set table h are =
    let same = all_same seq.scalars (weight_at table) (weight_between seq set) (λ x y lx ly. are.weights x y (omega (arith, lx, h.few)) (omega (arith, ly, h.few))) in
    omega (arith, same, weights_small seq set h)

-- what is made of some of them is no more
max_le_sum : {X : Type 0} (f : X → ℕ) (a : ℕ) (xs : List X) → fold max a (map f xs) ≤ a + sum_by f xs
max_le_sum f a [] = omega arith
max_le_sum f a (x ∷ xs) = omega (arith, max_le_sum f (max a (f x)) xs, sum_by-cons f x xs)

pub greatest_le : {X : Type 0} (f : X → ℕ) (xs : List X) → greatest (map f xs) ≤ sum_by f xs
greatest_le f xs = omega (arith, max_le_sum f 0 xs)

pub greatest_small : (w : ℕ → ℕ → ℕ) (p : ℕ → Bool) (n : ℕ) → sum_by (λ s. greatest (map (w s) (filter p (range_with_len 0 n)))) (filter p (range_with_len 0 n)) ≤ over_all n w
greatest_small w p n =
    let few = filter p (range_with_len 0 n) in
    let g = λ (s : ℕ). greatest (map (w s) few) in
    let each : sum_by g few ≤ sum_by (λ s. sum_by (w s) (range_with_len 0 n)) few = sum_by-le-sum_by g (λ s. sum_by (w s) (range_with_len 0 n)) few (λ s. omega (arith, greatest_le (w s) few, sum_filter_le (w s) p (range_with_len 0 n))) in
    omega (arith, each, sum_filter_le (λ s. sum_by (w s) (range_with_len 0 n)) p (range_with_len 0 n))

abbrev both : (ℕ → ℕ → ℕ) → List ℕ → ℕ
both w xs = sum_by (λ x. sum_by (w x) xs) xs

pairs_le_both : (w : ℕ → ℕ → ℕ) (xs : List ℕ) → sum_of_pairs w xs ≤ both w xs
pairs_le_both w [] = omega arith
pairs_le_both w (x ∷ xs) =
    let more : both w xs ≤ sum_by (λ y. sum_by (w y) (x ∷ xs)) xs = sum_by-le-sum_by (λ y. sum_by (w y) xs) (λ y. sum_by (w y) (x ∷ xs)) xs (λ y. omega (arith, sum_by-cons (w y) x xs)) in
    omega (arith, pairs_le_both w xs, more, sum_by-cons (λ y. sum_by (w y) (x ∷ xs)) x xs, sum_by-cons (w x) x xs)

pub pairs_small : (w : ℕ → ℕ → ℕ) (n : ℕ) → sum_of_pairs w (range_with_len 0 n) ≤ over_all n w
pairs_small w n = pairs_le_both w (range_with_len 0 n)
