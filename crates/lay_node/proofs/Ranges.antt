-- Sums and greatest numbers over the scalars below a number, one more at a time.
use Rattle.std.proofs.Common.{◌≡◌, ℕ, zero, suc, ◌+◌, ◌-◌, ◌<◌, ◌≤◌, max, Bool, true, false, cond, List, [], ◌∷◌, ◌++◌, map, filter, refl, ap, subst, ◌∙◌, arith, append-nil}
use Rattle.std.specs.Prelude.{sum_by}
use Rattle.std.specs.List.{range_with_len}
use Rattle.std.proofs.lemmas.List.{map_push}
use Rattle.std.proofs.lemmas.List.Elements.{filter-append}
use Rattle.std.proofs.lemmas.List.Sums.{sum_by-cons, sum_by_push, fold_push}
use Rattle.lay_cost.specs.Weights.{weight_at}
use Rattle.lay_tree.specs.Bound.{greatest, sum_of_pairs}
use Rattle.lay_node.specs.Levels.{is_free, free_below, greatest_among}

pub range_from : (a n : ℕ) → range_with_len a (suc n) ≡ range_with_len a n ++ ((a + n) ∷ [])
range_from a zero = let e : a ≡ a + 0 = omega arith in ap (λ x. x ∷ []) e
range_from a (suc n) = let e : (a + 1) + n ≡ a + suc n = omega arith in ap (λ l. a ∷ l) (range_from (a + 1) n ∙ ap (λ x. range_with_len (a + 1) n ++ (x ∷ [])) e)

pub range_more : (n : ℕ) → range_with_len 0 (n + 1) ≡ range_with_len 0 n ++ (n ∷ [])
range_more n =
    let one : n + 1 ≡ suc n = omega arith in
    let none : 0 + n ≡ n = omega arith in
    ap (range_with_len 0) one ∙ range_from 0 n ∙ ap (λ x. range_with_len 0 n ++ (x ∷ [])) none

pub sum_range_more : (f : ℕ → ℕ) (n : ℕ) → sum_by f (range_with_len 0 (n + 1)) ≡ sum_by f (range_with_len 0 n) + f n
sum_range_more f n = ap (sum_by f) (range_more n) ∙ sum_by_push f (range_with_len 0 n) n

pub sum_range_le : (f : ℕ → ℕ) (i d : ℕ) → sum_by f (range_with_len 0 i) ≤ sum_by f (range_with_len 0 (i + d))
sum_range_le f i zero = let e : i + 0 ≡ i = omega arith in rw e (omega arith)
sum_range_le f i (suc d) =
    let e : i + suc d ≡ (i + d) + 1 = omega arith in
    rw e (omega (arith, sum_range_more f (i + d), sum_range_le f i d))

pub sum_range_fits : (f : ℕ → ℕ) (i n : ℕ) → i < n → sum_by f (range_with_len 0 i) + f i ≤ sum_by f (range_with_len 0 n)
sum_range_fits f i n lt =
    let d = (n - (i + 1)) in
    let e : (i + 1) + d ≡ n = omega arith in
    omega (arith, sum_range_more f i, subst (λ m. sum_by f (range_with_len 0 (i + 1)) ≤ sum_by f (range_with_len 0 m)) e (sum_range_le f (i + 1) d))

pub pairs_push : (w : ℕ → ℕ → ℕ) (xs : List ℕ) (y : ℕ) → sum_of_pairs w (xs ++ (y ∷ [])) ≡ sum_of_pairs w xs + sum_by (λ x. w x y) xs
pairs_push w [] y = refl
pairs_push w (x ∷ xs) y = omega (arith, pairs_push w xs y, sum_by_push (w x) xs y, sum_by-cons (λ z. w z y) x xs)

pub pairs_more : (w : ℕ → ℕ → ℕ) (n : ℕ) → sum_of_pairs w (range_with_len 0 (n + 1)) ≡ sum_of_pairs w (range_with_len 0 n) + sum_by (λ x. w x n) (range_with_len 0 n)
pairs_more w n = ap (sum_of_pairs w) (range_more n) ∙ pairs_push w (range_with_len 0 n) n

pairs_le : (w : ℕ → ℕ → ℕ) (i d : ℕ) → sum_of_pairs w (range_with_len 0 i) ≤ sum_of_pairs w (range_with_len 0 (i + d))
pairs_le w i zero = let e : i + 0 ≡ i = omega arith in rw e (omega arith)
pairs_le w i (suc d) =
    let e : i + suc d ≡ (i + d) + 1 = omega arith in
    rw e (omega (arith, pairs_more w (i + d), pairs_le w i d))

pub pairs_fit : (w : ℕ → ℕ → ℕ) (i n : ℕ) → i < n → sum_of_pairs w (range_with_len 0 i) + sum_by (λ x. w x i) (range_with_len 0 i) ≤ sum_of_pairs w (range_with_len 0 n)
pairs_fit w i n lt =
    let d = (n - (i + 1)) in
    let e : (i + 1) + d ≡ n = omega arith in
    omega (arith, pairs_more w i, subst (λ m. sum_of_pairs w (range_with_len 0 (i + 1)) ≤ sum_of_pairs w (range_with_len 0 m)) e (pairs_le w (i + 1) d))

-- the scalars that aren't placed, one more at a time
pub free_more : (placed : List Bool) (n : ℕ) → free_below placed (n + 1) ≡ free_below placed n ++ cond (is_free placed n) (n ∷ []) []
free_more placed n = ap (filter (is_free placed)) (range_more n) ∙ filter-append (is_free placed) (range_with_len 0 n) (n ∷ [])

pub free_next : (placed : List Bool) (n : ℕ) → is_free placed n ≡ true → free_below placed (n + 1) ≡ free_below placed n ++ (n ∷ [])
free_next placed n e = free_more placed n ∙ ap (λ b. free_below placed n ++ cond b (n ∷ []) []) e

pub free_skip : (placed : List Bool) (n : ℕ) → is_free placed n ≡ false → free_below placed (n + 1) ≡ free_below placed n
free_skip placed n e = free_more placed n ∙ ap (λ b. free_below placed n ++ cond b (n ∷ []) []) e ∙ append-nil (free_below placed n)

pub greatest_push : (table others : List ℕ) (s o : ℕ) → greatest_among table (others ++ (o ∷ [])) s ≡ max (greatest_among table others s) (weight_at table s o)
greatest_push table others s o = ap greatest (map_push (weight_at table s) others o) ∙ fold_push max 0 (map (weight_at table s) others) (weight_at table s o)

pub greatest_next : (table : List ℕ) (placed : List Bool) (s n : ℕ) → is_free placed n ≡ true → greatest_among table (free_below placed (n + 1)) s ≡ max (greatest_among table (free_below placed n) s) (weight_at table s n)
greatest_next table placed s n e = ap (λ o. greatest_among table o s) (free_next placed n e) ∙ greatest_push table (free_below placed n) s n

pub greatest_skip : (table : List ℕ) (placed : List Bool) (s n : ℕ) → is_free placed n ≡ false → greatest_among table (free_below placed (n + 1)) s ≡ greatest_among table (free_below placed n) s
greatest_skip table placed s n e = ap (λ o. greatest_among table o s) (free_skip placed n e)

pub sum_free_next : (f : ℕ → ℕ) (placed : List Bool) (n : ℕ) → is_free placed n ≡ true → sum_by f (free_below placed (n + 1)) ≡ sum_by f (free_below placed n) + f n
sum_free_next f placed n e = ap (sum_by f) (free_next placed n e) ∙ sum_by_push f (free_below placed n) n

pub sum_free_skip : (f : ℕ → ℕ) (placed : List Bool) (n : ℕ) → is_free placed n ≡ false → sum_by f (free_below placed (n + 1)) ≡ sum_by f (free_below placed n)
sum_free_skip f placed n e = ap (sum_by f) (free_skip placed n e)

sum_free_step : (f : ℕ → ℕ) (placed : List Bool) (n : ℕ) → sum_by f (free_below placed n) ≤ sum_by f (free_below placed (n + 1))
sum_free_step f placed n = by (is_free placed n) refl
  where
    by : (b : Bool) → is_free placed n ≡ b → sum_by f (free_below placed n) ≤ sum_by f (free_below placed (n + 1))
    by true e = omega (arith, sum_free_next f placed n e)
    by false e = omega (arith, sum_free_skip f placed n e)

sum_free_le : (f : ℕ → ℕ) (placed : List Bool) (i d : ℕ) → sum_by f (free_below placed i) ≤ sum_by f (free_below placed (i + d))
sum_free_le f placed i zero = let e : i + 0 ≡ i = omega arith in rw e (omega arith)
sum_free_le f placed i (suc d) =
    let e : i + suc d ≡ (i + d) + 1 = omega arith in
    rw e (omega (arith, sum_free_step f placed (i + d), sum_free_le f placed i d))

pub sum_free_fits : (f : ℕ → ℕ) (placed : List Bool) (i n : ℕ) → i < n → is_free placed i ≡ true → sum_by f (free_below placed i) + f i ≤ sum_by f (free_below placed n)
sum_free_fits f placed i n lt e =
    let d = (n - (i + 1)) in
    let is : (i + 1) + d ≡ n = omega arith in
    omega (arith, sum_free_next f placed i e, subst (λ m. sum_by f (free_below placed (i + 1)) ≤ sum_by f (free_below placed m)) is (sum_free_le f placed (i + 1) d))

-- where the greatest of two numbers isn't the second one, it is the first one
pub other_is_greatest : (a b m : ℕ) → m ≡ max a b → (b ≡ m → ⊥) → m ≡ a
other_is_greatest a b m e ne = omega arith
