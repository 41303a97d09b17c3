-- How many numbers of a list are below a number, by how often each one stands there.
use Rattle.std.proofs.Common.{◌≡◌, ℕ, zero, suc, ◌+◌, ◌<◌, ◌≤◌, Bool, true, false, cond, nat_lt, ◌==◌, List, [], ◌∷◌, length, count_by, refl, ap, ◌∙◌, arith, lt-suc_self}
use Rattle.std.specs.Prelude.{All}
use Rattle.std.proofs.lemmas.Bool.Decides.{nat_tests}
use Rattle.std.proofs.lemmas.List.Elements.{All-head, All-tail, All-nil, All-cons}
use Rattle.std.proofs.lemmas.List.Sums.{sum_by-cons, count_by-le-length}
use Rattle.lay_cost.specs.Placements.{has}

abbrev is : ℕ → ℕ → Bool
is n x = x == n

abbrev below : ℕ → ℕ → Bool
below n x = nat_lt x n

abbrev one : Bool → ℕ
one b = cond b 1 0

below_more : (n x : ℕ) → one (below (suc n) x) ≡ one (below n x) + one (is n x)
below_more n x = grind (arith, nat_tests)

none_below : (x : ℕ) → one (below 0 x) ≡ 0
none_below x = grind (arith, nat_tests)

pub count_cons : (p : ℕ → Bool) (x : ℕ) (xs : List ℕ) → count_by p (x ∷ xs) ≡ cond (p x) 1 0 + count_by p xs
count_cons p x xs = sum_by-cons (λ y. cond (p y) 1 0) x xs

pub count_below_more : (n : ℕ) (xs : List ℕ) → count_by (below (suc n)) xs ≡ count_by (below n) xs + count_by (is n) xs
count_below_more n [] = refl
count_below_more n (x ∷ xs) = omega (arith, count_cons (below (suc n)) x xs, count_cons (below n) x xs, count_cons (is n) x xs, below_more n x, count_below_more n xs)

count_below_none : (xs : List ℕ) → count_by (below 0) xs ≡ 0
count_below_none [] = refl
count_below_none (x ∷ xs) = omega (arith, count_cons (below 0) x xs, none_below x, count_below_none xs)

-- each once
pub count_below : (n : ℕ) (xs : List ℕ) → ((s : ℕ) → s < n → count_by (λ x. x == s) xs ≡ 1) → count_by (λ x. nat_lt x n) xs ≡ n
count_below zero xs once = count_below_none xs
count_below (suc n) xs once = omega (arith, count_below_more n xs, count_below n xs (λ s lt. once s (omega arith)), once n (lt-suc_self n))

-- each once at most
pub count_below_le : (n : ℕ) (xs : List ℕ) → ((s : ℕ) → count_by (λ x. x == s) xs ≤ 1) → count_by (λ x. nat_lt x n) xs ≤ n
count_below_le zero xs once = omega (arith, count_below_none xs)
count_below_le (suc n) xs once = omega (arith, count_below_more n xs, count_below_le n xs once, once n)

-- the first element counts or not
pub count_first : (p : ℕ → Bool) (x : ℕ) (xs : List ℕ) (t : Bool) → p x ≡ t → count_by p (x ∷ xs) ≡ cond t 1 0 + count_by p xs
count_first p x xs t is = count_cons p x xs ∙ ap (λ b. cond b 1 0 + count_by p xs) is

-- where all count, all pass
pub all_counted : (p : ℕ → Bool) (xs : List ℕ) → count_by p xs ≡ length xs → All (λ x. p x ≡ true) xs
all_counted p [] e = All-nil (λ x. p x ≡ true)
all_counted p (x ∷ xs) e = by (p x) refl (all_counted p xs)
  where
    by : (t : Bool) → p x ≡ t → (count_by p xs ≡ length xs → All (λ x. p x ≡ true) xs) → All (λ x. p x ≡ true) (x ∷ xs)
    by true is rest = All-cons (λ x. p x ≡ true) x xs is (rest (omega (arith, count_first p x xs true is, e)))
    by false is rest = absurd (omega (arith, count_first p x xs false is, e, count_by-le-length p xs))

pub count_all : (p : ℕ → Bool) (xs : List ℕ) → All (λ x. p x ≡ true) xs → count_by p xs ≡ length xs
count_all p [] all = refl
count_all p (x ∷ xs) all = omega (arith, count_first p x xs true (All-head (λ x. p x ≡ true) x xs all), count_all p xs (All-tail (λ x. p x ≡ true) x xs all))

-- what doesn't count doesn't stand there
pub not_there : (s : ℕ) (xs : List ℕ) → count_by (λ x. x == s) xs ≡ 0 → has xs s ≡ false
not_there s [] e = refl
not_there s (x ∷ xs) e = by (x == s) refl (not_there s xs)
  where
    by : (t : Bool) → (x == s) ≡ t → (count_by (λ x. x == s) xs ≡ 0 → has xs s ≡ false) → has (x ∷ xs) s ≡ false
    by true is rest = absurd (omega (arith, count_first (λ x. x == s) x xs true is, e))
    by false is rest = rw is (rest (omega (arith, count_first (λ x. x == s) x xs false is, e)))

-- what counts stands there
pub is_there : (s : ℕ) (xs : List ℕ) → 1 ≤ count_by (λ x. x == s) xs → has xs s ≡ true
is_there s [] e = absurd (omega arith)
is_there s (x ∷ xs) e = by (x == s) refl (is_there s xs)
  where
    by : (t : Bool) → (x == s) ≡ t → (1 ≤ count_by (λ x. x == s) xs → has xs s ≡ true) → has (x ∷ xs) s ≡ true
    by true is rest = rw is refl
    by false is rest = rw is (rest (omega (arith, count_first (λ x. x == s) x xs false is, e)))
