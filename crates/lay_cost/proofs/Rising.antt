-- The scalars of a register in the order of their offsets.
use Rattle.std.proofs.Common.{◌≡◌, ℕ, zero, suc, ◌+◌, ◌<◌, ◌≤◌, Bool, true, false, cond, nat_lt, ◌==◌, ◌||◌, ◌&&◌, get_or, ℤ, pos, ◌+ℤ◌, ◌-ℤ◌, nat_abs, ◌<ℤ◌, ◌≤ℤ◌, int_lt, List, [], ◌∷◌, length, count_by, refl, ap, sym, ◌∙◌, arith, if◌then◌else◌, eqb-true, lt-suc_self, lt_trans, subst, true≢false, eq-eqb, add-zero}
use Rattle.std.specs.Prelude.{All}
use Rattle.std.specs.List.{range_with_len}
use Rattle.std.proofs.lemmas.Int.{ints, by_lt_z}
use Rattle.std.proofs.lemmas.Bool.Decides.{nat_tests}
use Rattle.std.proofs.lemmas.List.Elements.{All-head, All-tail, All-nil, All-cons, All-weaker}
use Rattle.lay_cost.specs.Placements.{Placement, has, position_in, scalars_on}
use Rattle.lay_cost.proofs.Counts.{count_first, count_cons}

abbrev pub insert_at : Placement → ℕ → List ℕ → List ℕ
insert_at p s [] = s ∷ []
insert_at p s (x ∷ xs) = if int_lt (p.offset s) (p.offset x) then s ∷ x ∷ xs else x ∷ insert_at p s xs

-- the scalars below n of a register, by rising offsets
abbrev pub rising : Placement → ℕ → ℕ → List ℕ
rising p r zero = []
rising p r (suc n) = if p.register n == r then insert_at p n (rising p r n) else rising p r n

abbrev pub Rising : Placement → List ℕ → Type 0
Rising p [] = Unit {0}
Rising p (x ∷ xs) = All (λ y. p.offset x <ℤ p.offset y) xs × Rising p xs

not_less : (a b : ℤ) → a ≤ℤ b → int_lt b a ≡ false
not_less a b h = grind (arith, ints)

less : (a b : ℤ) → a <ℤ b → int_lt a b ≡ true
less a b h = grind (arith, ints)

count_insert : (q : ℕ → Bool) (p : Placement) (s : ℕ) (xs : List ℕ) → count_by q (insert_at p s xs) ≡ cond (q s) 1 0 + count_by q xs
count_insert q p s [] = count_cons q s []
count_insert q p s (x ∷ xs) = by (int_lt (p.offset s) (p.offset x)) (count_insert q p s xs)
  where
    by : (t : Bool) → count_by q (insert_at p s xs) ≡ cond (q s) 1 0 + count_by q xs → count_by q (if t then s ∷ x ∷ xs else x ∷ insert_at p s xs) ≡ cond (q s) 1 0 + count_by q (x ∷ xs)
    by true rest = count_cons q s (x ∷ xs)
    by false rest = omega (arith, rest, count_cons q x (insert_at p s xs), count_cons q x xs)

length_insert : (p : Placement) (s : ℕ) (xs : List ℕ) → length (insert_at p s xs) ≡ suc (length xs)
length_insert p s [] = refl
length_insert p s (x ∷ xs) = by (int_lt (p.offset s) (p.offset x)) (length_insert p s xs)
  where
    by : (t : Bool) → length (insert_at p s xs) ≡ suc (length xs) → length (if t then s ∷ x ∷ xs else x ∷ insert_at p s xs) ≡ suc (suc (length xs))
    by true rest = refl
    by false rest = ap suc rest

all_insert : (P : ℕ → Type 0) (p : Placement) (s : ℕ) (xs : List ℕ) → P s → All P xs → All P (insert_at p s xs)
all_insert P p s [] h all = All-cons P s [] h all
all_insert P p s (x ∷ xs) h all = by (int_lt (p.offset s) (p.offset x)) (all_insert P p s xs h (All-tail P x xs all))
  where
    by : (t : Bool) → All P (insert_at p s xs) → All P (if t then s ∷ x ∷ xs else x ∷ insert_at p s xs)
    by true rest = All-cons P s (x ∷ xs) h all
    by false rest = All-cons P x (insert_at p s xs) (All-head P x xs all) rest

below_or_equal : (a b : ℤ) → int_lt a b ≡ false → (a ≡ b → ⊥) → b <ℤ a
below_or_equal a b e n = by_lt_z b a (λ lt. lt) (λ le. absurd (n (omega (arith, ints))))

less_is : (a b : ℤ) → int_lt a b ≡ true → a <ℤ b
less_is a b e = by_lt_z a b (λ lt. lt) (λ le. absurd (omega (arith, ints)))

less_trans : (a b c : ℤ) → a <ℤ b → b <ℤ c → a <ℤ c
less_trans a b c h k = omega (arith, ints)

rising_insert : (p : Placement) (s : ℕ) (xs : List ℕ) → Rising p xs → All (λ x. p.offset s ≡ p.offset x → ⊥) xs → Rising p (insert_at p s xs)
rising_insert p s [] h apart = (All-nil (λ y. p.offset s <ℤ p.offset y), tt)
rising_insert p s (x ∷ xs) h apart = by (int_lt (p.offset s) (p.offset x)) refl (rising_insert p s xs h.1 (All-tail (λ x. p.offset s ≡ p.offset x → ⊥) x xs apart))
  where
    by : (t : Bool) → int_lt (p.offset s) (p.offset x) ≡ t → Rising p (insert_at p s xs) → Rising p (if t then s ∷ x ∷ xs else x ∷ insert_at p s xs)
    by true e rest = (All-cons (λ y. p.offset s <ℤ p.offset y) x xs (less_is (p.offset s) (p.offset x) e) (All-weaker (λ y. p.offset x <ℤ p.offset y) (λ y. p.offset s <ℤ p.offset y) (λ y lt. less_trans (p.offset s) (p.offset x) (p.offset y) (less_is (p.offset s) (p.offset x) e) lt) xs h.0), h)
    by false e rest = (all_insert (λ y. p.offset x <ℤ p.offset y) p s xs (below_or_equal (p.offset s) (p.offset x) e (All-head (λ x. p.offset s ≡ p.offset x → ⊥) x xs apart)) h.0, rest)

-- what is true of each element is true of one that stands there
pub all_has : (P : ℕ → Type 0) (xs : List ℕ) (s : ℕ) → All P xs → has xs s ≡ true → P s
all_has P [] s all e = absurd (true≢false (sym e))
all_has P (x ∷ xs) s all e = by (x == s) refl (all_has P xs s (All-tail P x xs all))
  where
    by : (t : Bool) → (x == s) ≡ t → (has xs s ≡ true → P s) → P s
    by true is rest = subst P (eqb-true x s is) (All-head P x xs all)
    by false is rest = rest (ap (λ b. b || has xs s) (sym is) ∙ e)

pub count_none : (q : ℕ → Bool) (xs : List ℕ) → All (λ x. q x ≡ false) xs → count_by q xs ≡ 0
count_none q [] all = refl
count_none q (x ∷ xs) all = omega (arith, count_first q x xs false (All-head (λ x. q x ≡ false) x xs all), count_none q xs (All-tail (λ x. q x ≡ false) x xs all))

-- a scalar's position is how many have smaller offsets
pub position_is_rank : (p : Placement) (l : List ℕ) (s : ℕ) → Rising p l → has l s ≡ true → position_in l s ≡ count_by (λ t. int_lt (p.offset t) (p.offset s)) l
position_is_rank p [] s h e = refl
position_is_rank p (x ∷ xs) s h e = by (x == s) refl (position_is_rank p xs s h.1)
  where
    by : (t : Bool) → (x == s) ≡ t → (has xs s ≡ true → position_in xs s ≡ count_by (λ t. int_lt (p.offset t) (p.offset s)) xs) → (if t then 0 else suc (position_in xs s)) ≡ count_by (λ t. int_lt (p.offset t) (p.offset s)) (x ∷ xs)
    by true is rest =
        let same = eqb-true x s is in
        let first = count_first (λ t. int_lt (p.offset t) (p.offset s)) x xs false (not_less (p.offset s) (p.offset x) (rw same (omega (arith, ints)))) in
        let none = count_none (λ t. int_lt (p.offset t) (p.offset s)) xs (All-weaker (λ y. p.offset x <ℤ p.offset y) (λ y. int_lt (p.offset y) (p.offset s) ≡ false) (λ y lt. not_less (p.offset s) (p.offset y) (rw (← same) (omega (arith, ints)))) xs h.0) in
        omega (arith, first, none)
    by false is rest =
        let later : has xs s ≡ true = ap (λ b. b || has xs s) (sym is) ∙ e in
        let first = count_first (λ t. int_lt (p.offset t) (p.offset s)) x xs true (less (p.offset x) (p.offset s) (all_has (λ y. p.offset x <ℤ p.offset y) xs s h.0 later)) in
        omega (arith, first, rest later)

above_all : (p : Placement) (x : ℕ) (xs : List ℕ) (a b : ℤ) → All (λ y. p.offset x <ℤ p.offset y) xs → b ≡ a +ℤ pos 1 → a ≤ℤ p.offset x → All (λ y. int_lt (p.offset y) b ≡ false) xs
above_all p x xs a b all e le = All-weaker (λ y. p.offset x <ℤ p.offset y) (λ y. int_lt (p.offset y) b ≡ false) (λ y lt. not_less b (p.offset y) (omega (arith, ints))) xs all

-- a number and the next one: how many are below it grows by one at most, as offsets are apart
pub count_next : (p : Placement) (l : List ℕ) (a b : ℤ) → Rising p l → b ≡ a +ℤ pos 1 → count_by (λ t. int_lt (p.offset t) b) l ≤ count_by (λ t. int_lt (p.offset t) a) l + 1
count_next p [] a b h e = omega arith
count_next p (x ∷ xs) a b h e = by_lt_z (p.offset x) a (small (count_next p xs a b h.1 e)) large
  where
    small : count_by (λ t. int_lt (p.offset t) b) xs ≤ count_by (λ t. int_lt (p.offset t) a) xs + 1 → p.offset x <ℤ a → count_by (λ t. int_lt (p.offset t) b) (x ∷ xs) ≤ count_by (λ t. int_lt (p.offset t) a) (x ∷ xs) + 1
    small rest lt = omega (arith, rest, count_first (λ t. int_lt (p.offset t) b) x xs true (less (p.offset x) b (omega (arith, ints))), count_first (λ t. int_lt (p.offset t) a) x xs true (less (p.offset x) a lt))

    at_most : (t : Bool) → int_lt (p.offset x) b ≡ t → count_by (λ t. int_lt (p.offset t) b) (x ∷ xs) ≤ 1 + count_by (λ t. int_lt (p.offset t) b) xs
    at_most true is = omega (arith, count_first (λ t. int_lt (p.offset t) b) x xs true is)
    at_most false is = omega (arith, count_first (λ t. int_lt (p.offset t) b) x xs false is)

    large : a ≤ℤ p.offset x → count_by (λ t. int_lt (p.offset t) b) (x ∷ xs) ≤ count_by (λ t. int_lt (p.offset t) a) (x ∷ xs) + 1
    large le = omega (arith, at_most (int_lt (p.offset x) b) refl, count_none (λ t. int_lt (p.offset t) b) xs (above_all p x xs a b h.0 e le))

-- and doesn't shrink
pub count_no_less : (p : Placement) (l : List ℕ) (a b : ℤ) → a ≤ℤ b → count_by (λ t. int_lt (p.offset t) a) l ≤ count_by (λ t. int_lt (p.offset t) b) l
count_no_less p [] a b h = omega arith
count_no_less p (x ∷ xs) a b h = by_lt_z (p.offset x) a (small (count_no_less p xs a b h)) (large (count_no_less p xs a b h))
  where
    small : count_by (λ t. int_lt (p.offset t) a) xs ≤ count_by (λ t. int_lt (p.offset t) b) xs → p.offset x <ℤ a → count_by (λ t. int_lt (p.offset t) a) (x ∷ xs) ≤ count_by (λ t. int_lt (p.offset t) b) (x ∷ xs)
    small rest lt = omega (arith, rest, count_first (λ t. int_lt (p.offset t) b) x xs true (less (p.offset x) b (omega (arith, ints))), count_first (λ t. int_lt (p.offset t) a) x xs true (less (p.offset x) a lt))

    large : count_by (λ t. int_lt (p.offset t) a) xs ≤ count_by (λ t. int_lt (p.offset t) b) xs → a ≤ℤ p.offset x → count_by (λ t. int_lt (p.offset t) a) (x ∷ xs) ≤ count_by (λ t. int_lt (p.offset t) b) (x ∷ xs)
    large rest le = omega (arith, rest, count_first (λ t. int_lt (p.offset t) a) x xs false (not_less a (p.offset x) le), count_cons (λ t. int_lt (p.offset t) b) x xs)

-- scalars that are 1 apart at most are so in the list
pub near_in_list : (p : Placement) (l : List ℕ) (s t : ℕ) → Rising p l → has l s ≡ true → has l t ≡ true → nat_abs (p.offset s -ℤ p.offset t) ≤ 1 → nat_abs (pos (position_in l s) -ℤ pos (position_in l t)) ≤ 1
near_in_list p l s t h has_s has_t near =
    rw (position_is_rank p l s h has_s, position_is_rank p l t h has_t)
    (by_lt_z (p.offset s) (p.offset t) (λ lt. let next : p.offset t ≡ p.offset s +ℤ pos 1 = omega (arith, ints) in omega (arith, ints, count_next p l (p.offset s) (p.offset t) h next, count_no_less p l (p.offset s) (p.offset t) (omega (arith, ints))))
    (λ le. by_lt_z (p.offset t) (p.offset s) (λ lt. let next : p.offset s ≡ p.offset t +ℤ pos 1 = omega (arith, ints) in omega (arith, ints, count_next p l (p.offset t) (p.offset s) h next, count_no_less p l (p.offset t) (p.offset s) (omega (arith, ints))))
    (λ ge. let same : p.offset s ≡ p.offset t = omega (arith, ints) in rw same (omega (arith, ints)))))

-- without gaps, offsets are positions
pub record Between (p : Placement) (low high s : ℕ) : Type 0 where
  pub at : ℕ
  pub is : p.offset s ≡ pos at
  pub from : low ≤ at
  pub below : at < high

narrow : (p : Placement) (low high : ℕ) (x y : ℕ) → Between p low high x → Between p low high y → p.offset x <ℤ p.offset y → Between p (suc low) high y
narrow p low high x y hx hy lt = record { at = hy.at; is = hy.is; from = omega (arith, ints, hx.is, hy.is, hx.from); below = hy.below }

first_is_low : (p : Placement) (low : ℕ) (x : ℕ) (xs : List ℕ) → All (λ y. p.offset x <ℤ p.offset y) xs → ((s : ℕ) → has xs s ≡ true → p.offset s ≡ pos (position_in xs s + suc low)) → Between p low (low + suc (length xs)) x → p.offset x ≡ pos low
first_is_low p low x [] above rest h = omega (arith, ints, h.is, h.from, h.below)
first_is_low p low x (y ∷ ys) above rest h =
    let self : has (y ∷ ys) y ≡ true = ap (λ b. b || has ys y) (eq-eqb y y refl) in
    let here : position_in (y ∷ ys) y ≡ 0 = ap (λ b. if b then 0 else suc (position_in ys y)) (eq-eqb y y refl) in
    omega (arith, ints, h.is, h.from, All-head (λ y. p.offset x <ℤ p.offset y) y ys above, rest y self, here)

pub dense_is_position : (p : Placement) (low : ℕ) (l : List ℕ) → Rising p l → All (Between p low (low + length l)) l → (s : ℕ) → has l s ≡ true → p.offset s ≡ pos (position_in l s + low)
dense_is_position p low [] h all s e = absurd (true≢false (sym e))
dense_is_position p low (x ∷ xs) h all s e = by (x == s) refl (dense_is_position p (suc low) xs h.1 inner)
  where
    high : low + suc (length xs) ≡ suc low + length xs
    high = omega arith

    inner : All (Between p (suc low) (suc low + length xs)) xs
    inner k d lt = subst (λ n. Between p (suc low) n (get_or xs k d)) high (narrow p low (low + suc (length xs)) x (get_or xs k d) (All-head (Between p low (low + suc (length xs))) x xs all) (All-tail (Between p low (low + suc (length xs))) x xs all k d lt) (h.0 k d lt))

    by : (t : Bool) → (x == s) ≡ t → ((s : ℕ) → has xs s ≡ true → p.offset s ≡ pos (position_in xs s + suc low)) → p.offset s ≡ pos ((if t then 0 else suc (position_in xs s)) + low)
    by true is rest = ap p.offset (sym (eqb-true x s is)) ∙ first_is_low p low x xs h.0 rest (All-head (Between p low (low + suc (length xs))) x xs all) ∙ ap pos (omega arith)
    by false is rest = rest s (ap (λ b. b || has xs s) (sym is) ∙ e) ∙ ap pos (omega arith)

-- the scalars below n of a register
pub record IsOn (p : Placement) (r n s : ℕ) : Type 0 where
  pub register : p.register s ≡ r
  pub below : s < n

abbrev pub Apart : Placement → ℕ → Type 0
Apart p n = (s t : ℕ) → s < n → t < n → p.register s ≡ p.register t → p.offset s ≡ p.offset t → s ≡ t

pub on_register : (p : Placement) (r n : ℕ) → All (IsOn p r n) (rising p r n)
on_register p r zero = All-nil (IsOn p r zero)
on_register p r (suc n) = by (p.register n == r) refl (All-weaker (IsOn p r n) (IsOn p r (suc n)) (λ s h. record { register = h.register; below = lt_trans h.below (lt-suc_self n) }) (rising p r n) (on_register p r n))
  where
    by : (t : Bool) → (p.register n == r) ≡ t → All (IsOn p r (suc n)) (rising p r n) → All (IsOn p r (suc n)) (if t then insert_at p n (rising p r n) else rising p r n)
    by true is rest = all_insert (IsOn p r (suc n)) p n (rising p r n) (record { register = eqb-true (p.register n) r is; below = lt-suc_self n }) rest
    by false is rest = rest

pub rising_rises : (p : Placement) (r n : ℕ) → Apart p n → Rising p (rising p r n)
rising_rises p r zero apart = tt
rising_rises p r (suc n) apart = by (p.register n == r) refl (rising_rises p r n (λ s t a b. apart s t (lt_trans a (lt-suc_self n)) (lt_trans b (lt-suc_self n))))
  where
    by : (t : Bool) → (p.register n == r) ≡ t → Rising p (rising p r n) → Rising p (if t then insert_at p n (rising p r n) else rising p r n)
    by true is rest = rising_insert p n (rising p r n) rest (λ k d lt same. let on = on_register p r n k d lt in absurd (omega (arith, on.below, apart n (get_or (rising p r n) k d) (lt-suc_self n) (lt_trans on.below (lt-suc_self n)) (eqb-true (p.register n) r is ∙ sym on.register) same)))
    by false is rest = rest

abbrev pub one : Bool → ℕ
one t = cond t 1 0

lt_zero : (s : ℕ) → nat_lt s 0 ≡ false
lt_zero s = grind (arith, nat_tests)

lt_other : (s n : ℕ) → (n == s) ≡ false → nat_lt s (suc n) ≡ nat_lt s n
lt_other s n e = grind (arith, nat_tests)

lt_itself : (s n : ℕ) → (n == s) ≡ true → nat_lt s n ≡ false
lt_itself s n e = grind (arith, nat_tests)

lt_next : (s n : ℕ) → (n == s) ≡ true → nat_lt s (suc n) ≡ true
lt_next s n e = grind (arith, nat_tests)

-- each of them stands there once, and no other one
pub count_rising : (p : Placement) (r n s : ℕ) → count_by (λ t. t == s) (rising p r n) ≡ (if nat_lt s n && (p.register s == r) then 1 else 0)
count_rising p r zero s = rw (lt_zero s) refl
count_rising p r (suc n) s = by (p.register n == r) (n == s) refl refl (count_rising p r n s)
  where
    same : (n == s) ≡ true → (p.register s == r) ≡ (p.register n == r)
    same e = ap (λ m. p.register m == r) (sym (eqb-true n s e))

    by : (t u : Bool) → (p.register n == r) ≡ t → (n == s) ≡ u → count_by (λ t. t == s) (rising p r n) ≡ (if nat_lt s n && (p.register s == r) then 1 else 0) → count_by (λ t. t == s) (if t then insert_at p n (rising p r n) else rising p r n) ≡ (if nat_lt s (suc n) && (p.register s == r) then 1 else 0)
    by true true is at rest =
        let none : count_by (λ t. t == s) (rising p r n) ≡ 0 = rest ∙ ap (λ b. if b && (p.register s == r) then 1 else 0) (lt_itself s n at) in
        rw (lt_next s n at, same at, is) (omega (arith, count_insert (λ t. t == s) p n (rising p r n), none, ap one at))
    by true false is at rest = rw (lt_other s n at) (omega (arith, count_insert (λ t. t == s) p n (rising p r n), rest, ap one at))
    by false true is at rest = rw (lt_next s n at, same at, is) (rest ∙ ap (λ b. if b && (p.register s == r) then 1 else 0) (lt_itself s n at))
    by false false is at rest = rw (lt_other s n at) rest

pub scalars_more : (q : ℕ → Bool) (a n : ℕ) → count_by q (range_with_len a (suc n)) ≡ count_by q (range_with_len a n) + cond (q (a + n)) 1 0
scalars_more q a zero = omega (arith, count_cons q a [], ap (λ m. one (q m)) (add-zero a))
scalars_more q a (suc n) = omega (arith, count_cons q a (range_with_len (a + 1) (suc n)), count_cons q a (range_with_len (a + 1) n), scalars_more q (a + 1) n, ap (λ m. one (q m)) (shift a n))
  where
    shift : (a n : ℕ) → a + 1 + n ≡ a + suc n
    shift a n = omega arith

-- as many as the register has
pub length_rising : (p : Placement) (r n : ℕ) → length (rising p r n) ≡ scalars_on n p r
length_rising p r zero = refl
length_rising p r (suc n) = by (p.register n == r) refl (length_rising p r n)
  where
    more : scalars_on (suc n) p r ≡ scalars_on n p r + one (p.register (0 + n) == r)
    more = scalars_more (λ s. p.register s == r) 0 n

    same : one (p.register (0 + n) == r) ≡ one (p.register n == r)
    same = ap (λ m. one (p.register m == r)) (omega arith)

    by : (t : Bool) → (p.register n == r) ≡ t → length (rising p r n) ≡ scalars_on n p r → length (if t then insert_at p n (rising p r n) else rising p r n) ≡ scalars_on (suc n) p r
    by true is rest = omega (arith, length_insert p n (rising p r n), rest, more, same, ap one is)
    by false is rest = omega (arith, rest, more, same, ap one is)
