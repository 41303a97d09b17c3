-- Pairs of neighbours, access by access.
use Rattle.std.proofs.Common.{◌≡◌, ℕ, ◌+◌, ◌-◌, ◌*◌, ◌^◌, ◌<◌, ◌≤◌, Bool, true, false, cond, List, [], ◌∷◌, ◌++◌, length, take, drop, get_or, filter, sum_by, Option, Some, None, refl, ap, sym, ◌∙◌, arith, if◌then◌else◌, lit≤, zero-le, append-nil, true≢false, length-take, length-take-le, subst, length-append, replicate, ⊎_elim}
use Rattle.std.specs.Prelude.{All}
use Rattle.std.specs.List.{last_or, list_any}
use Rattle.std.proofs.Math.Nat.{mul-le-mul_left}
use Rattle.std.proofs.Common.{ap₂, ne_eqb, ◌==◌}
use Rattle.std.proofs.Math.Path.{fun_ext}
use Rattle.std.proofs.lemmas.Bool.Decides.{nat_tests}
use Rattle.std.proofs.lemmas.Bool.{cases_lt}
use Rattle.std.proofs.lemmas.List.{get_or_append_left, get_or-append-add, get_or-drop, get_or-take, get_or-replicate, length-replicate, length-drop}
use Rattle.std.proofs.lemmas.List.Elements.{filter_more, filter_passes, All-head, All-tail, All-weaker, All-filter, All-take}
use Rattle.std.proofs.lemmas.List.Sums.{length-filter, count_by-le-length, sum_by_more, sum_by-le-sum_by, sum_by-cons}
use Rattle.lay_model.specs.Sequences.{Sequence, Block, IsSequence, counted}
use Rattle.lay_cost.specs.Weights.{is_pair, times_beside, weight_at, weight_between}
use Rattle.lay_cost.proofs.Blocks.{get_or_same}
use Rattle.lay_cost.specs.Memory.{pairs_with_last, HasNext, HasBlock, HasCorner, AreSmall}

pub times_push : (x y : ℕ) (l : List ℕ) (c : ℕ) → times_beside x y (l ++ (c ∷ [])) ≡ times_beside x y l + pairs_with_last x y (last_or None l) c
times_push x y [] c = refl
times_push x y (a ∷ []) c = omega arith
times_push x y (a ∷ b ∷ rest) c = omega (arith, times_push x y (b ∷ rest) c)

pub last_push : (o : Option ℕ) (l : List ℕ) (c : ℕ) → last_or o (l ++ (c ∷ [])) ≡ Some c
last_push o [] c = refl
last_push o (a ∷ l) c = last_push (Some a) l c

at_most_one : (t : Bool) → (if t then 1 else 0) ≤ 1
at_most_one true = lit≤ tt
at_most_one false = lit≤ tt

times_le : (x y : ℕ) (l : List ℕ) → times_beside x y l ≤ length l
times_le x y [] = lit≤ tt
times_le x y (a ∷ []) = lit≤ tt
times_le x y (a ∷ b ∷ rest) = omega (arith, times_le x y (b ∷ rest), at_most_one (is_pair x y a b))

pub kept_times_le : (x y : ℕ) (set : ℕ → Bool) (xs : List ℕ) → times_beside x y (filter set xs) ≤ length xs
kept_times_le x y set xs = omega (arith, times_le x y (filter set xs), length-filter set xs, count_by-le-length set xs)

-- one more access of the set
pub next_in : (start old new l : List ℕ) (c weight : ℕ) → HasBlock start old l weight → HasNext old new (last_or None l) c weight → HasBlock start new (l ++ (c ∷ [])) weight
next_in start old new l c weight block next x y a b = rw (times_push x y l c) (omega (arith, block x y a b, next x y a b))

-- what is added up so far is small
pub small_so_far : (start now l : List ℕ) (weight most : ℕ) → AreSmall start (2 ^ 62) → HasBlock start now l weight → length l ≤ most → weight * most ≤ 2 ^ 62 → AreSmall now (2 ^ 63)
small_so_far start now l weight most small block few le x y a b = omega (arith, small x y a b, block x y a b, mul-le-mul_left weight (times_le x y l), mul-le-mul_left weight few)

pub taken : (set : ℕ → Bool) (xs : List ℕ) (i d : ℕ) → i < length xs → set (get_or xs i d) ≡ true → filter set (take (i + 1) xs) ≡ filter set (take i xs) ++ (get_or xs i d ∷ [])
taken set xs i d lt e = filter_more set xs i d lt ∙ ap (λ t. filter set (take i xs) ++ cond t (get_or xs i d ∷ []) []) e

pub left_out : (set : ℕ → Bool) (xs : List ℕ) (i d : ℕ) → i < length xs → set (get_or xs i d) ≡ false → filter set (take (i + 1) xs) ≡ filter set (take i xs)
left_out set xs i d lt e = filter_more set xs i d lt ∙ ap (λ t. filter set (take i xs) ++ cond t (get_or xs i d ∷ []) []) e ∙ append-nil (filter set (take i xs))

pub last_taken : (set : ℕ → Bool) (xs : List ℕ) (i d : ℕ) → i < length xs → set (get_or xs i d) ≡ true → Some (get_or xs i d) ≡ last_or None (filter set (take (i + 1) xs))
last_taken set xs i d lt e = sym (ap (last_or None) (taken set xs i d lt e) ∙ last_push None (filter set (take i xs)) (get_or xs i d))

pub more_pairs : (set : ℕ → Bool) (xs : List ℕ) (i d : ℕ) (start old new : List ℕ) (last : Option ℕ) (weight : ℕ) → i < length xs → set (get_or xs i d) ≡ true → last ≡ last_or None (filter set (take i xs)) → HasBlock start old (filter set (take i xs)) weight → HasNext old new last (get_or xs i d) weight → HasBlock start new (filter set (take (i + 1) xs)) weight
more_pairs set xs i d start old new last weight lt e is block next =
    let next' = next_in start old new (filter set (take i xs)) (get_or xs i d) weight block (rw is at next) in
    rw (taken set xs i d lt e) next'

pub same_pairs : (set : ℕ → Bool) (xs : List ℕ) (i d : ℕ) (start now : List ℕ) (weight : ℕ) → i < length xs → set (get_or xs i d) ≡ false → HasBlock start now (filter set (take i xs)) weight → HasBlock start now (filter set (take (i + 1) xs)) weight
same_pairs set xs i d start now weight lt e block = rw (left_out set xs i d lt e) block

pub kept_so_far_le : (set : ℕ → Bool) (xs : List ℕ) (i : ℕ) → length (filter set (take i xs)) ≤ length xs
kept_so_far_le set xs i = omega (arith, length-filter set (take i xs), count_by-le-length set (take i xs), length-take i xs)

load_of : (t : Bool) (weight : ℕ) (xs : List ℕ) → (t ≡ true → 1 ≤ length xs) → (if t then weight else 0) ≤ weight * length xs
load_of true weight xs some = omega (arith, mul-le-mul_left weight (some refl))
load_of false weight xs some = zero-le

some_held : (set : ℕ → Bool) (xs : List ℕ) → list_any set xs ≡ true → 1 ≤ length xs
some_held set [] e = absurd (true≢false (sym e))
some_held set (x ∷ xs) e = omega arith

-- a block's load is at most its accesses that count
pub load_le : (set : ℕ → Bool) (weight : ℕ) (xs : List ℕ) → (if list_any set xs then weight else 0) ≤ weight * length xs
load_le set weight xs = load_of (list_any set xs) weight xs (some_held set xs)

-- the table behind some of the blocks
pub record AreSoFar (set : ℕ → Bool) (bs : List Block) (table : List ℕ) : Type 0 where
  pub size : length table ≡ 4096
  pub weights : (x y : ℕ) → x < 64 → y < 64 → weight_at table x y ≡ sum_by (λ b. b.weight * times_beside x y (filter set b.accesses)) bs

pub none_so_far : (set : ℕ → Bool) (table : List ℕ) → HasCorner 0 table → AreSoFar set [] table
none_so_far set table h = record { size = h.size; weights = λ x y a b. h.below x y a b zero-le }

pub more_blocks : (set : ℕ → Bool) (bs : List Block) (i : ℕ) (d : Block) (old new : List ℕ) → i < length bs → AreSoFar set (take i bs) old → length new ≡ length old → HasBlock old new (filter set (get_or bs i d).accesses) (get_or bs i d).weight → AreSoFar set (take (i + 1) bs) new
more_blocks set bs i d old new lt h same block = record {
  size = same ∙ h.size;
  weights = λ x y a b. block x y a b ∙ ap (λ n. n + (get_or bs i d).weight * times_beside x y (filter set (get_or bs i d).accesses)) (h.weights x y a b) ∙ sym (sum_by_more (λ c. c.weight * times_beside x y (filter set c.accesses)) bs i d lt);
}

-- which is small, since all that counts is
pub small_table : (set : ℕ → Bool) (bs : List Block) (table : List ℕ) (most : ℕ) → AreSoFar set bs table → sum_by counted bs ≤ most → AreSmall table most
small_table set bs table most h le x y a b = omega (arith, h.weights x y a b, le, sum_by-le-sum_by (λ c. c.weight * times_beside x y (filter set c.accesses)) counted bs (λ c. mul-le-mul_left c.weight (kept_times_le x y set c.accesses)))

-- the order of two scalars doesn't matter
pair_turned : (x y a b : ℕ) → is_pair x y a b ≡ is_pair y x a b
pair_turned x y a b = grind (arith, nat_tests)

times_turned : (x y : ℕ) (l : List ℕ) → times_beside x y l ≡ times_beside y x l
times_turned x y [] = refl
times_turned x y (a ∷ []) = refl
times_turned x y (a ∷ b ∷ rest) = ap₂ (λ t n. (if t then 1 else 0) + n) (pair_turned x y a b) (times_turned x y (b ∷ rest))

weights_same : (f g : Block → ℕ) (bs : List Block) → ((b : Block) → f b ≡ g b) → sum_by f bs ≡ sum_by g bs
weights_same f g bs e = ap (λ h. sum_by h bs) (fun_ext e)

no_weight : (bs : List Block) → sum_by (λ b. b.weight * 0) bs ≡ 0
no_weight [] = refl
no_weight (b ∷ bs) = omega (arith, sum_by-cons (λ c. c.weight * 0) b bs, no_weight bs)

pub weight_turned : (seq : Sequence) (set : ℕ → Bool) (x y : ℕ) → weight_between seq set x y ≡ weight_between seq set y x
weight_turned seq set x y = weights_same (λ b. b.weight * times_beside x y (filter set b.accesses)) (λ b. b.weight * times_beside y x (filter set b.accesses)) seq.blocks (λ b. ap (λ n. b.weight * n) (times_turned x y (filter set b.accesses)))

itself : (x a b : ℕ) → is_pair x x a b ≡ false
itself x a b = grind (arith, nat_tests)

times_itself : (x : ℕ) (l : List ℕ) → times_beside x x l ≡ 0
times_itself x [] = refl
times_itself x (a ∷ []) = refl
times_itself x (a ∷ b ∷ rest) = rw (itself x a b) (omega (arith, times_itself x (b ∷ rest)))

-- no scalar is its own neighbour
pub weight_itself : (seq : Sequence) (set : ℕ → Bool) (x : ℕ) → weight_between seq set x x ≡ 0
weight_itself seq set x = weights_same (λ b. b.weight * times_beside x x (filter set b.accesses)) (λ b. b.weight * 0) seq.blocks (λ b. ap (λ n. b.weight * n) (times_itself x (filter set b.accesses))) ∙ no_weight seq.blocks

not_among : (x y a b : ℕ) → (a == x) ≡ false → (b == x) ≡ false → is_pair x y a b ≡ false
not_among x y a b e f = grind (arith, nat_tests)

times_absent : (x y : ℕ) (l : List ℕ) → All (λ a. (a == x) ≡ false) l → times_beside x y l ≡ 0
times_absent x y [] all = refl
times_absent x y (a ∷ []) all = refl
times_absent x y (a ∷ b ∷ rest) all =
    let P = λ (c : ℕ). (c == x) ≡ false in
    let more = All-tail P a (b ∷ rest) all in
    rw (not_among x y a b (All-head P a (b ∷ rest) all) (All-head P b rest more)) (omega (arith, times_absent x y (b ∷ rest) more))

absent : (set : ℕ → Bool) (x : ℕ) (xs : List ℕ) → set x ≡ false → All (λ a. (a == x) ≡ false) (filter set xs)
absent set x xs e = All-weaker (λ a. set a ≡ true) (λ a. (a == x) ≡ false) (λ a yes. ne_eqb a x (λ same. true≢false (sym yes ∙ ap set same ∙ e))) (filter set xs) (filter_passes set xs)

-- nor that of one that isn't of the set
pub weight_outside : (seq : Sequence) (set : ℕ → Bool) (x y : ℕ) → set x ≡ false → weight_between seq set x y ≡ 0
weight_outside seq set x y e = weights_same (λ b. b.weight * times_beside x y (filter set b.accesses)) (λ b. b.weight * 0) seq.blocks (λ b. ap (λ n. b.weight * n) (times_absent x y (filter set b.accesses) (absent set x b.accesses e))) ∙ no_weight seq.blocks

-- a scalar that no block accesses has no weight
unknown : (x n : ℕ) (xs : List ℕ) → n ≤ x → All (λ s. s < n) xs → All (λ a. (a == x) ≡ false) xs
unknown x n xs le all = All-weaker (λ s. s < n) (λ a. (a == x) ≡ false) (λ a lt. ne_eqb a x (λ is. absurd (omega (arith, is, lt, le)))) xs all

unknown_weight : (set : ℕ → Bool) (x y n : ℕ) (bs : List Block) → n ≤ x → All (λ b. All (λ s. s < n) b.accesses) bs → sum_by (λ b. b.weight * times_beside x y (filter set b.accesses)) bs ≡ 0
unknown_weight set x y n [] le all = refl
unknown_weight set x y n (b ∷ bs) le all =
    let Below = λ (c : Block). All (λ s. s < n) c.accesses in
    let kept = All-filter set (λ a. (a == x) ≡ false) b.accesses (unknown x n b.accesses le (All-head Below b bs all)) in
    omega (arith, sum_by-cons (λ c. c.weight * times_beside x y (filter set c.accesses)) b bs, ap (λ t. b.weight * t) (times_absent x y (filter set b.accesses) kept), unknown_weight set x y n bs le (All-tail Below b bs all))

unknown_beside : (set : ℕ → Bool) (x y n : ℕ) (bs : List Block) → n ≤ y → All (λ b. All (λ s. s < n) b.accesses) bs → sum_by (λ b. b.weight * times_beside x y (filter set b.accesses)) bs ≡ 0
unknown_beside set x y n bs le all =
    weights_same (λ b. b.weight * times_beside x y (filter set b.accesses)) (λ b. b.weight * times_beside y x (filter set b.accesses)) bs (λ b. ap (λ t. b.weight * t) (times_turned x y (filter set b.accesses)))
    ∙ unknown_weight set y x n bs le all

pub corner_so_far : (seq : Sequence) (set : ℕ → Bool) (i : ℕ) (table : List ℕ) → IsSequence seq → AreSoFar set (take i seq.blocks) table → HasCorner seq.scalars table
corner_so_far seq set i table is h =
    let scalars = All-take (λ b. All (λ s. s < seq.scalars) b.accesses) i seq.blocks is.scalars in record {
      size = h.size;
      few = is.few;
      below = λ x y a b le. h.weights x y a b ∙ unknown_weight set x y seq.scalars (take i seq.blocks) le scalars;
      beside = λ x y a b le. h.weights x y a b ∙ unknown_beside set x y seq.scalars (take i seq.blocks) le scalars;
    }

no_weights : (table : List ℕ) → table ≡ replicate 4096 0 → (x y : ℕ) → weight_at table x y ≡ 0
no_weights table is x y = ap (λ t. weight_at t x y) is ∙ get_or_same 0 4096 (x * 64 + y)

pub zero_corner : (table : List ℕ) → table ≡ replicate 4096 0 → HasCorner 0 table
zero_corner table is = record {
  size = ap length is ∙ length-replicate {A = ℕ} 4096 0;
  few = zero-le;
  below = λ x y a b le. no_weights table is x y;
  beside = λ x y a b le. no_weights table is x y;
}

-- the weights of so many rows are 0
pub record AreClearTo (row scalars : ℕ) (table : List ℕ) : Type 0 where
  pub corner : HasCorner scalars table
  pub above : (x y : ℕ) → x < 64 → y < 64 → x < row → weight_at table x y ≡ 0

-- so many numbers from a place on are replaced by 0
module _ (first count : ℕ) (table : List ℕ) (fits : first + count ≤ length table) where
  abbrev zeros : List ℕ
  zeros = replicate count 0

  abbrev rest : List ℕ
  rest = drop count (drop first table)

  abbrev cleared : List ℕ
  cleared = take first table ++ (zeros ++ rest)

  first_is : length (take first table) ≡ first
  first_is = length-take-le first table (omega (arith, fits))

  cleared_size : length cleared ≡ length table
  cleared_size = omega (arith, fits, first_is, length-append (take first table) (zeros ++ rest), length-append zeros rest, length-replicate {A = ℕ} count 0, length-drop count (drop first table), length-drop first table)

  before : (i : ℕ) → i < first → get_or cleared i 0 ≡ get_or table i 0
  before i lt = get_or_append_left (take first table) (zeros ++ rest) 0 i (omega (arith, lt, first_is)) ∙ get_or-take first table i 0 lt

  among : (j : ℕ) → j < count → get_or cleared (first + j) 0 ≡ 0
  among j lt =
      ap (λ n. get_or cleared (n + j) 0) (sym first_is)
      ∙ get_or-append-add (take first table) (zeros ++ rest) j 0
      ∙ get_or_append_left zeros rest 0 j (omega (arith, lt, length-replicate {A = ℕ} count 0))
      ∙ get_or-replicate count j 0 0 lt

  following : (j : ℕ) → get_or cleared (first + (count + j)) 0 ≡ get_or table (first + (count + j)) 0
  following j =
      ap (λ n. get_or cleared (n + (count + j)) 0) (sym first_is)
      ∙ get_or-append-add (take first table) (zeros ++ rest) (count + j) 0
      ∙ ap (λ n. get_or (zeros ++ rest) (n + j) 0) (sym (length-replicate {A = ℕ} count 0))
      ∙ get_or-append-add zeros rest j 0
      ∙ get_or-drop count (drop first table) j 0
      ∙ get_or-drop first table (count + j) 0

-- one more row is clear
pub row_cleared : (row scalars first count : ℕ) (table fill : List ℕ) → AreClearTo row scalars table → row < scalars → first ≡ row * 64 → count ≡ scalars → fill ≡ replicate count 0
    → AreClearTo (row + 1) scalars (take first table ++ (fill ++ drop count (drop first table)))
row_cleared row scalars first count table fill h lt at all is =
    subst (λ l. AreClearTo (row + 1) scalars (take first table ++ (l ++ drop count (drop first table)))) (sym is) (record {
      corner = record {
        size = cleared_size first count table fits ∙ h.corner.size;
        few = h.corner.few;
        below = λ x y a b le. kept x y a b (h.corner.below x y a b le);
        beside = λ x y a b le. kept x y a b (h.corner.beside x y a b le);
      };
      above = λ x y a b le. ⊎_elim (λ l. kept x y a b (h.above x y a b l)) (λ e. in_row x y a b (omega (arith, e, le))) (cases_lt x row);
    })
  where
    fits : first + count ≤ length table
    fits = omega (arith, at, all, lt, h.corner.few, h.corner.size)

    now : List ℕ
    now = cleared first count table fits

    kept : (x y : ℕ) → x < 64 → y < 64 → weight_at table x y ≡ 0 → weight_at now x y ≡ 0
    kept x y a b zero = ⊎_elim (λ l. before first count table fits (x * 64 + y) l ∙ zero) (λ g. from g) (cases_lt (x * 64 + y) first)
      where
        from : first ≤ x * 64 + y → weight_at now x y ≡ 0
        from g = ⊎_elim
            (λ l. let i : x * 64 + y ≡ first + (x * 64 + y - first) = omega (arith, g) in ap (λ n. get_or now n 0) i ∙ among first count table fits (x * 64 + y - first) l)
            (λ more. let i : x * 64 + y ≡ first + (count + (x * 64 + y - first - count)) = omega (arith, g, more) in ap (λ n. get_or now n 0) i ∙ following first count table fits (x * 64 + y - first - count) ∙ ap (λ n. get_or table n 0) (sym i) ∙ zero)
            (cases_lt (x * 64 + y - first) count)

    in_row : (x y : ℕ) → x < 64 → y < 64 → x ≡ row → weight_at now x y ≡ 0
    in_row x y a b e = ⊎_elim (λ l. ap (λ i. get_or now i 0) (let i : x * 64 + y ≡ first + y = omega (arith, e, at) in i) ∙ among first count table fits y (omega (arith, l, all)))
        (λ g. kept x y a b (h.corner.beside x y a b g)) (cases_lt y scalars)

-- with all rows of the corner no weight is above 0
pub all_cleared : (scalars : ℕ) (table : List ℕ) → AreClearTo scalars scalars table → HasCorner 0 table
all_cleared scalars table h = record {
  size = h.corner.size;
  few = zero-le;
  below = λ x y a b le. none x y a b;
  beside = λ x y a b le. none x y a b;
}
  where
    none : (x y : ℕ) → x < 64 → y < 64 → weight_at table x y ≡ 0
    none x y a b = ⊎_elim (λ l. h.above x y a b l) (λ g. h.corner.below x y a b g) (cases_lt x scalars)
