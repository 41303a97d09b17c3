-- At a step of 1 a list costs its loads, and each two neighbours that don't lie beside one another in it.
use Rattle.std.proofs.Common.{◌≡◌, ℕ, suc, ◌+◌, ◌*◌, Bool, true, false, cond, not, ◌==◌, ◌||◌, ◌&&◌, nat_abs, pos, ◌-ℤ◌, List, [], ◌∷◌, length, filter, fold, sum_by, count_by, Some, refl, ap, ap₂, sym, subst, ◌∙◌, arith, if◌then◌else◌, true≢false, eqb-true, eq-eqb}
use Rattle.std.specs.Prelude.{All}
use Rattle.std.specs.List.{list_any}
use Rattle.std.proofs.lemmas.Int.{ints}
use Rattle.std.proofs.Math.Path.{fun_ext}
use Rattle.std.proofs.lemmas.Bool.{cases_Bool, or_parts, lt-leb}
use Rattle.lay_cost.proofs.Listed.{counted}
use Rattle.std.proofs.lemmas.Bool.Decides.{nat_tests}
use Rattle.std.proofs.lemmas.List.Sums.{sum_by-cons}
use Rattle.lay_model.specs.Sequences.{Sequence, Block}
use Rattle.lay_cost.specs.Placements.{Placement, has, list_of, place_in, position_in, placement_of}
use Rattle.lay_cost.specs.Cost.{Tally, no_access, with_access, move_cost, distance, block_cost}
use Rattle.lay_cost.specs.Weights.{is_pair, times_beside, sum_of_pairs, sum_of_adjacent, weight_between}
use Rattle.lay_cost.proofs.Counts.{count_cons, count_first, not_there}
use Rattle.lay_cost.proofs.PlaceLemmas.{Once}
use Rattle.std.proofs.Common.{⊎_elim, lt-ltb, nat_lt, append-nil}
use Rattle.std.proofs.lemmas.List.Elements.{All-head, All-tail, filter_passes}
use Rattle.lay_cost.proofs.Restrictions.{Passes}
use Rattle.lay_cost.proofs.Adding.{level, sum_adds, part_by_blocks}
use Rattle.lay_cost.specs.Restricted.{loads}
use Rattle.lay_cost.specs.Parts.{part_cost_of, AreMembers}

abbrev bit : Bool → ℕ
bit t = if t then 1 else 0

-- whether x and y are a and b
abbrev pairs_with : ℕ → ℕ → ℕ → ℕ → ℕ
pairs_with a b x y = bit (is_pair x y a b)

turned : (a b x y : ℕ) → is_pair x y a b ≡ is_pair x y b a
turned a b x y = ap (λ t. not (x == y) && t) (or_comm (a == x && (b == y)) (a == y && (b == x)) ∙ ap₂ (λ s t. s || t) (and_comm (a == y) (b == x)) (and_comm (a == x) (b == y)))
  where
    or_comm : (s t : Bool) → (s || t) ≡ (t || s)
    or_comm true true = refl
    or_comm true false = refl
    or_comm false true = refl
    or_comm false false = refl

    and_comm : (s t : Bool) → (s && t) ≡ (t && s)
    and_comm true true = refl
    and_comm true false = refl
    and_comm false true = refl
    and_comm false false = refl

-- two that are the same are no pair
no_pair : (x y a : ℕ) → is_pair x y a a ≡ false
no_pair x y a = grind (arith, nat_tests)

-- one that isn't there is in no pair
not_in_pair : (x y a b : ℕ) → (x == a) ≡ false → (y == a) ≡ false → is_pair x y a b ≡ false
not_in_pair x y a b e f = grind (arith, nat_tests)

-- with a first, a and b are a pair where the other one is b
first_in_pair : (y a b : ℕ) → (a == b) ≡ false → is_pair a y a b ≡ (y == b)
first_in_pair y a b e = grind (arith, nat_tests)

neither_in_pair : (x y a b : ℕ) → (x == a) ≡ false → (x == b) ≡ false → is_pair x y a b ≡ false
neither_in_pair x y a b e f = grind (arith, nat_tests)

pairs_same : (f g : ℕ → ℕ → ℕ) (l : List ℕ) → ((x y : ℕ) → f x y ≡ g x y) → sum_of_pairs f l ≡ sum_of_pairs g l
pairs_same f g l e = ap (λ h. sum_of_pairs h l) (fun_ext (λ x. fun_ext (λ y. e x y)))

adjacent_same : (f g : ℕ → ℕ → ℕ) (l : List ℕ) → ((x y : ℕ) → f x y ≡ g x y) → sum_of_adjacent f l ≡ sum_of_adjacent g l
adjacent_same f g l e = ap (λ h. sum_of_adjacent h l) (fun_ext (λ x. fun_ext (λ y. e x y)))

row_same : (f g : ℕ → ℕ) (xs : List ℕ) → ((y : ℕ) → f y ≡ g y) → sum_by f xs ≡ sum_by g xs
row_same f g xs e = ap (λ h. sum_by h xs) (fun_ext e)

row_none : (xs : List ℕ) → sum_by (λ y. 0) xs ≡ 0
row_none [] = refl
row_none (x ∷ xs) = omega (arith, sum_by-cons (λ y. 0) x xs, row_none xs)

pairs_none : (l : List ℕ) → sum_of_pairs (λ x y. 0) l ≡ 0
pairs_none [] = refl
pairs_none (x ∷ xs) = omega (arith, row_none xs, pairs_none xs)

adjacent_none : (l : List ℕ) → sum_of_adjacent (λ x y. 0) l ≡ 0
adjacent_none [] = refl
adjacent_none (x ∷ []) = refl
adjacent_none (x ∷ y ∷ ys) = omega (arith, adjacent_none (y ∷ ys))

row_absent : (x a b : ℕ) (xs : List ℕ) → (x == a) ≡ false → has xs a ≡ false → sum_by (pairs_with a b x) xs ≡ 0
row_absent x a b [] e f = refl
row_absent x a b (y ∷ ys) e f = let parts = or_parts (y == a) (has ys a) f in omega (arith, sum_by-cons (pairs_with a b x) y ys, ap bit (not_in_pair x y a b e parts.0), row_absent x a b ys e parts.1)

pairs_absent : (a b : ℕ) (l : List ℕ) → has l a ≡ false → sum_of_pairs (pairs_with a b) l ≡ 0
pairs_absent a b [] e = refl
pairs_absent a b (x ∷ xs) e = let parts = or_parts (x == a) (has xs a) e in omega (arith, row_absent x a b xs parts.0 parts.1, pairs_absent a b xs parts.1)

adjacent_absent : (a b : ℕ) (l : List ℕ) → has l a ≡ false → sum_of_adjacent (pairs_with a b) l ≡ 0
adjacent_absent a b [] e = refl
adjacent_absent a b (x ∷ []) e = refl
adjacent_absent a b (x ∷ y ∷ ys) e =
    let parts = or_parts (x == a) (has (y ∷ ys) a) e in
    let rest = or_parts (y == a) (has ys a) parts.1 in
    omega (arith, ap bit (not_in_pair x y a b parts.0 rest.0), adjacent_absent a b (y ∷ ys) parts.1)

once_tail : (x : ℕ) (xs : List ℕ) → Once (x ∷ xs) → Once xs
once_tail x xs once s = omega (arith, once s, count_cons (λ t. t == s) x xs)

head_alone : (a : ℕ) (xs : List ℕ) → Once (a ∷ xs) → has xs a ≡ false
head_alone a xs once = not_there a xs (omega (arith, once a, count_first (λ t. t == a) a xs true (eq-eqb a a refl)))

has_count : (xs : List ℕ) (b : ℕ) → Once xs → has xs b ≡ true → count_by (λ y. y == b) xs ≡ 1
has_count xs b once e = omega (arith, once b, counted xs b e)

-- a list that begins with a, and has b behind it
head_pairs : (a b : ℕ) (xs : List ℕ) → (a == b) ≡ false → Once (a ∷ xs) → has xs b ≡ true → sum_of_pairs (pairs_with a b) (a ∷ xs) ≡ 1
head_pairs a b xs n once e = omega (arith, row_same (pairs_with a b a) (λ y. cond (y == b) 1 0) xs (λ y. ap bit (first_in_pair y a b n)), has_count xs b (once_tail a xs once) e, pairs_absent a b xs (head_alone a xs once))

later_has : (x a : ℕ) (xs : List ℕ) → (x == a) ≡ false → has (x ∷ xs) a ≡ true → has xs a ≡ true
later_has x a xs e h = ap (λ t. t || has xs a) (sym e) ∙ h

other_of : (x a b : ℕ) → (x == a) ≡ true → (a == b) ≡ false → (x == b) ≡ false
other_of x a b e n = grind (arith, nat_tests)

flip : (a b : ℕ) → (a == b) ≡ false → (b == a) ≡ false
flip a b e = grind (arith, nat_tests)

pair_count : (a b : ℕ) (l : List ℕ) → (a == b) ≡ false → Once l → has l a ≡ true → has l b ≡ true → sum_of_pairs (pairs_with a b) l ≡ 1
pair_count a b [] n once has_a has_b = absurd (true≢false (sym has_a))
pair_count a b (x ∷ xs) n once has_a has_b = by (x == a) (x == b) refl refl (pair_count a b xs n (once_tail x xs once))
  where
    by : (s t : Bool) → (x == a) ≡ s → (x == b) ≡ t → (has xs a ≡ true → has xs b ≡ true → sum_of_pairs (pairs_with a b) xs ≡ 1) → sum_of_pairs (pairs_with a b) (x ∷ xs) ≡ 1
    by true t e f rest =
        let at = eqb-true x a e in
        let behind = later_has x b xs (other_of x a b e n) has_b in
        subst (λ y. sum_of_pairs (pairs_with a b) (y ∷ xs) ≡ 1) (sym at) (head_pairs a b xs n (subst (λ y. Once (y ∷ xs)) at once) behind)
    by false true e f rest =
        let at = eqb-true x b f in
        let behind = later_has x a xs e has_a in
        pairs_same (pairs_with a b) (pairs_with b a) (x ∷ xs) (λ y z. ap bit (turned a b y z)) ∙ subst (λ y. sum_of_pairs (pairs_with b a) (y ∷ xs) ≡ 1) (sym at) (head_pairs b a xs (flip a b n) (subst (λ y. Once (y ∷ xs)) at once) behind)
    by false false e f rest = omega (arith, row_same (pairs_with a b x) (λ y. 0) xs (λ y. ap bit (neither_in_pair x y a b e f)), row_none xs, rest (later_has x a xs e has_a) (later_has x b xs f has_b))

-- the move between two positions
abbrev move : ℕ → ℕ → ℕ
move i j = move_cost 1 (distance (pos i) (pos j))

move_turned : (i j : ℕ) → move i j ≡ move j i
move_turned i j = let same : nat_abs (pos i -ℤ pos j) ≡ nat_abs (pos j -ℤ pos i) = omega (arith, ints) in ap (move_cost 1) same

move_later : (i j : ℕ) → move (suc i) (suc j) ≡ move i j
move_later i j = let same : nat_abs (pos (suc i) -ℤ pos (suc j)) ≡ nat_abs (pos i -ℤ pos j) = omega (arith, ints) in ap (move_cost 1) same

far_move : (j : ℕ) → move 0 (suc (suc j)) ≡ 1
far_move j = let far : nat_abs (pos 0 -ℤ pos (suc (suc j))) ≡ suc (suc j) = omega (arith, ints) in ap (move_cost 1) far ∙ paid j
  where
    paid : (j : ℕ) → move_cost 1 (suc (suc j)) ≡ 1
    paid j = rw (lt-leb (suc (suc j)) 1 (omega arith)) refl

head_adjacent : (a b : ℕ) (xs : List ℕ) → (a == b) ≡ false → Once (a ∷ xs) → has xs b ≡ true → move 0 (suc (position_in xs b)) + sum_of_adjacent (pairs_with a b) (a ∷ xs) ≡ 1
head_adjacent a b [] n once e = absurd (true≢false (sym e))
head_adjacent a b (y ∷ ys) n once e = by (y == b) refl
  where
    none : sum_of_adjacent (pairs_with a b) (y ∷ ys) ≡ 0
    none = adjacent_absent a b (y ∷ ys) (head_alone a (y ∷ ys) once)

    by : (t : Bool) → (y == b) ≡ t → move 0 (suc (if t then 0 else suc (position_in ys b))) + (pairs_with a b a y + sum_of_adjacent (pairs_with a b) (y ∷ ys)) ≡ 1
    by true is = omega (arith, none, ap bit (first_in_pair y a b n ∙ is))
    by false is = omega (arith, none, ap bit (first_in_pair y a b n ∙ is), far_move (position_in ys b))

first_position : (a : ℕ) (xs : List ℕ) → position_in (a ∷ xs) a ≡ 0
first_position a xs = ap (λ t. if t then 0 else suc (position_in xs a)) (eq-eqb a a refl)

later_position : (x a : ℕ) (xs : List ℕ) → (x == a) ≡ false → position_in (x ∷ xs) a ≡ suc (position_in xs a)
later_position x a xs e = ap (λ t. if t then 0 else suc (position_in xs a)) e

-- in a list that begins with a
at_head : (a b : ℕ) (xs : List ℕ) → (a == b) ≡ false → Once (a ∷ xs) → has xs b ≡ true → move (position_in (a ∷ xs) a) (position_in (a ∷ xs) b) + sum_of_adjacent (pairs_with a b) (a ∷ xs) ≡ 1
at_head a b xs n once e = ap₂ (λ i j. move i j + sum_of_adjacent (pairs_with a b) (a ∷ xs)) (first_position a xs) (later_position a b xs n) ∙ head_adjacent a b xs n once e

-- two of a list lie beside one another, or the move between them costs 1
adjacent_count : (a b : ℕ) (l : List ℕ) → (a == b) ≡ false → Once l → has l a ≡ true → has l b ≡ true → move (position_in l a) (position_in l b) + sum_of_adjacent (pairs_with a b) l ≡ 1
adjacent_count a b [] n once has_a has_b = absurd (true≢false (sym has_a))
adjacent_count a b (x ∷ xs) n once has_a has_b = by (x == a) (x == b) refl refl (adjacent_count a b xs n (once_tail x xs once))
  where
    skip : (ys : List ℕ) → (x == a) ≡ false → (x == b) ≡ false → sum_of_adjacent (pairs_with a b) (x ∷ ys) ≡ sum_of_adjacent (pairs_with a b) ys
    skip [] e f = refl
    skip (y ∷ ys) e f = omega (arith, ap bit (neither_in_pair x y a b e f))

    by : (s t : Bool) → (x == a) ≡ s → (x == b) ≡ t → (has xs a ≡ true → has xs b ≡ true → move (position_in xs a) (position_in xs b) + sum_of_adjacent (pairs_with a b) xs ≡ 1) → move (position_in (x ∷ xs) a) (position_in (x ∷ xs) b) + sum_of_adjacent (pairs_with a b) (x ∷ xs) ≡ 1
    by true t e f rest =
        let at = eqb-true x a e in
        let behind = later_has x b xs (other_of x a b e n) has_b in
        subst (λ y. move (position_in (y ∷ xs) a) (position_in (y ∷ xs) b) + sum_of_adjacent (pairs_with a b) (y ∷ xs) ≡ 1) (sym at) (at_head a b xs n (subst (λ y. Once (y ∷ xs)) at once) behind)
    by false true e f rest =
        let at = eqb-true x b f in
        let behind = later_has x a xs e has_a in
        ap₂ (λ m s. m + s) (move_turned (position_in (x ∷ xs) a) (position_in (x ∷ xs) b)) (adjacent_same (pairs_with a b) (pairs_with b a) (x ∷ xs) (λ y z. ap bit (turned a b y z)))
        ∙ subst (λ y. move (position_in (y ∷ xs) b) (position_in (y ∷ xs) a) + sum_of_adjacent (pairs_with b a) (y ∷ xs) ≡ 1) (sym at) (at_head b a xs (flip a b n) (subst (λ y. Once (y ∷ xs)) at once) behind)
    by false false e f rest =
        ap₂ (λ m s. m + s) (ap₂ move (later_position x a xs e) (later_position x b xs f) ∙ move_later (position_in xs a) (position_in xs b)) (skip xs e f) ∙ rest (later_has x a xs e has_a) (later_has x b xs f has_b)

-- so a move costs what the pair counts over each two, less what it counts over those beside one another
one_move : (l ms : List ℕ) (a b : ℕ) → Once l → Once ms → has l a ≡ true → has l b ≡ true → has ms a ≡ true → has ms b ≡ true → move (position_in l a) (position_in l b) + sum_of_adjacent (pairs_with a b) l ≡ sum_of_pairs (pairs_with a b) ms
one_move l ms a b once once_ms has_a has_b in_a in_b = ⊎_elim same other (cases_Bool (a == b))
  where
    same : (a == b) ≡ true → move (position_in l a) (position_in l b) + sum_of_adjacent (pairs_with a b) l ≡ sum_of_pairs (pairs_with a b) ms
    same e =
        let is = eqb-true a b e in
        let stays : nat_abs (pos (position_in l a) -ℤ pos (position_in l b)) ≡ 0 = rw (← is) (omega (arith, ints)) in
        let none = λ (x y : ℕ). ap bit (subst (λ c. is_pair x y a c ≡ false) is (no_pair x y a)) in
        omega (arith, ap (move_cost 1) stays, adjacent_same (pairs_with a b) (λ x y. 0) l none, adjacent_none l, pairs_same (pairs_with a b) (λ x y. 0) ms none, pairs_none ms)

    other : (a == b) ≡ false → move (position_in l a) (position_in l b) + sum_of_adjacent (pairs_with a b) l ≡ sum_of_pairs (pairs_with a b) ms
    other n = adjacent_count a b l n once has_a has_b ∙ sym (pair_count a b ms n once_ms in_a in_b)

-- sums of sums
pairs_add : (f g : ℕ → ℕ → ℕ) (l : List ℕ) → sum_of_pairs (λ x y. f x y + g x y) l ≡ sum_of_pairs f l + sum_of_pairs g l
pairs_add f g [] = refl
pairs_add f g (x ∷ xs) = omega (arith, sum_adds (λ y. f x y + g x y) (f x) (g x) xs (λ y. refl), pairs_add f g xs)

adjacent_add : (f g : ℕ → ℕ → ℕ) (l : List ℕ) → sum_of_adjacent (λ x y. f x y + g x y) l ≡ sum_of_adjacent f l + sum_of_adjacent g l
adjacent_add f g [] = refl
adjacent_add f g (x ∷ []) = refl
adjacent_add f g (x ∷ y ∷ ys) = omega (arith, adjacent_add f g (y ∷ ys))

row_times : (w : ℕ) (f : ℕ → ℕ) (xs : List ℕ) → sum_by (λ y. w * f y) xs ≡ w * sum_by f xs
row_times w f [] = omega arith
row_times w f (x ∷ xs) = sum_by-cons (λ y. w * f y) x xs ∙ rw (row_times w f xs, sum_by-cons f x xs) (omega arith)

pairs_times : (w : ℕ) (f : ℕ → ℕ → ℕ) (l : List ℕ) → sum_of_pairs (λ x y. w * f x y) l ≡ w * sum_of_pairs f l
pairs_times w f [] = omega arith
pairs_times w f (x ∷ xs) = rw (row_times w (f x) xs, pairs_times w f xs) (omega arith)

adjacent_times : (w : ℕ) (f : ℕ → ℕ → ℕ) (l : List ℕ) → sum_of_adjacent (λ x y. w * f x y) l ≡ w * sum_of_adjacent f l
adjacent_times w f [] = omega arith
adjacent_times w f (x ∷ []) = omega arith
adjacent_times w f (x ∷ y ∷ ys) = rw (adjacent_times w f (y ∷ ys)) (omega arith)

-- how often two neighbours among accesses are two of a list, and how often they lie beside one another in it
abbrev all_pairs : List ℕ → List ℕ → ℕ
all_pairs l xs = sum_of_pairs (λ x y. times_beside x y xs) l

abbrev beside_pairs : List ℕ → List ℕ → ℕ
beside_pairs l xs = sum_of_adjacent (λ x y. times_beside x y xs) l

-- a list alone
abbrev alone : List ℕ → Placement
alone l = placement_of (l ∷ [])

on_first : (l : List ℕ) (s : ℕ) → has l s ≡ true → (list_of (l ∷ []) s ≡ 0) × (place_in (l ∷ []) s ≡ position_in l s)
on_first l s e = (ap (λ t. if t then 0 else 1) e, ap (λ t. if t then position_in l s else 0) e)

record IsAt (l : List ℕ) (a : ℕ) (t : Tally) : Type 0 where
  last : t.last 0 ≡ Some (pos (position_in l a))

at_access : (l : List ℕ) (b : ℕ) (t : Tally) → has l b ≡ true → IsAt l b (with_access 1 (alone l) t b)
at_access l b t e = let on = on_first l b e in record { last = rw (on.0, on.1) refl }

paid_move : (l : List ℕ) (a b : ℕ) (t : Tally) → has l b ≡ true → IsAt l a t → (with_access 1 (alone l) t b).paid ≡ t.paid + move (position_in l a) (position_in l b)
paid_move l a b t e h = let on = on_first l b e in rw (on.0, on.1, h.last) refl

paid_first : (l : List ℕ) (a : ℕ) → (with_access 1 (alone l) no_access a).paid ≡ 1
paid_first l a = refl

path : (l ms : List ℕ) (a : ℕ) (ys : List ℕ) (t : Tally) → AreMembers l ms → has l a ≡ true → All (Passes (has l)) ys → IsAt l a t → (fold (with_access 1 (alone l)) t ys).paid + beside_pairs l (a ∷ ys) ≡ t.paid + all_pairs ms (a ∷ ys)
path l ms a [] t of has_a all h = omega (arith, adjacent_none l, pairs_none ms)
path l ms a (b ∷ ys) t of has_a all h =
    let has_b = All-head (Passes (has l)) b ys all in
    let rest = path l ms b ys (with_access 1 (alone l) t b) of has_b (All-tail (Passes (has l)) b ys all) (at_access l b t has_b) in
    omega (arith, rest, paid_move l a b t has_b h, one_move l ms a b of.once of.members_once has_a has_b (of.members_have a has_a) (of.members_have b has_b), pairs_add (pairs_with a b) (λ x y. times_beside x y (b ∷ ys)) ms, adjacent_add (pairs_with a b) (λ x y. times_beside x y (b ∷ ys)) l)

list_block : (l ms ys : List ℕ) → AreMembers l ms → All (Passes (has l)) ys → block_cost 1 (alone l) ys + beside_pairs l ys ≡ bit (nat_lt 0 (length ys)) + all_pairs ms ys
list_block l ms [] of all = omega (arith, adjacent_none l, pairs_none ms)
list_block l ms (a ∷ ys) of all =
    let has_a = All-head (Passes (has l)) a ys all in
    let t = with_access 1 (alone l) no_access a in
    omega (arith, level (alone l) (a ∷ ys) no_access refl, path l ms a ys t of has_a (All-tail (Passes (has l)) a ys all) (at_access l a no_access has_a), paid_first l a, ap bit (lt-ltb 0 (suc (length ys)) (omega arith)))

some_kept : (set : ℕ → Bool) (xs : List ℕ) → nat_lt 0 (length (filter set xs)) ≡ list_any set xs
some_kept set [] = refl
some_kept set (x ∷ xs) = by (set x) (some_kept set xs)
  where
    by : (t : Bool) → nat_lt 0 (length (filter set xs)) ≡ list_any set xs → nat_lt 0 (length (cond t (x ∷ filter set xs) (filter set xs))) ≡ (t || list_any set xs)
    by true rest = lt-ltb 0 (suc (length (filter set xs))) (omega arith)
    by false rest = rest

-- a list over the accesses of its scalars
kept_block : (l ms xs : List ℕ) → AreMembers l ms → block_cost 1 (alone l) (filter (has l) xs) + beside_pairs l (filter (has l) xs) ≡ bit (list_any (has l) xs) + all_pairs ms (filter (has l) xs)
kept_block l ms xs of = list_block l ms (filter (has l) xs) of (filter_passes (has l) xs) ∙ ap (λ t. bit t + all_pairs ms (filter (has l) xs)) (some_kept (has l) xs)

-- the sums over pairs, by blocks
pairs_by_blocks : (set : ℕ → Bool) (ms : List ℕ) (bs : List Block) → sum_of_pairs (λ x y. sum_by (λ b. b.weight * times_beside x y (filter set b.accesses)) bs) ms ≡ sum_by (λ b. b.weight * all_pairs ms (filter set b.accesses)) bs
pairs_by_blocks set ms [] = pairs_none ms
pairs_by_blocks set ms (b ∷ bs) =
    pairs_same (λ x y. sum_by (λ b. b.weight * times_beside x y (filter set b.accesses)) (b ∷ bs)) (λ x y. b.weight * times_beside x y (filter set b.accesses) + sum_by (λ b. b.weight * times_beside x y (filter set b.accesses)) bs) ms (λ x y. sum_by-cons (λ b. b.weight * times_beside x y (filter set b.accesses)) b bs)
    ∙ pairs_add (λ x y. b.weight * times_beside x y (filter set b.accesses)) (λ x y. sum_by (λ b. b.weight * times_beside x y (filter set b.accesses)) bs) ms
    ∙ ap₂ (λ m n. m + n) (pairs_times b.weight (λ x y. times_beside x y (filter set b.accesses)) ms) (pairs_by_blocks set ms bs)
    ∙ sym (sum_by-cons (λ b. b.weight * all_pairs ms (filter set b.accesses)) b bs)

adjacent_by_blocks : (set : ℕ → Bool) (l : List ℕ) (bs : List Block) → sum_of_adjacent (λ x y. sum_by (λ b. b.weight * times_beside x y (filter set b.accesses)) bs) l ≡ sum_by (λ b. b.weight * beside_pairs l (filter set b.accesses)) bs
adjacent_by_blocks set l [] = adjacent_none l
adjacent_by_blocks set l (b ∷ bs) =
    adjacent_same (λ x y. sum_by (λ b. b.weight * times_beside x y (filter set b.accesses)) (b ∷ bs)) (λ x y. b.weight * times_beside x y (filter set b.accesses) + sum_by (λ b. b.weight * times_beside x y (filter set b.accesses)) bs) l (λ x y. sum_by-cons (λ b. b.weight * times_beside x y (filter set b.accesses)) b bs)
    ∙ adjacent_add (λ x y. b.weight * times_beside x y (filter set b.accesses)) (λ x y. sum_by (λ b. b.weight * times_beside x y (filter set b.accesses)) bs) l
    ∙ ap₂ (λ m n. m + n) (adjacent_times b.weight (λ x y. times_beside x y (filter set b.accesses)) l) (adjacent_by_blocks set l bs)
    ∙ sym (sum_by-cons (λ b. b.weight * beside_pairs l (filter set b.accesses)) b bs)

four_times : (w a b c d : ℕ) → a + b ≡ c + d → w * a + w * b ≡ w * c + w * d
four_times w a b c d e = let whole : w * (a + b) ≡ w * (c + d) = ap (λ n. w * n) e in omega (arith, whole)

weighed : (w : ℕ) (t : Bool) → w * bit t ≡ (if t then w else 0)
weighed w true = omega arith
weighed w false = omega arith

list_blocks : (step : ℕ) (l ms : List ℕ) (bs : List Block) → step ≡ 1 → AreMembers l ms → sum_by (λ b. b.weight * block_cost step (alone l) (filter (has l) b.accesses)) bs + sum_by (λ b. b.weight * beside_pairs l (filter (has l) b.accesses)) bs ≡ sum_by (λ b. if list_any (has l) b.accesses then b.weight else 0) bs + sum_by (λ b. b.weight * all_pairs ms (filter (has l) b.accesses)) bs
list_blocks step l ms [] one of = refl
list_blocks step l ms (b ∷ bs) one of =
    let xs = filter (has l) b.accesses in
    let here = four_times b.weight (block_cost 1 (alone l) xs) (beside_pairs l xs) (bit (list_any (has l) b.accesses)) (all_pairs ms xs) (kept_block l ms b.accesses of) in
    let step_1 = ap (λ n. b.weight * block_cost n (alone l) xs) one in
    omega (
      arith,
      here,
      step_1,
      weighed b.weight (list_any (has l) b.accesses),
      list_blocks step l ms bs one of,
      sum_by-cons (λ c. c.weight * block_cost step (alone l) (filter (has l) c.accesses)) b bs,
      sum_by-cons (λ c. c.weight * beside_pairs l (filter (has l) c.accesses)) b bs,
      sum_by-cons (λ c. if list_any (has l) c.accesses then c.weight else 0) b bs,
      sum_by-cons (λ c. c.weight * all_pairs ms (filter (has l) c.accesses)) b bs,
    )

-- a list costs its loads and what each two of its scalars weigh, less what those weigh that lie beside one another
pub list_costs : (seq : Sequence) (l ms : List ℕ) → seq.step ≡ 1 → AreMembers l ms → part_cost_of seq (l ∷ []) + sum_of_adjacent (weight_between seq (has l)) l ≡ loads seq (has l) + sum_of_pairs (weight_between seq (has l)) ms
list_costs seq l ms one of =
    let part : part_cost_of seq (l ∷ []) ≡ sum_by (λ b. b.weight * block_cost seq.step (alone l) (filter (has l) b.accesses)) seq.blocks = part_by_blocks seq (l ∷ []) ∙ ap (λ k. sum_by (λ b. b.weight * block_cost seq.step (alone l) (filter (has k) b.accesses)) seq.blocks) (append-nil l) in
    omega (arith, part, adjacent_by_blocks (has l) l seq.blocks, pairs_by_blocks (has l) ms seq.blocks, list_blocks seq.step l ms seq.blocks one of)
