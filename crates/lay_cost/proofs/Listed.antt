-- Lists of all the scalars are a placement.
use Rattle.std.proofs.Common.{◌≡◌, ℕ, zero, suc, ◌+◌, ◌<◌, ◌≤◌, Bool, true, false, cond, nat_lt, ◌==◌, ◌||◌, List, [], ◌∷◌, length, get_or, count_by, refl, ap, ap₂, sym, subst, ◌∙◌, ⊎_elim, arith, if◌then◌else◌, eqb-true, true≢false, le_trans, zero-le, zero-add, lt_of_lt_of_le, nat_abs}
use Rattle.std.proofs.Math.Nat.{le_antisymm}
use Rattle.std.specs.Prelude.{All}
use Rattle.std.specs.List.{concat, range_with_len}
use Rattle.std.proofs.lemmas.Bool.{cases_Bool, cases_lt, eq-eqb}
use Rattle.std.proofs.Math.Bool.{or-true}
use Rattle.std.proofs.lemmas.Bool.Decides.{nat_tests}
use Rattle.std.proofs.lemmas.List.Folds.{list_any-append}
use Rattle.std.proofs.lemmas.List.Sums.{sum_by-append}
use Rattle.std.proofs.lemmas.List.Elements.{All-head, All-tail, All-nil}
use Rattle.lay_model.specs.Sequences.{Sequence, IsSequence}
use Rattle.lay_model.specs.Arrangements.{Arranges}
use Rattle.lay_cost.specs.Placements.{Placement, IsPlacement, has, list_of, place_in, position_in, placement_of, scalars_on}
use Rattle.lay_cost.specs.Cost.{arranged_cost, IsArranged, Least, LeastArranged, ClosesUp}
use Rattle.lay_cost.proofs.Counts.{is_there, not_there, count_below_more, count_all, count_cons, count_first}
use Rattle.lay_cost.proofs.Rising.{one, scalars_more, count_none}
use Rattle.lay_cost.proofs.PlaceLemmas.{Once, list_of_lt}
use Rattle.lay_cost.proofs.Arranged.{all_scalars, scalar_there, once_at_most, each_list}
use Rattle.lay_cost.proofs.Closing.{closed_up, closed_up_arranges, closed_up_few, closed_up_costs}

-- a scalar stands at its position
in_its_list : (l : List ℕ) (s : ℕ) → has l s ≡ true → (get_or l (position_in l s) 0 ≡ s) × (position_in l s < length l)
in_its_list [] s e = absurd (true≢false (sym e))
in_its_list (x ∷ xs) s e = by (x == s) refl (in_its_list xs s)
  where
    by : (t : Bool) → (x == s) ≡ t → (has xs s ≡ true → (get_or xs (position_in xs s) 0 ≡ s) × (position_in xs s < length xs)) → (get_or (x ∷ xs) (if t then 0 else suc (position_in xs s)) 0 ≡ s) × ((if t then 0 else suc (position_in xs s)) < suc (length xs))
    by true is rest = (eqb-true x s is, omega arith)
    by false is rest = let r = rest (ap (λ b. b || has xs s) (sym is) ∙ e) in (r.0, omega (arith, r.1))

abbrev numbered : List (List ℕ) → ℕ → List ℕ
numbered ls r = get_or ls r []

-- and in its list
stands_at : (ls : List (List ℕ)) (s : ℕ) → has (concat ls) s ≡ true → (get_or (numbered ls (list_of ls s)) (place_in ls s) 0 ≡ s) × (place_in ls s < length (numbered ls (list_of ls s)))
stands_at [] s e = absurd (true≢false (sym e))
stands_at (l ∷ ls) s e = by (has l s) refl (stands_at ls s)
  where
    by : (t : Bool) → has l s ≡ t → (has (concat ls) s ≡ true → (get_or (numbered ls (list_of ls s)) (place_in ls s) 0 ≡ s) × (place_in ls s < length (numbered ls (list_of ls s)))) → (get_or (numbered (l ∷ ls) (if t then 0 else suc (list_of ls s))) (if t then position_in l s else place_in ls s) 0 ≡ s) × ((if t then position_in l s else place_in ls s) < length (numbered (l ∷ ls) (if t then 0 else suc (list_of ls s))))
    by true is rest = in_its_list l s is
    by false is rest = rest (ap (λ b. b || has (concat ls) s) (sym is) ∙ sym (list_any-append (λ y. y == s) l (concat ls)) ∙ e)

pub counted : (l : List ℕ) (s : ℕ) → has l s ≡ true → 1 ≤ count_by (λ t. t == s) l
counted [] s e = absurd (true≢false (sym e))
counted (x ∷ xs) s e = by (x == s) refl (counted xs s)
  where
    by : (t : Bool) → (x == s) ≡ t → (has xs s ≡ true → 1 ≤ count_by (λ t. t == s) xs) → 1 ≤ count_by (λ t. t == s) (x ∷ xs)
    by true is rest = omega (arith, count_first (λ t. t == s) x xs true is)
    by false is rest = omega (arith, count_first (λ t. t == s) x xs false is, rest (ap (λ b. b || has xs s) (sym is) ∙ e))

in_numbered : (ls : List (List ℕ)) (r s : ℕ) → has (numbered ls r) s ≡ true → has (concat ls) s ≡ true
in_numbered [] r s e = absurd (true≢false (sym e))
in_numbered (l ∷ ls) zero s e = list_any-append (λ y. y == s) l (concat ls) ∙ ap (λ b. b || has (concat ls) s) e
in_numbered (l ∷ ls) (suc r) s e = list_any-append (λ y. y == s) l (concat ls) ∙ rw (in_numbered ls r s e) (or-true (has l s))

-- one that stands in a list has its number, where each stands once
number_of : (ls : List (List ℕ)) (r s : ℕ) → Once (concat ls) → has (numbered ls r) s ≡ true → list_of ls s ≡ r
number_of [] r s once e = absurd (true≢false (sym e))
number_of (l ∷ ls) zero s once e = ap (λ b. if b then 0 else suc (list_of ls s)) e
number_of (l ∷ ls) (suc r) s once e =
    let both = sum_by-append (λ t. cond (t == s) 1 0) l (concat ls) in
    let lacks : has l s ≡ false = not_there s l (omega (arith, once s, both, counted (concat ls) s (in_numbered ls r s e))) in
    let rest : Once (concat ls) = λ t. omega (arith, once t, sum_by-append (λ u. cond (u == t) 1 0) l (concat ls)) in
    ap (λ b. if b then 0 else suc (list_of ls s)) lacks ∙ ap suc (number_of ls r s rest e)

-- how many numbers below n stand in a list
one_has : (l : List ℕ) (n : ℕ) → count_by (λ t. t == n) l ≤ 1 → count_by (λ t. t == n) l ≡ one (has l n)
one_has l n once = ⊎_elim yes no (cases_Bool (has l n))
  where
    yes : has l n ≡ true → count_by (λ t. t == n) l ≡ one (has l n)
    yes e = omega (arith, counted l n e, once, ap one e)

    no : has l n ≡ false → count_by (λ t. t == n) l ≡ one (has l n)
    no e = ⊎_elim (λ lt. absurd (true≢false (sym (is_there n l lt) ∙ e))) (λ le. omega (arith, le, ap one e)) (cases_lt 0 (count_by (λ t. t == n) l))

count_has : (l : List ℕ) (n : ℕ) → Once l → count_by (has l) (range_with_len 0 n) ≡ count_by (λ x. nat_lt x n) l
count_has l zero once = sym (none_below l)
  where
    not_below : (x : ℕ) → nat_lt x 0 ≡ false
    not_below x = grind (arith, nat_tests)

    none_below : (xs : List ℕ) → count_by (λ x. nat_lt x 0) xs ≡ 0
    none_below xs = count_none (λ x. nat_lt x 0) xs (λ k d lt. not_below (get_or xs k d))
count_has l (suc n) once = omega (arith, scalars_more (has l) 0 n, ap (λ m. one (has l m)) (zero-add n), count_below_more n l, one_has l n (once n), count_has l n once)

fewer : (p q : ℕ → Bool) (xs : List ℕ) → ((x : ℕ) → p x ≡ true → q x ≡ true) → count_by p xs ≤ count_by q xs
fewer p q [] h = zero-le
fewer p q (x ∷ xs) h = ⊎_elim (yes (fewer p q xs h)) (no (fewer p q xs h)) (cases_Bool (p x))
  where
    more : count_by q (x ∷ xs) ≡ one (q x) + count_by q xs
    more = count_cons q x xs

    yes : count_by p xs ≤ count_by q xs → p x ≡ true → count_by p (x ∷ xs) ≤ count_by q (x ∷ xs)
    yes rest e = omega (arith, count_first p x xs true e, count_first q x xs true (h x e), rest)

    no : count_by p xs ≤ count_by q xs → p x ≡ false → count_by p (x ∷ xs) ≤ count_by q (x ∷ xs)
    no rest e = omega (arith, count_first p x xs false e, more, rest)

once_in : (ls : List (List ℕ)) (r : ℕ) → Once (concat ls) → Once (numbered ls r)
once_in [] r once s = zero-le
once_in (l ∷ ls) zero once s = omega (arith, once s, sum_by-append (λ t. cond (t == s) 1 0) l (concat ls))
once_in (l ∷ ls) (suc r) once s = once_in ls r (λ t. omega (arith, once t, sum_by-append (λ u. cond (u == t) 1 0) l (concat ls))) s

passes_in : (P : ℕ → Type 0) (ls : List (List ℕ)) (r : ℕ) → All (λ l. All P l) ls → All P (numbered ls r)
passes_in P [] r all = All-nil P
passes_in P (l ∷ ls) zero all = All-head (λ k. All P k) l ls all
passes_in P (l ∷ ls) (suc r) all = passes_in P ls r (All-tail (λ k. All P k) l ls all)

-- a list is no longer than the register has scalars
length_le : (n : ℕ) (ls : List (List ℕ)) (r : ℕ) → Arranges n ls → length (numbered ls r) ≤ scalars_on n (placement_of ls) r
length_le n ls r h =
    let once = once_at_most n ls h in
    let l = numbered ls r in
    let all : count_by (λ x. nat_lt x n) l ≡ length l = count_all (λ x. nat_lt x n) l (passes_in (λ x. nat_lt x n ≡ true) ls r (each_list (λ x. nat_lt x n ≡ true) ls (all_scalars n ls h))) in
    omega (arith, all, count_has l n (once_in ls r once), fewer (has l) (λ s. list_of ls s == r) (range_with_len 0 n) (λ s e. eq-eqb (list_of ls s) r (number_of ls r s once e)))

same_place : (ls : List (List ℕ)) (s t : ℕ) → has (concat ls) s ≡ true → has (concat ls) t ≡ true → list_of ls s ≡ list_of ls t → place_in ls s ≡ place_in ls t → s ≡ t
same_place ls s t has_s has_t same place = sym (stands_at ls s has_s).0 ∙ ap₂ (λ r i. get_or (numbered ls r) i 0) same place ∙ (stands_at ls t has_t).0

-- lists of all the scalars are a placement
pub arranged_places : (seq : Sequence) (k : ℕ) (lists : List (List ℕ)) → IsArranged seq k lists → IsPlacement seq k (placement_of lists)
arranged_places seq k lists h =
    let there : (s : ℕ) → s < seq.scalars → has (concat lists) s ≡ true = λ s lt. scalar_there seq.scalars lists s h.arranges lt in
    record {
      registers = λ s lt. lt_of_lt_of_le (list_of_lt lists s (there s lt)) h.few;
      apart = λ s t lt_s lt_t same place. same_place lists s t (there s lt_s) (there t lt_t) same (ap nat_abs place);
      dense = λ step s lt. record { at = place_in lists s; is = refl; below = lt_of_lt_of_le (stands_at lists s (there s lt)).1 (length_le seq.scalars lists (list_of lists s) h.arranges) };
    }

-- each placement closes up to lists that cost no more
pub closes_up : (seq : Sequence) (k : ℕ) (p : Placement) → IsSequence seq → IsPlacement seq k p → ClosesUp seq k p
closes_up seq k p is h = record {
  lists = closed_up p seq.scalars k;
  arranged = record { arranges = closed_up_arranges p seq.scalars k is.few h.registers; few = closed_up_few p seq.scalars k };
  no_dearer = closed_up_costs seq k p is h;
}

-- so the best of all placements is the best of all lists
pub least_is_arranged : (seq : Sequence) (k c : ℕ) → IsSequence seq → Least seq k c → LeastArranged seq k c
least_is_arranged seq k c is h =
    let lists = closes_up seq k h.placement is h.places in
    record {
      lists = lists.lists;
      arranged = lists.arranged;
      costs = le_antisymm (subst (λ n. arranged_cost seq lists.lists ≤ n) h.costs lists.no_dearer) (h.least (placement_of lists.lists) (arranged_places seq k lists.lists lists.arranged));
      least = λ others arranged. h.least (placement_of others) (arranged_places seq k others arranged);
    }

pub least_of_arranged : (seq : Sequence) (k c : ℕ) → IsSequence seq → LeastArranged seq k c → Least seq k c
least_of_arranged seq k c is h = record {
  placement = placement_of h.lists;
  places = arranged_places seq k h.lists h.arranged;
  costs = h.costs;
  least = λ p places. let lists = closes_up seq k p is places in le_trans (h.least lists.lists lists.arranged) lists.no_dearer;
}
