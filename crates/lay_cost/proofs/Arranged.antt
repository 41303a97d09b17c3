-- What an arrangement is, of its lists.
use Rattle.std.proofs.Common.{◌≡◌, ℕ, ◌+◌, ◌<◌, ◌≤◌, true, false, nat_lt, ◌==◌, List, [], ◌∷◌, ◌++◌, length, count_by, refl, ap, sym, ◌∙◌, ⊎_elim, arith, le_of_eq, lt_of_lt_of_le, length-append, ltb-true, ne_eqb, fold, get_or, take, subst, ap₂}
use Rattle.std.proofs.lemmas.List.Sums.{fold_more}
use Rattle.std.specs.Prelude.{All}
use Rattle.std.specs.List.{concat}
use Rattle.std.proofs.lemmas.Bool.{cases_lt}
use Rattle.std.proofs.lemmas.List.Elements.{All-head, All-tail, All-nil, All-cons, All-weaker}
use Rattle.lay_model.specs.Arrangements.{Arranges}
use Rattle.lay_model.specs.Sequences.{Sequence, Block, IsSequence}
use Rattle.lay_cost.specs.declared.places.Place.{Place}
use Rattle.lay_cost.specs.declared.places.Places.{Places}
use Rattle.lay_cost.specs.Placements.{has, placement_of}
use Rattle.lay_cost.specs.Cost.{cost_of, arranged_cost}
use Rattle.lay_cost.specs.Restricted.{restricted}
use Rattle.lay_cost.specs.Parts.{part_cost_of}
use Rattle.lay_cost.specs.Memory.{AreNear, is_placed, placement_in, with_scalar, with_list, no_places}
use Rattle.lay_cost.proofs.Counts.{count_below, all_counted, is_there, count_first}
use Rattle.lay_cost.proofs.Restrictions.{Passes, restricted_to_all}
use Rattle.lay_cost.proofs.Tables.{placed_open}
use Rattle.lay_cost.proofs.PlaceLemmas.{Once, IsTable, Fit, lists_fit, lists_places, none_placed, table_near, table_cost, few_lists}

-- each of its numbers is a scalar
pub all_scalars : (n : ℕ) (lists : List (List ℕ)) → Arranges n lists → All (λ s. nat_lt s n ≡ true) (concat lists)
all_scalars n lists h = all_counted (λ s. nat_lt s n) (concat lists) (count_below n (concat lists) h.once ∙ sym h.all)

pub scalars_below : (n : ℕ) (lists : List (List ℕ)) → Arranges n lists → All (λ s. s < n) (concat lists)
scalars_below n lists h = All-weaker (λ s. nat_lt s n ≡ true) (λ s. s < n) (λ s e. ltb-true s n e) (concat lists) (all_scalars n lists h)

-- each scalar stands there
pub scalar_there : (n : ℕ) (lists : List (List ℕ)) (s : ℕ) → Arranges n lists → s < n → has (concat lists) s ≡ true
scalar_there n lists s h lt = is_there s (concat lists) (omega (arith, h.once s lt))

count_above : (n s : ℕ) (xs : List ℕ) → n ≤ s → All (λ x. x < n) xs → count_by (λ x. x == s) xs ≡ 0
count_above n s [] le all = refl
count_above n s (x ∷ xs) le all = omega (arith, count_first (λ y. y == s) x xs false (ne_eqb x s (λ e. absurd (omega (arith, e, All-head (λ y. y < n) x xs all)))), count_above n s xs le (All-tail (λ y. y < n) x xs all))

-- each number stands there once at most
pub once_at_most : (n : ℕ) (lists : List (List ℕ)) → Arranges n lists → Once (concat lists)
once_at_most n lists h s = ⊎_elim (λ lt. le_of_eq (h.once s lt)) (λ le. omega (arith, count_above n s (concat lists) le (scalars_below n lists h))) (cases_lt s n)

front_of : (P : ℕ → Type 0) (xs ys : List ℕ) → All P (xs ++ ys) → All P xs
front_of P [] ys all = All-nil P
front_of P (x ∷ xs) ys all = All-cons P x xs (All-head P x (xs ++ ys) all) (front_of P xs ys (All-tail P x (xs ++ ys) all))

pub back_of : (P : ℕ → Type 0) (xs ys : List ℕ) → All P (xs ++ ys) → All P ys
back_of P [] ys all = all
back_of P (x ∷ xs) ys all = back_of P xs ys (All-tail P x (xs ++ ys) all)

-- what is true of each element of the joined lists is true of each element of each
pub each_list : (P : ℕ → Type 0) (lists : List (List ℕ)) → All P (concat lists) → All (λ l. All P l) lists
each_list P [] all = All-nil (λ l. All P l)
each_list P (l ∷ ls) all = All-cons (λ k. All P k) l ls (front_of P l (concat ls) all) (each_list P ls (back_of P l (concat ls) all))

-- and no list is longer than all
pub each_short : (lists : List (List ℕ)) (n : ℕ) → length (concat lists) ≤ n → All (λ l. length l ≤ n) lists
each_short [] n le = All-nil (λ l. length l ≤ n)
each_short (l ∷ ls) n le = All-cons (λ k. length k ≤ n) l ls (omega (arith, length-append l (concat ls))) (each_short ls n (omega (arith, length-append l (concat ls))))

-- the table that is made of an arrangement
abbrev pub table_of : List (List ℕ) → List Place
table_of lists = (fold with_list no_places lists).places

pub small_lists : (n : ℕ) (lists : List (List ℕ)) → Arranges n lists → All (λ l. All (λ s. s < 64) l) lists
small_lists n lists h = each_list (λ s. s < 64) lists (All-weaker (λ s. s < n) (λ s. s < 64) (λ s lt. lt_of_lt_of_le lt h.few) (concat lists) (scalars_below n lists h))

pub few_of : (n : ℕ) (lists : List (List ℕ)) → Arranges n lists → length lists ≤ 64
few_of n lists h = omega (arith, few_lists lists h.some, h.all, h.few)

pub short_lists : (n : ℕ) (lists : List (List ℕ)) → Arranges n lists → All (λ l. length l ≤ 64) lists
short_lists n lists h = each_short lists 64 (omega (arith, h.all, h.few))

arranged_table : (n : ℕ) (lists : List (List ℕ)) → Arranges n lists → IsTable lists (table_of lists)
arranged_table n lists h s = (lists_places [] no_places lists none_placed (small_lists n lists h) (once_at_most n lists h)).places s ∙ placed_open lists s

arranged_fit : (n : ℕ) (lists : List (List ℕ)) → Arranges n lists → Fit lists
arranged_fit n lists h = lists_fit lists (few_of n lists h) (omega (arith, h.all, h.few))

pub arranged_near : (n : ℕ) (lists : List (List ℕ)) → Arranges n lists → AreNear (table_of lists)
arranged_near n lists h = table_near lists (table_of lists) (arranged_table n lists h) (arranged_fit n lists h)

-- all accesses are of scalars of the arrangement
all_there : (n : ℕ) (lists : List (List ℕ)) (bs : List Block) → Arranges n lists → All (λ b. All (λ s. s < n) b.accesses) bs → All (λ b. All (Passes (has (concat lists))) b.accesses) bs
all_there n lists bs h all = All-weaker (λ b. All (λ s. s < n) b.accesses) (λ b. All (Passes (has (concat lists))) b.accesses) (λ b below. All-weaker (λ s. s < n) (Passes (has (concat lists))) (λ s lt. scalar_there n lists s h lt) b.accesses below) bs all

-- over a sequence of its scalars alone, lists of all of them cost what the arrangement costs
pub part_of_all : (seq : Sequence) (lists : List (List ℕ)) → IsSequence seq → Arranges seq.scalars lists → part_cost_of seq lists ≡ arranged_cost seq lists
part_of_all seq lists is h = ap (λ r. cost_of r (placement_of lists)) (restricted_to_all seq (has (concat lists)) (all_there seq.scalars lists seq.blocks h is.scalars))

pub arranged_table_cost : (seq : Sequence) (lists : List (List ℕ)) → IsSequence seq → Arranges seq.scalars lists → cost_of (restricted seq (is_placed (table_of lists))) (placement_in (table_of lists)) ≡ arranged_cost seq lists
arranged_table_cost seq lists is h = table_cost seq lists (table_of lists) (arranged_table seq.scalars lists h) (arranged_fit seq.scalars lists h) ∙ part_of_all seq lists is h

-- one list of an arrangement
pub item_small : (n : ℕ) (lists : List (List ℕ)) (i : ℕ) (item xs : List ℕ) → Arranges n lists → i < length lists → item ≡ get_or lists i item → xs ≡ item → All (λ s. s < 64) xs
item_small n lists i item xs h lt is same = let P = λ (l : List ℕ). All (λ s. s < 64) l in subst P (sym (same ∙ is)) (small_lists n lists h i item lt)

pub item_short : (n : ℕ) (lists : List (List ℕ)) (i : ℕ) (item xs : List ℕ) → Arranges n lists → i < length lists → item ≡ get_or lists i item → xs ≡ item → length xs ≤ 64
item_short n lists i item xs h lt is same = let P = λ (l : List ℕ). length l ≤ 64 in subst P (sym (same ∙ is)) (short_lists n lists h i item lt)

pub register_stays : (p : Places) (xs : List ℕ) → (fold with_scalar p xs).register ≡ p.register
register_stays p [] = refl
register_stays p (x ∷ xs) = register_stays (with_scalar p x) xs

pub next_list : (lists : List (List ℕ)) (i : ℕ) (item xs : List ℕ) (p q : Places) → i < length lists → item ≡ get_or lists i item → xs ≡ item → p ≡ fold with_list no_places (take i lists) → q ≡ with_list p xs → q ≡ fold with_list no_places (take (i + 1) lists)
next_list lists i item xs p q lt is same so_far next = next ∙ ap₂ with_list so_far (same ∙ is) ∙ sym (fold_more with_list no_places lists i item lt)
