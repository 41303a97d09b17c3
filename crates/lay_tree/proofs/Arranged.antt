-- Each arrangement in at most k lists is a complete node of the tree.
use Rattle.std.proofs.Common.{◌≡◌, ◌<◌, ◌≤◌, ◌+◌, ◌∙◌, ◌++◌, ℕ, suc, List, [], ◌∷◌, Bool, true, false, refl, length, ap, sym, subst, inl, inr, arith, append-nil, append_assoc}
use Rattle.std.specs.Prelude.{◌==◌, sum_by, count_by, if◌then◌else◌}
use Rattle.std.specs.List.{concat, range_with_len}
use Rattle.std.proofs.lemmas.Bool.{cases_eq, both_ways, or_from, false_from_ne_true, eqb-true, eq-eqb, ne_eqb, cond-true, cond-false, not-true, lt-ltb}
use Rattle.std.proofs.lemmas.List.{length-append}
use Rattle.std.proofs.lemmas.List.FromFn.{length-range_with_len}
use Rattle.std.proofs.lemmas.List.Sums.{sum_by-cons}
use Rattle.lay_model.specs.Sequences.{Sequence}
use Rattle.lay_cost.specs.Placements.{has}
use Rattle.lay_cost.specs.Parts.{Node, node_lists}
use Rattle.lay_tree.specs.Tree.{is_empty, with_close, has_closes_left, children, IsBelow, itself, behind_child}
use Rattle.lay_tree.proofs.Members.{IsIn, IsOnce, to_contains, in_front, in_back, of_range, of_has, has_of}
use Rattle.lay_tree.proofs.Sums.{sum_swap}
use Rattle.lay_tree.proofs.Registers.{has_append}
use Rattle.lay_tree.proofs.Pairs.{none_picked, one_picked, bit}
use Rattle.lay_tree.proofs.Bounds.{once_range}
use Rattle.lay_tree.proofs.Nodes.{IsUnplaced, incomplete, IsChild, by_scalar, by_close, in_children, has_in_node}

abbrev pub node : List (List ℕ) → List ℕ → Node
node closed open_list = record { closed = closed; open_list = open_list }

above_child : (k : ℕ) (seq : Sequence) (n child m : Node) (s : ℕ) → IsUnplaced seq n s → IsChild k seq n child → IsBelow k seq child m → IsBelow k seq n m
above_child k seq n child m s u c below = behind_child n child m (incomplete seq n s u) (to_contains child (children k seq n) (in_children k seq n child c)) below

-- behind one more scalar another one is unplaced still
still_unplaced : (seq : Sequence) (closed : List (List ℕ)) (open_list : List ℕ) (s t : ℕ) → (s ≡ t → ⊥) → IsUnplaced seq (node closed open_list) t → IsUnplaced seq (node closed (open_list ++ (s ∷ []))) t
still_unplaced seq closed open_list s t differ u = record {
  below = u.below;
  not_closed = u.not_closed;
  not_open = has_append open_list (s ∷ []) t ∙ or_from (has open_list t) _ u.not_open (or_from (s == t) false (ne_eqb s t differ) refl);
}

-- scalars behind the open list
pub path_of_scalars : (k : ℕ) (seq : Sequence) (closed : List (List ℕ)) (open_list more : List ℕ) (m : Node) → IsOnce more → ((s : ℕ) → IsIn s more → IsUnplaced seq (node closed open_list) s)
    → IsBelow k seq (node closed (open_list ++ more)) m → IsBelow k seq (node closed open_list) m
path_of_scalars k seq closed open_list [] m once fresh below = subst (λ list. IsBelow k seq (node closed list) m) (append-nil open_list) below
path_of_scalars k seq closed open_list (s ∷ more) m once fresh below =
    let next = path_of_scalars k seq closed (open_list ++ (s ∷ [])) more m once.1 (λ t i. still_unplaced seq closed open_list s t (λ same. once.0 (subst (λ v. IsIn v more) (sym same) i)) (fresh t (inr i)))
    (subst (λ list. IsBelow k seq (node closed list) m) (sym (append_assoc open_list (s ∷ []) more)) below)
    in above_child k seq (node closed open_list) (node closed (open_list ++ (s ∷ []))) m s (fresh s (inl refl)) (by_scalar s (fresh s (inl refl))) next

-- parts of what stands once
pub once_parts : (xs ys : List ℕ) → IsOnce (xs ++ ys) → IsOnce xs × (IsOnce ys × ((s : ℕ) → IsIn s xs → IsIn s ys → ⊥))
once_parts [] ys once = (tt, (once, λ s i j. i))
once_parts (x ∷ xs) ys once =
    let h = once_parts xs ys once.1
    in ((λ i. once.0 (in_front x xs ys i), h.0), (h.1.0, λ s i j. elim i [ inl same ↦ once.0 (in_back x xs ys (subst (λ v. IsIn v ys) same j)) | inr i2 ↦ h.1.1 s i2 j ]))

first_of_some : (list : List ℕ) → is_empty list ≡ false → (P : Type 0) → ((s : ℕ) → IsIn s list → P) → P
first_of_some [] some P go = absurd (both_ways true some refl)
first_of_some (s ∷ ss) some P go = go s (inl refl)

-- a node of some lists
pub record Reached (k : ℕ) (seq : Sequence) (n : Node) (lists : List (List ℕ)) : Type 0 where
  pub end : Node
  pub below : IsBelow k seq n end
  pub is : node_lists end ≡ lists

-- a scalar that stands in no list, behind a close
pub unplaced_behind : (seq : Sequence) (closed : List (List ℕ)) (open_list : List ℕ) (s : ℕ) → IsUnplaced seq (node closed open_list) s → IsUnplaced seq (node (closed ++ (open_list ∷ [])) []) s
unplaced_behind seq closed open_list s u = record { below = u.below; not_closed = has_in_node (node closed open_list) s ∙ or_from (has (concat closed) s) (has open_list s) u.not_closed u.not_open; not_open = refl }

pub not_in_has : (list : List ℕ) (s : ℕ) → (IsIn s list → ⊥) → has list s ≡ false
not_in_has list s out = false_from_ne_true (has list s) (λ e. out (of_has list s e))

pub path_of_lists : (k : ℕ) (seq : Sequence) (more closed : List (List ℕ)) (open_list : List ℕ) → ((list : List ℕ) → IsIn list more → is_empty list ≡ false) → is_empty open_list ≡ false
    → length closed + length more < k → IsOnce (concat more) → ((s : ℕ) → IsIn s (concat more) → IsUnplaced seq (node closed open_list) s)
    → Reached k seq (node closed open_list) (closed ++ (open_list ∷ more))
path_of_lists k seq [] closed open_list some opened few once fresh = record { end = node closed open_list; below = itself (node closed open_list); is = refl }
path_of_lists k seq (list ∷ more) closed open_list some opened few once fresh =
    let parts = once_parts list (concat more) once in
    let longer : length (closed ++ (open_list ∷ [])) ≡ length closed + 1 = length-append closed (open_list ∷ []) in
    let rest = path_of_lists k seq more (closed ++ (open_list ∷ [])) list (λ l i. some l (inr i)) (some list (inl refl)) (omega (arith, few, longer)) parts.1.0
    (λ s i. let u = unplaced_behind seq closed open_list s (fresh s (in_back s list (concat more) i)) in record { below = u.below; not_closed = u.not_closed; not_open = not_in_has list s (λ j. parts.1.1 s j i) }) in
    let scalars = path_of_scalars k seq (closed ++ (open_list ∷ [])) [] list rest.end parts.0 (λ s i. unplaced_behind seq closed open_list s (fresh s (in_front s list (concat more) i))) rest.below in
    let left : has_closes_left k (node closed open_list) ≡ true = lt-ltb (suc (length closed)) k (omega (arith, few)) in
    let below : IsBelow k seq (node closed open_list) rest.end = first_of_some list (some list (inl refl)) (IsBelow k seq (node closed open_list) rest.end)
    (λ s i. above_child k seq (node closed open_list) (with_close (node closed open_list)) rest.end s (fresh s (in_front s list (concat more) i)) (by_close opened left) scalars)
    in record { end = rest.end; below = below; is = rest.is ∙ append_assoc closed (open_list ∷ []) (list ∷ more) }

-- counts of an arrangement: all scalars below a number, each once, and nothing else
abbrev pub here : List ℕ → ℕ → ℕ
here xs s = count_by (λ t. t == s) xs

in_range_once : (x count : ℕ) → sum_by (λ s. if x == s then 1 else 0) (range_with_len 0 count) ≤ 1
in_range_once x count = one_picked (λ s. x == s) x (range_with_len 0 count) (λ t e. sym (eqb-true x t e)) (once_range 0 count)

out_of_range : (x count : ℕ) → (x < count → ⊥) → sum_by (λ s. if x == s then 1 else 0) (range_with_len 0 count) ≡ 0
out_of_range x count out = none_picked (λ s. x == s) (range_with_len 0 count) (λ t i e. out (subst (λ v. v < count) (sym (eqb-true x t e)) (omega (arith, (of_range t 0 count i).1))))

at_most_length : (f : ℕ → ℕ) (xs : List ℕ) → ((y : ℕ) → f y ≤ 1) → sum_by f xs ≤ length xs
at_most_length f [] most = omega arith
at_most_length f (y ∷ ys) most = omega (arith, sum_by-cons f y ys, most y, at_most_length f ys most)

-- a sum of numbers up to 1 is less than their number where one of them is 0
less_than_all : (f : ℕ → ℕ) (xs : List ℕ) (x : ℕ) → ((y : ℕ) → f y ≤ 1) → IsIn x xs → f x ≡ 0 → sum_by f xs < length xs
less_than_all f [] x most i none = absurd i
less_than_all f (y ∷ ys) x most (inl same) none = omega (arith, sum_by-cons f y ys, ap f same, none, at_most_length f ys most)
less_than_all f (y ∷ ys) x most (inr i) none = omega (arith, sum_by-cons f y ys, most y, less_than_all f ys x most i none)

sum_of_ones : (f : ℕ → ℕ) (xs : List ℕ) → ((s : ℕ) → IsIn s xs → f s ≡ 1) → sum_by f xs ≡ length xs
sum_of_ones f [] ones = refl
sum_of_ones f (x ∷ xs) ones = omega (arith, sum_by-cons f x xs, ones x (inl refl), sum_of_ones f xs (λ s i. ones s (inr i)))

pub all_below : (count : ℕ) (xs : List ℕ) → length xs ≡ count → ((s : ℕ) → s < count → here xs s ≡ 1) → (x : ℕ) → IsIn x xs → x < count
all_below count xs long ones x i = elim (Rattle.std.proofs.lemmas.Bool.cases_lt x count) [
  | inl below ↦ below
  | inr above ↦
      let inner : (y : ℕ) → sum_by (λ s. if y == s then 1 else 0) (range_with_len 0 count) ≤ 1 = λ y. in_range_once y count in
      let few = less_than_all (λ y. sum_by (λ s. if y == s then 1 else 0) (range_with_len 0 count)) xs x inner i (out_of_range x count (λ lt. omega (arith, lt, above))) in
      let swapped = sum_swap (λ s y. if y == s then 1 else 0) (range_with_len 0 count) xs in
      let total = sum_of_ones (λ s. here xs s) (range_with_len 0 count) (λ s j. ones s (omega (arith, (of_range s 0 count j).1)))
      in absurd (omega (arith, few, swapped, total, length-range_with_len 0 count, long))
]

pub in_counted : (xs : List ℕ) (s : ℕ) → here xs s ≡ 1 → IsIn s xs
in_counted xs s one = go (has xs s) refl
  where
    go : (b : Bool) → has xs s ≡ b → IsIn s xs
    go true is = of_has xs s is
    go false is = let none = none_picked (λ t. t == s) xs (λ t i e. both_ways _ is (has_of xs s (subst (λ v. IsIn v xs) (eqb-true t s e) i))) in absurd (omega (arith, none, one))

pub at_least_one : (xs : List ℕ) (x : ℕ) → IsIn x xs → 1 ≤ here xs x
at_least_one [] x i = absurd i
at_least_one (y ∷ ys) x (inl same) =
    let first : bit (y == x) ≡ 1 = rw (eq-eqb y x (sym same)) refl
    in omega (arith, sum_by-cons (λ t. if t == x then 1 else 0) y ys, first)
at_least_one (y ∷ ys) x (inr i) = omega (arith, sum_by-cons (λ t. if t == x then 1 else 0) y ys, at_least_one ys x i)

pub once_counted : (xs : List ℕ) → ((s : ℕ) → IsIn s xs → here xs s ≤ 1) → IsOnce xs
once_counted [] few = tt
once_counted (x ∷ xs) few = (λ i. twice i, once_counted xs (λ s i. omega (arith, few s (inr i), sum_by-cons (λ t. if t == s then 1 else 0) x xs)))
  where
    itself_counts : bit (x == x) ≡ 1
    itself_counts = rw (eq-eqb x x refl) refl

    twice : IsIn x xs → ⊥
    twice i =
        let more : 1 ≤ here xs x = at_least_one xs x i
        in omega (arith, few x (inl refl), sum_by-cons (λ t. if t == x then 1 else 0) x xs, itself_counts, more)
