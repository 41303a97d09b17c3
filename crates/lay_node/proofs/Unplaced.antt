-- The scalars that aren't placed, and the greatest weights among them, where one is placed.
use Rattle.std.proofs.Common.{◌≡◌, ℕ, zero, suc, ◌+◌, ◌*◌, ◌<◌, ◌≤◌, max, Bool, true, false, cond, not, List, [], ◌∷◌, ◌++◌, map, filter, fold, length, refl, ap, sym, ◌∙◌, arith}
use Rattle.std.specs.Prelude.{◌==◌, ◌&&◌, ◌||◌, sum_by, count_by}
use Rattle.std.specs.List.{range_with_len, concat}
use Rattle.std.proofs.lemmas.Bool.{both_ways, eqb-true, eqb-false}
use Rattle.std.proofs.lemmas.Bool.Decides.{nat_tests}
use Rattle.std.proofs.lemmas.List.{map_push}
use Rattle.std.proofs.lemmas.List.Elements.{filter_agree}
use Rattle.std.proofs.lemmas.List.Folds.{concat-append, list_any-append}
use Rattle.std.proofs.lemmas.List.Sums.{sum_by-cons, fold_push}
use Rattle.lay_model.specs.Sequences.{Sequence}
use Rattle.lay_cost.specs.Placements.{has}
use Rattle.lay_cost.specs.Parts.{Node, node_lists}
use Rattle.lay_tree.specs.Tree.{with_scalar, with_close, unplaced, all_scalars}
use Rattle.lay_tree.specs.Bound.{greatest}
use Rattle.lay_node.proofs.Sizes.{one_if, sum_filter_le, count_above}

pub has_append : (xs ys : List ℕ) (s : ℕ) → has (xs ++ ys) s ≡ (has xs s || has ys s)
has_append xs ys s = list_any-append (λ t. t == s) xs ys

-- all but one
abbrev pub minus : ℕ → List ℕ → List ℕ
minus s xs = filter (λ t. not (t == s)) xs

both_tests : (p q r : ℕ → Bool) → ((t : ℕ) → r t ≡ (p t && q t)) → (xs : List ℕ) → filter r xs ≡ filter q (filter p xs)
both_tests p q r h [] = refl
both_tests p q r h (x ∷ xs) = by (p x) (q x) (h x) refl refl (both_tests p q r h xs)
  where
    by : (a b : Bool) → r x ≡ (p x && q x) → p x ≡ a → q x ≡ b → filter r xs ≡ filter q (filter p xs) → cond (r x) (x ∷ filter r xs) (filter r xs) ≡ filter q (cond (p x) (x ∷ filter p xs) (filter p xs))
    by true true e f g rest = rw (e, f, g) (ap (λ l. x ∷ l) rest)
    by true false e f g rest = rw (e, f, g) rest
    by false b e f g rest = rw (e, f) rest

pub placed_more : (n : Node) (s t : ℕ) → has (concat (node_lists (with_scalar n s))) t ≡ (has (concat (node_lists n)) t || (s == t))
placed_more n s t =
    let whole = λ (l : List ℕ). ap (λ xs. has xs t) (concat-append n.closed (l ∷ [])) ∙ has_append (concat n.closed) (concat (l ∷ [])) t in
    let open_has = λ (l : List ℕ). has_append l [] t in
    by (has (concat n.closed) t) (has n.open_list t) (s == t) (whole (n.open_list ++ (s ∷ [])) ∙ ap (λ b. has (concat n.closed) t || b) (open_has (n.open_list ++ (s ∷ [])) ∙ ap (λ b. b || false) (has_append n.open_list (s ∷ []) t))) (whole n.open_list ∙ ap (λ b. has (concat n.closed) t || b) (open_has n.open_list))
  where
    by : (a b c : Bool) → has (concat (node_lists (with_scalar n s))) t ≡ (a || ((b || (c || false)) || false)) → has (concat (node_lists n)) t ≡ (a || (b || false)) → has (concat (node_lists (with_scalar n s))) t ≡ (has (concat (node_lists n)) t || c)
    by true b c e f = e ∙ sym (ap (λ x. x || c) f)
    by false true c e f = e ∙ sym (ap (λ x. x || c) f)
    by false false true e f = e ∙ sym (ap (λ x. x || true) f)
    by false false false e f = e ∙ sym (ap (λ x. x || false) f)

not_either : (a b : Bool) → not (a || b) ≡ (not a && not b)
not_either true b = refl
not_either false b = refl

turned : (s t : ℕ) → (s == t) ≡ (t == s)
turned s t = grind (arith, nat_tests)

pub unplaced_scalar : (seq : Sequence) (n : Node) (s : ℕ) → unplaced seq (with_scalar n s) ≡ minus s (unplaced seq n)
unplaced_scalar seq n s = both_tests (λ t. not (has (concat (node_lists n)) t)) (λ t. not (t == s)) (λ t. not (has (concat (node_lists (with_scalar n s))) t)) (λ t. ap not (placed_more n s t) ∙ not_either (has (concat (node_lists n)) t) (s == t) ∙ ap (λ b. not (has (concat (node_lists n)) t) && not b) (turned s t)) (all_scalars seq)

pub placed_closed : (n : Node) (t : ℕ) → has (concat (node_lists (with_close n))) t ≡ has (concat (node_lists n)) t
placed_closed n t =
    ap (λ xs. has xs t) (concat-append (node_lists n) ([] ∷ [])) ∙ has_append (concat (node_lists n)) [] t ∙ by (has (concat (node_lists n)) t)
  where
    by : (b : Bool) → (b || false) ≡ b
    by true = refl
    by false = refl

pub unplaced_close : (seq : Sequence) (n : Node) → unplaced seq (with_close n) ≡ unplaced seq n
unplaced_close seq n = filter_agree (λ t. not (has (concat (node_lists (with_close n))) t)) (λ t. not (has (concat (node_lists n)) t)) (λ t. ap not (placed_closed n t)) (all_scalars seq)

-- the greatest one, with one more and without it
pub greatest_cons : (x : ℕ) (xs : List ℕ) → greatest (x ∷ xs) ≡ max x (greatest xs)
greatest_cons x xs = from (max 0 x) xs ∙ ap (λ a. max a (greatest xs)) (omega arith)
  where
    from : (a : ℕ) (ys : List ℕ) → fold max a ys ≡ max a (fold max 0 ys)
    from a [] = omega arith
    from a (y ∷ ys) = omega (arith, from (max a y) ys, from (max 0 y) ys)

greatest_apart : (f : ℕ → ℕ) (s : ℕ) (xs : List ℕ) → max (greatest (map f xs)) (f s) ≡ max (greatest (map f (minus s xs))) (f s)
greatest_apart f s [] = refl
greatest_apart f s (x ∷ xs) = by (x == s) refl (greatest_apart f s xs)
  where
    by : (b : Bool) → (x == s) ≡ b → max (greatest (map f xs)) (f s) ≡ max (greatest (map f (minus s xs))) (f s) → max (greatest (map f (x ∷ xs))) (f s) ≡ max (greatest (map f (cond (not b) (x ∷ minus s xs) (minus s xs)))) (f s)
    by true e rest =
        let same : f x ≡ f s = ap f (eqb-true x s e) in
        omega (arith, greatest_cons (f x) (map f xs), rest, same)
    by false e rest = omega (arith, greatest_cons (f x) (map f xs), greatest_cons (f x) (map f (minus s xs)), rest)

greatest_of_there : (f : ℕ → ℕ) (s : ℕ) (xs : List ℕ) → has xs s ≡ true → f s ≤ greatest (map f xs)
greatest_of_there f s [] e = absurd (both_ways false refl e)
greatest_of_there f s (x ∷ xs) e = by (x == s) refl (greatest_of_there f s xs)
  where
    by : (b : Bool) → (x == s) ≡ b → (has xs s ≡ true → f s ≤ greatest (map f xs)) → f s ≤ greatest (map f (x ∷ xs))
    by true is rest =
        let same : f x ≡ f s = ap f (eqb-true x s is) in
        omega (arith, greatest_cons (f x) (map f xs), same)
    by false is rest =
        let later : has xs s ≡ true = sym (ap (λ b. b || has xs s) is) ∙ e in
        omega (arith, greatest_cons (f x) (map f xs), rest later)

-- an element's number is among them, wherever it stands
pub greatest_minus : (f : ℕ → ℕ) (s : ℕ) (xs : List ℕ) → has xs s ≡ true → greatest (map f xs) ≡ max (greatest (map f (minus s xs))) (f s)
greatest_minus f s xs e = omega (arith, greatest_apart f s xs, greatest_of_there f s xs e)

pub greatest_back : (f : ℕ → ℕ) (s : ℕ) (xs : List ℕ) → greatest (map f (xs ++ (s ∷ []))) ≡ max (greatest (map f xs)) (f s)
greatest_back f s xs = ap greatest (map_push f xs s) ∙ fold_push max 0 (map f xs) (f s)

-- sums without one
pub sum_minus : (f : ℕ → ℕ) (s : ℕ) (xs : List ℕ) → sum_by f xs ≡ count_by (λ t. t == s) xs * f s + sum_by f (minus s xs)
sum_minus f s [] = omega arith
sum_minus f s (x ∷ xs) = by (x == s) refl (sum_minus f s xs)
  where
    by : (b : Bool) → (x == s) ≡ b → sum_by f xs ≡ count_by (λ t. t == s) xs * f s + sum_by f (minus s xs) → sum_by f (x ∷ xs) ≡ count_by (λ t. t == s) (x ∷ xs) * f s + sum_by f (cond (not b) (x ∷ minus s xs) (minus s xs))
    by true e rest =
        let same : f x ≡ f s = ap f (eqb-true x s e) in
        let more : count_by (λ t. t == s) (x ∷ xs) ≡ 1 + count_by (λ t. t == s) xs = sum_by-cons (λ t. cond (t == s) 1 0) x xs ∙ ap (λ b. cond b 1 0 + count_by (λ t. t == s) xs) e in
        rw more (omega (arith, sum_by-cons f x xs, rest, same))
    by false e rest =
        let same : count_by (λ t. t == s) (x ∷ xs) ≡ 0 + count_by (λ t. t == s) xs = sum_by-cons (λ t. cond (t == s) 1 0) x xs ∙ ap (λ b. cond b 1 0 + count_by (λ t. t == s) xs) e in
        rw same (omega (arith, sum_by-cons f x xs, sum_by-cons f x (minus s xs), rest))

pub length_minus : (s : ℕ) (xs : List ℕ) → length xs ≡ count_by (λ t. t == s) xs + length (minus s xs)
length_minus s [] = refl
length_minus s (x ∷ xs) = by (x == s) refl (length_minus s xs)
  where
    by : (b : Bool) → (x == s) ≡ b → length xs ≡ count_by (λ t. t == s) xs + length (minus s xs) → length (x ∷ xs) ≡ count_by (λ t. t == s) (x ∷ xs) + length (cond (not b) (x ∷ minus s xs) (minus s xs))
    by true e rest =
        let more : count_by (λ t. t == s) (x ∷ xs) ≡ 1 + count_by (λ t. t == s) xs = sum_by-cons (λ t. cond (t == s) 1 0) x xs ∙ ap (λ b. cond b 1 0 + count_by (λ t. t == s) xs) e in
        omega (arith, more, rest)
    by false e rest =
        let same : count_by (λ t. t == s) (x ∷ xs) ≡ 0 + count_by (λ t. t == s) xs = sum_by-cons (λ t. cond (t == s) 1 0) x xs ∙ ap (λ b. cond b 1 0 + count_by (λ t. t == s) xs) e in
        omega (arith, same, rest)

-- a scalar that passes stands once among those that do
pub count_kept : (p : ℕ → Bool) (s a n : ℕ) → p s ≡ true → a ≤ s → s < a + n → count_by (λ t. t == s) (filter p (range_with_len a n)) ≡ 1
count_kept p s a zero e low high = absurd (omega (arith, low, high))
count_kept p s a (suc n) e low high = by (a == s) (p a) refl refl (λ l. count_kept p s (a + 1) n e l (omega (arith, high)))
  where
    by : (b t : Bool) → (a == s) ≡ b → p a ≡ t → (a + 1 ≤ s → count_by (λ t. t == s) (filter p (range_with_len (a + 1) n)) ≡ 1) → count_by (λ t. t == s) (cond t (a ∷ filter p (range_with_len (a + 1) n)) (filter p (range_with_len (a + 1) n))) ≡ 1
    by true true is f more =
        let one : one_if (a == s) ≡ one_if true = ap one_if is in
        omega (arith, sum_by-cons (λ t. cond (t == s) 1 0) a (filter p (range_with_len (a + 1) n)), one, sum_filter_le (λ t. cond (t == s) 1 0) p (range_with_len (a + 1) n), count_above s (a + 1) n (omega (arith, eqb-true a s is)))
    by true false is f more = absurd (both_ways (p a) f (ap p (eqb-true a s is) ∙ e))
    by false true is f more =
        let none : one_if (a == s) ≡ one_if false = ap one_if is in
        omega (arith, sum_by-cons (λ t. cond (t == s) 1 0) a (filter p (range_with_len (a + 1) n)), none, more (omega (arith, low, eqb-false a s is)))
    by false false is f more = more (omega (arith, low, eqb-false a s is))
