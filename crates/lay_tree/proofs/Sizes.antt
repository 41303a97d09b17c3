-- How many nodes a piece has, and that small searches end within their budget.
use Rattle.std.proofs.Common.{◌≡◌, ◌≤◌, ◌+◌, ◌-◌, ◌*◌, ◌∙◌, ◌++◌, ℕ, zero, suc, List, [], ◌∷◌, Bool, true, false, not, refl, length, map, ap, sym, subst, inl, inr, arith}
use Rattle.std.specs.Prelude.{◌||◌, ◌&&◌, ◌==◌, filter, sum_by, if◌then◌else◌}
use Rattle.std.specs.List.{concat}
use Rattle.std.proofs.lemmas.Bool.{both_ways, not_from_true, or_from, le-ltb, lt-ltb, cond-true, cond-false, ne_eqb}
use Rattle.std.proofs.lemmas.List.{length-append}
use Rattle.std.proofs.lemmas.List.Sums.{sum_by-cons, sum_by-append}
use Rattle.lay_model.specs.Sequences.{Sequence}
use Rattle.lay_cost.specs.Placements.{has}
use Rattle.lay_cost.specs.Parts.{Node, node_lists}
use Rattle.std.proofs.lemmas.List.FromFn.{length-range_with_len}
use Rattle.lay_tree.specs.Marked.{HaveNodes, none, leaf, inner}
use Rattle.lay_tree.specs.Tree.{root, is_empty, with_scalar, with_close, all_scalars, unplaced, is_complete, has_closes_left, children}
use Rattle.lay_tree.specs.Search.{visit}
use Rattle.lay_tree.proofs.Members.{IsIn, IsOnce, in_back, of_filter, has_of}
use Rattle.lay_tree.proofs.Registers.{has_append}
use Rattle.lay_tree.proofs.Bounds.{once_range}
use Rattle.lay_tree.proofs.Visits.{by_first}
use Rattle.lay_tree.proofs.AnswerLists.{lists_with_scalar, lists_with_close, not_empty_behind}

-- the nodes from one on whose open list has a scalar, by the scalars that aren't placed and the closes that are left
abbrev pub opened_size : ℕ → ℕ → ℕ
opened_size zero closes = 1
opened_size (suc u) zero = suc (suc u * opened_size u zero)
opened_size (suc u) (suc closes) = suc (suc u * opened_size u (suc closes)) + suc (suc u * opened_size u closes)

-- from one on whose open list is empty
abbrev empty_size : ℕ → ℕ → ℕ
empty_size zero closes = 1
empty_size (suc u) closes = suc (suc u * opened_size u closes)

abbrev pub closes_left : ℕ → Node → ℕ
closes_left k n = k - suc (length n.closed)

abbrev pub size : ℕ → Sequence → Node → ℕ
size k seq n = if is_empty n.open_list then empty_size (length (unplaced seq n)) (closes_left k n) else opened_size (length (unplaced seq n)) (closes_left k n)

pub plus_zero : (n : ℕ) → n + 0 ≡ n
plus_zero n = omega arith

or_false : (b : Bool) → (b || false) ≡ b
or_false true = refl
or_false false = refl

same_filter : (p q : ℕ → Bool) (xs : List ℕ) → ((t : ℕ) → IsIn t xs → q t ≡ p t) → filter q xs ≡ filter p xs
same_filter p q [] same = refl
same_filter p q (x ∷ xs) same = rw (same x (inl refl), same_filter p q xs (λ t i. same t (inr i))) refl

-- a test that another one differs from at one element alone
one_less : (p q : ℕ → Bool) (s : ℕ) (xs : List ℕ) → ((t : ℕ) → (t ≡ s → ⊥) → q t ≡ p t) → q s ≡ false → p s ≡ true → IsOnce xs → IsIn s xs → suc (length (filter q xs)) ≡ length (filter p xs)
one_less p q s [] same no_s yes_s once i = absurd i
one_less p q s (x ∷ xs) same no_s yes_s once (inl e) =
    let rest : filter q xs ≡ filter p xs = same_filter p q xs (λ t j. same t (λ e2. once.0 (subst (λ v. IsIn v xs) (e2 ∙ e) j))) in
    let left : filter q (x ∷ xs) ≡ filter q xs = cond-false (q x) (x ∷ filter q xs) (filter q xs) (subst (λ v. q v ≡ false) e no_s) in
    let right : filter p (x ∷ xs) ≡ x ∷ filter p xs = cond-true (p x) (x ∷ filter p xs) (filter p xs) (subst (λ v. p v ≡ true) e yes_s)
    in ap (λ zs. suc (length zs)) (left ∙ rest) ∙ ap length (sym right)
one_less p q s (x ∷ xs) same no_s yes_s once (inr i) = go (p x) refl (one_less p q s xs same no_s yes_s once.1 i)
  where
    alike : q x ≡ p x
    alike = same x (λ e. once.0 (subst (λ v. IsIn v xs) (sym e) i))

    go : (b : Bool) → p x ≡ b → suc (length (filter q xs)) ≡ length (filter p xs) → suc (length (filter q (x ∷ xs))) ≡ length (filter p (x ∷ xs))
    go true is more = ap (λ zs. suc (length zs)) (cond-true (q x) (x ∷ filter q xs) (filter q xs) (alike ∙ is)) ∙ ap suc more ∙ ap length (sym (cond-true (p x) (x ∷ filter p xs) (filter p xs) is))
    go false is more = ap (λ zs. suc (length zs)) (cond-false (q x) (x ∷ filter q xs) (filter q xs) (alike ∙ is)) ∙ more ∙ ap length (sym (cond-false (p x) (x ∷ filter p xs) (filter p xs) is))

-- behind a scalar one less isn't placed
unplaced_behind_scalar : (seq : Sequence) (n : Node) (s : ℕ) → IsIn s (unplaced seq n) → suc (length (unplaced seq (with_scalar n s))) ≡ length (unplaced seq n)
unplaced_behind_scalar seq n s i =
    let found = of_filter (λ t. not (has (concat (node_lists n)) t)) s (all_scalars seq) i in
    one_less (λ t. not (has (concat (node_lists n)) t)) (λ t. not (has (concat (node_lists (with_scalar n s))) t)) s (all_scalars seq)
    (λ t differ. ap not (now t ∙ ap (λ b. has (concat (node_lists n)) t || b) (other t differ) ∙ or_false (has (concat (node_lists n)) t)))
    (not_from_true _ (has_of (concat (node_lists (with_scalar n s))) s (subst (λ l. IsIn s l) (sym (lists_with_scalar n s)) (in_back s (concat (node_lists n)) (s ∷ []) (inl refl)))))
    found.1 (once_range 0 seq.scalars) found.0
  where
    now : (t : ℕ) → has (concat (node_lists (with_scalar n s))) t ≡ (has (concat (node_lists n)) t || has (s ∷ []) t)
    now t = ap (λ l. has l t) (lists_with_scalar n s) ∙ has_append (concat (node_lists n)) (s ∷ []) t

    other : (t : ℕ) → (t ≡ s → ⊥) → has (s ∷ []) t ≡ false
    other t differ = or_from (s == t) false (ne_eqb s t (λ e. differ (sym e))) refl

unplaced_behind_close : (seq : Sequence) (n : Node) → unplaced seq (with_close n) ≡ unplaced seq n
unplaced_behind_close seq n = ap (λ l. filter (λ t. not (has l t)) (all_scalars seq)) (lists_with_close n)

-- a scalar's child
pub scalar_size : (k : ℕ) (seq : Sequence) (n : Node) (u s : ℕ) → length (unplaced seq n) ≡ suc u → IsIn s (unplaced seq n) → size k seq (with_scalar n s) ≡ opened_size u (closes_left k n)
scalar_size k seq n u s long i =
    let less : length (unplaced seq (with_scalar n s)) ≡ u = omega (arith, unplaced_behind_scalar seq n s i, long)
    in rw (not_empty_behind n.open_list s) (ap (λ m. opened_size m (closes_left k n)) less)

scalar_sizes : (k : ℕ) (seq : Sequence) (n : Node) (u : ℕ) (ss : List ℕ) → length (unplaced seq n) ≡ suc u → ((s : ℕ) → IsIn s ss → IsIn s (unplaced seq n)) → sum_by (size k seq) (map (with_scalar n) ss) ≡ length ss * opened_size u (closes_left k n)
scalar_sizes k seq n u [] long all = omega arith
scalar_sizes k seq n u (s ∷ ss) long all = omega (arith, sum_by-cons (size k seq) (with_scalar n s) (map (with_scalar n) ss), scalar_size k seq n u s long (all s (inl refl)), scalar_sizes k seq n u ss long (λ t i. all t (inr i)))

-- the close's child
abbrev close_of : ℕ → Node → List Node
close_of k n = if not (is_empty n.open_list) && has_closes_left k n then with_close n ∷ [] else []

some_unplaced : (ss : List ℕ) → is_empty ss ≡ false → (P : Type 0) → ((u : ℕ) → length ss ≡ suc u → P) → P
some_unplaced [] some P go = absurd (both_ways true some refl)
some_unplaced (s ∷ ss) some P go = go (length ss) refl

close_size : (k : ℕ) (seq : Sequence) (n : Node) (u : ℕ) → length (unplaced seq n) ≡ suc u → size k seq n ≡ suc (suc u * opened_size u (closes_left k n) + sum_by (size k seq) (close_of k n))
close_size k seq n u long = go (is_empty n.open_list) refl (closes_left k n) refl
  where
    go : (b : Bool) → is_empty n.open_list ≡ b → (c : ℕ) → closes_left k n ≡ c → size k seq n ≡ suc (suc u * opened_size u (closes_left k n) + sum_by (size k seq) (close_of k n))
    go true is c left =
        let whole : size k seq n ≡ suc (suc u * opened_size u (closes_left k n)) = rw (is, long) refl in
        let none : sum_by (size k seq) (close_of k n) ≡ 0 = rw (is) refl
        in omega (arith, whole, none)
    go false is zero left =
        let no_more : has_closes_left k n ≡ false = le-ltb (suc (length n.closed)) k (omega (arith, left)) in
        let whole : size k seq n ≡ suc (suc u * opened_size u 0) = rw (is, long, left) refl in
        let none : sum_by (size k seq) (close_of k n) ≡ 0 = rw (is, no_more) refl in
        let same : suc u * opened_size u (closes_left k n) ≡ suc u * opened_size u 0 = ap (λ m. suc u * opened_size u m) left
        in omega (arith, whole, none, same)
    go false is (suc c) left =
        let some : has_closes_left k n ≡ true = lt-ltb (suc (length n.closed)) k (omega (arith, left)) in
        let whole : size k seq n ≡ suc (suc u * opened_size u (suc c)) + suc (suc u * opened_size u c) = rw (is, long, left) refl in
        let one : sum_by (size k seq) (close_of k n) ≡ size k seq (with_close n) = rw (is, some) (sum_by-cons (size k seq) (with_close n) [] ∙ plus_zero _) in
        let longer : length (n.closed ++ (n.open_list ∷ [])) ≡ length n.closed + 1 = length-append n.closed (n.open_list ∷ []) in
        let less : closes_left k (with_close n) ≡ c = omega (arith, left, longer) in
        let child : size k seq (with_close n) ≡ suc (suc u * opened_size u c) = rw (less, ap length (unplaced_behind_close seq n) ∙ long) refl in
        let same : suc u * opened_size u (closes_left k n) ≡ suc u * opened_size u (suc c) = ap (λ m. suc u * opened_size u m) left
        in omega (arith, whole, one, child, same)

-- a node and the children's nodes
size_of_children : (k : ℕ) (seq : Sequence) (n : Node) → is_complete seq n ≡ false → size k seq n ≡ suc (sum_by (size k seq) (children k seq n))
size_of_children k seq n unfinished = some_unplaced (unplaced seq n) unfinished _ (λ u long.
    let scalars = scalar_sizes k seq n u (unplaced seq n) long (λ s i. i) in
    let many : length (unplaced seq n) * opened_size u (closes_left k n) ≡ suc u * opened_size u (closes_left k n) = ap (λ m. m * opened_size u (closes_left k n)) long
    in omega (arith, close_size k seq n u long, sum_by-append (size k seq) (map (with_scalar n) (unplaced seq n)) (close_of k n), scalars, many))

opened_some : (u c : ℕ) → 1 ≤ opened_size u c
opened_some zero c = omega arith
opened_some (suc u) zero = omega arith
opened_some (suc u) (suc c) = omega arith

empty_some : (u c : ℕ) → 1 ≤ empty_size u c
empty_some zero c = omega arith
empty_some (suc u) c = omega arith

size_some : (k : ℕ) (seq : Sequence) (n : Node) → 1 ≤ size k seq n
size_some k seq n = go (is_empty n.open_list) refl
  where
    go : (b : Bool) → is_empty n.open_list ≡ b → 1 ≤ size k seq n
    go true is = rw (is) (empty_some (length (unplaced seq n)) (closes_left k n))
    go false is = rw (is) (opened_some (length (unplaced seq n)) (closes_left k n))

-- a visit with as many marks as there are nodes ends
pub visit_ends : (k : ℕ) (seq : Sequence) (marks : ℕ) (ns : List Node) (best : List (List ℕ)) → sum_by (size k seq) ns ≤ marks → (visit k seq marks ns best).finished ≡ true
visit_ends k seq marks [] best enough = refl
visit_ends k seq zero (n ∷ ns) best enough = absurd (omega (arith, enough, sum_by-cons (size k seq) n ns, size_some k seq n))
visit_ends k seq (suc marks) (n ∷ ns) best enough = by_first (λ v. v.finished ≡ true) k seq marks n ns best
    (λ is. visit_ends k seq marks ns best fewer)
    (λ less complete. visit_ends k seq marks ns (node_lists n) fewer)
    (λ below unfinished. visit_ends k seq marks (children k seq n ++ ns) best (omega (arith, enough, sum_by-cons (size k seq) n ns, size_of_children k seq n unfinished, sum_by-append (size k seq) (children k seq n) ns)))
  where
    fewer : sum_by (size k seq) ns ≤ marks
    fewer = omega (arith, enough, sum_by-cons (size k seq) n ns, size_some k seq n)

-- so many nodes there are
complete_size : (k : ℕ) (seq : Sequence) (n : Node) → is_complete seq n ≡ true → size k seq n ≡ 1
complete_size k seq n complete = rw (no_scalar (unplaced seq n) complete) (go (is_empty n.open_list) refl)
  where
    no_scalar : (ss : List ℕ) → is_empty ss ≡ true → length ss ≡ 0
    no_scalar [] all = refl
    no_scalar (s ∷ ss) all = absurd (both_ways false refl all)

    go : (b : Bool) → is_empty n.open_list ≡ b → (if is_empty n.open_list then empty_size 0 (closes_left k n) else opened_size 0 (closes_left k n)) ≡ 1
    go true is = rw (is) refl
    go false is = rw (is) refl

counted_as : (k : ℕ) (seq : Sequence) (count : ℕ) (ns : List Node) → sum_by (size k seq) ns ≡ count → HaveNodes k seq ns count
counted_as k seq zero [] e = none
counted_as k seq zero (n ∷ ns) e = absurd (omega (arith, e, sum_by-cons (size k seq) n ns, size_some k seq n))
counted_as k seq (suc count) [] e = absurd (omega (arith, e))
counted_as k seq (suc count) (n ∷ ns) e = go (is_complete seq n) refl (counted_as k seq count)
  where
    go : (b : Bool) → is_complete seq n ≡ b → ((ms : List Node) → sum_by (size k seq) ms ≡ count → HaveNodes k seq ms count) → HaveNodes k seq (n ∷ ns) (suc count)
    go true is more = leaf n ns count is (more ns (omega (arith, e, sum_by-cons (size k seq) n ns, complete_size k seq n is)))
    go false is more = inner n ns count is (more (children k seq n ++ ns) (omega (arith, e, sum_by-cons (size k seq) n ns, size_of_children k seq n is, sum_by-append (size k seq) (children k seq n) ns)))

pub counted : (k : ℕ) (seq : Sequence) (n : Node) → HaveNodes k seq (n ∷ []) (size k seq n)
counted k seq n = counted_as k seq (size k seq n) (n ∷ []) (omega (arith, sum_by-cons (size k seq) n []))

kept : (ss : List ℕ) → filter (λ s. true) ss ≡ ss
kept [] = refl
kept (s ∷ ss) = ap (λ rest. s ∷ rest) (kept ss)

many_unplaced : (seq : Sequence) → length (unplaced seq root) ≡ seq.scalars
many_unplaced seq = ap length (kept (all_scalars seq)) ∙ length-range_with_len 0 seq.scalars

pub root_alone : (k : ℕ) (seq : Sequence) → seq.scalars ≡ 0 → size k seq root ≡ 1
root_alone k seq no_scalars = ap (λ m. empty_size m (k - 1)) (many_unplaced seq ∙ no_scalars)

pub root_size : (k : ℕ) (seq : Sequence) (u : ℕ) → seq.scalars ≡ suc u → size k seq root ≡ suc (suc u * opened_size u (k - 1))
root_size k seq u many = ap (λ m. empty_size m (k - 1)) (many_unplaced seq ∙ many)
