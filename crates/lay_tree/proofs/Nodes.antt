-- Nodes below a node.
use Rattle.std.proofs.Common.{◌≡◌, ◌<◌, ◌∙◌, ◌++◌, ℕ, List, [], ◌∷◌, Bool, true, false, not, refl, map, ap, sym, subst, inl, inr, arith, append-nil, append_assoc}
use Rattle.std.specs.Prelude.{◌||◌, ◌&&◌, ◌==◌, if◌then◌else◌}
use Rattle.std.specs.List.{concat}
use Rattle.std.proofs.lemmas.Bool.{both_ways, not-true, not_from_false, or_parts, or_from, eqb-false, and_parts, and_from, cond-true, cond-false}
use Rattle.std.proofs.lemmas.List.Folds.{concat-append}
use Rattle.lay_model.specs.Sequences.{Sequence}
use Rattle.lay_cost.specs.Placements.{has}
use Rattle.lay_cost.specs.Parts.{Node, node_lists}
use Rattle.lay_tree.specs.Tree.{is_empty, with_scalar, with_close, all_scalars, unplaced, is_complete, has_closes_left, children, IsBelow, itself, behind_child}
use Rattle.lay_tree.proofs.Members.{IsIn, IsOnce, from_contains, in_either, in_front, in_back, in_map, of_map, in_filter, of_filter, in_range, of_range}
use Rattle.lay_tree.proofs.Registers.{has_append}

pub has_in_node : (n : Node) (s : ℕ) → has (concat (node_lists n)) s ≡ (has (concat n.closed) s || has n.open_list s)
has_in_node n s = ap (λ list. has list s) (concat-append n.closed (n.open_list ∷ [])) ∙ has_append (concat n.closed) (n.open_list ++ []) s ∙ ap (λ list. has (concat n.closed) s || has list s) (append-nil n.open_list)

-- a scalar in no list of a node
pub record IsUnplaced (seq : Sequence) (n : Node) (s : ℕ) : Type 0 where
  pub below : s < seq.scalars
  pub not_closed : has (concat n.closed) s ≡ false
  pub not_open : has n.open_list s ≡ false

pub is_unplaced : (seq : Sequence) (n : Node) (s : ℕ) → IsIn s (unplaced seq n) → IsUnplaced seq n s
is_unplaced seq n s i =
    let h = of_filter (λ t. not (has (concat (node_lists n)) t)) s (all_scalars seq) i in
    let parts = or_parts (has (concat n.closed) s) (has n.open_list s) (sym (has_in_node n s) ∙ not-true _ h.1)
    in record { below = omega (arith, (of_range s 0 seq.scalars h.0).1); not_closed = parts.0; not_open = parts.1 }

pub in_unplaced : (seq : Sequence) (n : Node) (s : ℕ) → IsUnplaced seq n s → IsIn s (unplaced seq n)
in_unplaced seq n s u =
    in_filter (λ t. not (has (concat (node_lists n)) t)) s (all_scalars seq) (in_range s 0 seq.scalars (omega arith) (omega (arith, u.below)))
    (not_from_false _ (has_in_node n s ∙ or_from (has (concat n.closed) s) (has n.open_list s) u.not_closed u.not_open))

none_in_empty : (ss : List ℕ) (s : ℕ) → is_empty ss ≡ true → IsIn s ss → ⊥
none_in_empty [] s e i = i
none_in_empty (t ∷ ts) s e i = both_ways false refl e

some_in : (ss : List ℕ) (s : ℕ) → IsIn s ss → is_empty ss ≡ false
some_in [] s i = absurd i
some_in (t ∷ ts) s i = refl

pub incomplete : (seq : Sequence) (n : Node) (s : ℕ) → IsUnplaced seq n s → is_complete seq n ≡ false
incomplete seq n s u = some_in (unplaced seq n) s (in_unplaced seq n s u)

-- a complete node has each scalar
pub complete_has : (seq : Sequence) (n : Node) (s : ℕ) → is_complete seq n ≡ true → s < seq.scalars → has (concat n.closed) s ≡ false → has n.open_list s ≡ true
complete_has seq n s complete below not_closed = go (has n.open_list s) refl
  where
    go : (b : Bool) → has n.open_list s ≡ b → has n.open_list s ≡ true
    go true is = is
    go false is = absurd (none_in_empty (unplaced seq n) s complete (in_unplaced seq n s (record { below = below; not_closed = not_closed; not_open = is })))

-- what a child is
pub data IsChild (k : ℕ) (seq : Sequence) (n : Node) : Node → Type 0 where
  by_scalar : (s : ℕ) → IsUnplaced seq n s → IsChild k seq n (with_scalar n s)
  by_close : is_empty n.open_list ≡ false → has_closes_left k n ≡ true → IsChild k seq n (with_close n)

pub child_of : (k : ℕ) (seq : Sequence) (n child : Node) → IsIn child (children k seq n) → IsChild k seq n child
child_of k seq n child i = elim (in_either child (map (with_scalar n) (unplaced seq n)) _ i) [
  | inl h ↦ let o = of_map (with_scalar n) child (unplaced seq n) h in subst (λ c. IsChild k seq n c) (sym o.is) (by_scalar o.from (is_unplaced seq n o.from o.inside))
  | inr h ↦ go (not (is_empty n.open_list) && has_closes_left k n) refl h
]
  where
    go : (b : Bool) → (not (is_empty n.open_list) && has_closes_left k n) ≡ b → IsIn child (if not (is_empty n.open_list) && has_closes_left k n then with_close n ∷ [] else []) → IsChild k seq n child
    go true is h =
        let parts = and_parts (not (is_empty n.open_list)) (has_closes_left k n) is in
        let one : IsIn child (with_close n ∷ []) = subst (λ cs. IsIn child cs) (cond-true _ (with_close n ∷ []) [] is) h
        in elim one [ inl same ↦ subst (λ c. IsChild k seq n c) (sym same) (by_close (not-true _ parts.0) parts.1) | inr none ↦ absurd none ]
    go false is h = absurd (subst (λ cs. IsIn child cs) (cond-false _ (with_close n ∷ []) [] is) h)

pub in_children : (k : ℕ) (seq : Sequence) (n child : Node) → IsChild k seq n child → IsIn child (children k seq n)
in_children k seq n _ (by_scalar s u) = in_front (with_scalar n s) (map (with_scalar n) (unplaced seq n)) _ (in_map (with_scalar n) s (unplaced seq n) (in_unplaced seq n s u))
in_children k seq n _ (by_close some left) = in_back (with_close n) (map (with_scalar n) (unplaced seq n)) _ (subst (λ cs. IsIn (with_close n) cs) (sym (cond-true (not (is_empty n.open_list) && has_closes_left k n) (with_close n ∷ []) [] (and_from _ _ (not_from_false _ some) left))) (inl refl))

-- the closed lists of a node come first in each node below it
pub record HasBehind (n m : Node) : Type 0 where
  pub others : List (List ℕ)
  pub is : node_lists m ≡ n.closed ++ others

by_child : (k : ℕ) (seq : Sequence) (n child m : Node) → IsChild k seq n child → HasBehind child m → HasBehind n m
by_child k seq n _ m (by_scalar s u) h = record { others = h.others; is = h.is }
by_child k seq n _ m (by_close some left) h = record { others = n.open_list ∷ h.others; is = h.is ∙ append_assoc n.closed (n.open_list ∷ []) h.others }

pub closed_first : (k : ℕ) (seq : Sequence) (n m : Node) → IsBelow k seq n m → HasBehind n m
closed_first k seq _ _ (itself n) = record { others = n.open_list ∷ []; is = refl }
closed_first k seq _ _ (behind_child n child m unfinished inside below) = by_child k seq n child m (child_of k seq n child (from_contains child (children k seq n) inside)) (closed_first k seq child m below)

-- where no close is left, a node below a node has the same closed lists, and more scalars in the open list, each once
pub record HasMore (seq : Sequence) (n m : Node) : Type 0 where
  pub new : List ℕ
  pub closed : m.closed ≡ n.closed
  pub opened : m.open_list ≡ n.open_list ++ new
  pub once : IsOnce new
  pub fresh : (s : ℕ) → IsIn s new → IsUnplaced seq n s

before_scalar : (seq : Sequence) (n : Node) (s t : ℕ) → IsUnplaced seq (with_scalar n s) t → IsUnplaced seq n t × (s ≡ t → ⊥)
before_scalar seq n s t u =
    let parts = or_parts (has n.open_list t) (has (s ∷ []) t) (sym (has_append n.open_list (s ∷ []) t) ∙ u.not_open) in
    let other = or_parts (s == t) false parts.1
    in (record { below = u.below; not_closed = u.not_closed; not_open = parts.0 }, eqb-false s t other.0)

more_by_child : (k : ℕ) (seq : Sequence) (n child m : Node) → has_closes_left k n ≡ false → IsChild k seq n child → (has_closes_left k child ≡ false → HasMore seq child m) → HasMore seq n m
more_by_child k seq n _ m no_more (by_scalar s u) more =
    let h = more no_more in
    record {
      new = s ∷ h.new;
      closed = h.closed;
      opened = h.opened ∙ append_assoc n.open_list (s ∷ []) h.new;
      once = ((λ i. (before_scalar seq n s s (h.fresh s i)).1 refl), h.once);
      fresh = λ t i. elim i [ inl same ↦ subst (λ v. IsUnplaced seq n v) (sym same) u | inr j ↦ (before_scalar seq n s t (h.fresh t j)).0 ];
    }
more_by_child k seq n _ m no_more (by_close some left) more = absurd (both_ways _ no_more left)

pub open_grows : (k : ℕ) (seq : Sequence) (n m : Node) → has_closes_left k n ≡ false → IsBelow k seq n m → HasMore seq n m
open_grows k seq _ _ no_more (itself n) = record { new = []; closed = refl; opened = sym (append-nil n.open_list); once = tt; fresh = λ s i. absurd i }
open_grows k seq _ _ no_more (behind_child n child m unfinished inside below) =
    more_by_child k seq n child m no_more (child_of k seq n child (from_contains child (children k seq n) inside)) (λ e. open_grows k seq child m e below)

-- nothing but itself is below a complete node
pub below_complete : (k : ℕ) (seq : Sequence) (n m : Node) → is_complete seq n ≡ true → IsBelow k seq n m → n ≡ m
below_complete k seq _ _ complete (itself n) = refl
below_complete k seq _ _ complete (behind_child n child m unfinished inside below) = absurd (both_ways _ unfinished complete)
