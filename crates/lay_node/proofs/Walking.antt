-- The children of a node, and the ways back from them.
use Rattle.std.proofs.Common.{◌≡◌, ℕ, zero, suc, ◌+◌, ◌-◌, ◌^◌, ◌<◌, ◌≤◌, max, Bool, true, false, cond, not, List, [], ◌∷◌, ◌++◌, map, filter, length, refl, ap, ap₂, sym, subst, ◌∙◌, arith, inl, inr, append-nil, append_assoc, lt_of_lt_of_le}
use Rattle.std.specs.Prelude.{◌==◌, ◌&&◌, ◌⊎◌, All, slice_index, slice_index_or, slice_set, Option, Some, None, IfSome, is_some, if◌then◌else◌, nat_lt}
use Rattle.std.specs.List.{concat, range_with_len}
use Rattle.std.proofs.lemmas.Bool.{cases_eq, cases_lt, not-true}
use Rattle.std.proofs.lemmas.List.{map-append, set-set, set-get_or}
use Rattle.std.proofs.lemmas.List.Elements.{filter-append, All-head, All-tail, All-weaker}
use Rattle.lay_model.specs.Sequences.{Sequence}
use Rattle.lay_cost.specs.Placements.{has}
use Rattle.lay_cost.specs.Weights.{weight_at}
use Rattle.lay_cost.specs.Parts.{Node, node_lists}
use Rattle.lay_cost.proofs.Arranged.{back_of}
use Rattle.lay_tree.specs.Tree.{with_scalar, with_close, unplaced, is_complete, is_empty, has_closes_left, children}
use Rattle.lay_tree.specs.Bound.{weight_outside, greatest}
use Rattle.lay_node.specs.declared.kept.Kept.{Kept}
use Rattle.lay_node.specs.declared.level.Level.{Level}
use Rattle.lay_node.specs.declared.position.Position.{Position}
use Rattle.lay_node.specs.Levels.{is_free, beside_last}
use Rattle.lay_node.specs.Numbers.{last_scalar, needs_weights, needs_greatest, kept_in, kept_at, next_kept, most_beside, may_close}
use Rattle.lay_node.specs.Positions.{level_at, here, greatest_needed, IsLevel, IsAt, SameLevel, SameBelow, SamePlace, Enters, Leaves, Closes, Reopens}
use Rattle.lay_node.proofs.Ranges.{range_more}
use Rattle.lay_node.proofs.Unplaced.{unplaced_scalar, placed_more, greatest_minus}
use Rattle.lay_node.proofs.Needs.{no_greatest_above, greatest_weigh}
use Rattle.lay_node.proofs.Children.{beside_kept, most_kept, child_kept, has_unplaced, length_unplaced, most_beside_le}
use Rattle.lay_node.proofs.Agreeing.{ArePlaced}
use Rattle.lay_node.proofs.Proper.{proper_string, child_small}
use Rattle.lay_node.proofs.Descending.{proper_child, child_here, placed_child}

-- what a child's numbers are made of
pub record ChildFacts (seq : Sequence) (d : Position) (s : ℕ) (k : Kept) : Type 0 where
  pub level : k.closes < length d.levels.items
  pub last : IfSome k.last (λ t. t < 64)
  pub unplaced : 1 ≤ k.unplaced
  pub room : k.saved < 2 ^ 64
  pub without : needs_weights seq ≡ false → next_kept k s 0 0 ≡ kept_at d.registers seq (with_scalar (here d) s)
  pub saved : needs_weights seq ≡ true → k.saved + beside_last (weight_at (level_at d.levels.items k.closes).weights) k.last s < 2 ^ 64
  pub costs : needs_weights seq ≡ true → greatest_needed seq d ≡ false → next_kept k s (beside_last (weight_at (level_at d.levels.items k.closes).weights) k.last s) 0 ≡ kept_at d.registers seq (with_scalar (here d) s)
  pub greatest : greatest_needed seq d ≡ true → slice_index (level_at d.levels.items k.closes).greatest s ≤ k.greatest
  pub bounds : greatest_needed seq d ≡ true → next_kept k s (beside_last (weight_at (level_at d.levels.items k.closes).weights) k.last s) (slice_index (level_at d.levels.items k.closes).greatest s) ≡ kept_at d.registers seq (with_scalar (here d) s)

last_below : (n : ℕ) (xs : List ℕ) → All (λ t. t < n) xs → IfSome (last_scalar xs) (λ t. t < n)
last_below n [] all = tt
last_below n (x ∷ []) all = All-head (λ t. t < n) x [] all
last_below n (x ∷ y ∷ ys) all = last_below n (y ∷ ys) (All-tail (λ t. t < n) x (y ∷ ys) all)

beside_same : (v w : ℕ → ℕ → ℕ) (last : Option ℕ) (s : ℕ) → IfSome last (λ t. t < 64) → ((t : ℕ) → t < 64 → v t s ≡ w t s) → beside_last v last s ≡ beside_last w last s
beside_same v w None s below h = refl
beside_same v w (Some t) s below h = h t below

child_facts_in : (seq : Sequence) (d : Position) (s : ℕ) → IsAt seq d → s < seq.scalars → has (concat (node_lists (here d))) s ≡ false → ChildFacts seq d s (kept_in d.registers seq (here d))
child_facts_in seq d s at_it below lacks =
    let n = here d in
    let r = d.registers in
    let w = weight_outside seq n in
    let few = at_it.sequence.few in
    let l = level_at d.levels.items (length n.closed) in
    let proper = proper_string seq.scalars d.string.items at_it.string in
    let all : All (λ t. t < 64) n.open_list = All-weaker (λ t. t < seq.scalars) (λ t. t < 64) (λ t lt. lt_of_lt_of_le lt few) n.open_list (back_of (λ t. t < seq.scalars) (concat n.closed) n.open_list (subst (λ xs. All (λ t. t < seq.scalars) xs) (Rattle.std.proofs.lemmas.List.Folds.concat-append n.closed (n.open_list ∷ []) ∙ ap (λ o. concat n.closed ++ o) (append-nil n.open_list)) proper.few)) in
    let last = last_below 64 n.open_list all in
    let beside : needs_weights seq ≡ true → beside_last (weight_at l.weights) (last_scalar n.open_list) s ≡ beside_kept seq n s =
    λ some. beside_same (weight_at l.weights) w (last_scalar n.open_list) s last (λ t lt. at_it.level.weights some t s lt (lt_of_lt_of_le below few)) ∙ sym (ap (λ b. cond b (beside_last w (last_scalar n.open_list) s) 0) some) in
    let most : greatest_needed seq d ≡ true → slice_index l.greatest s ≡ most_kept r seq n s = λ ranks. at_it.level.greatest ranks s below lacks ∙ sym (ap (λ b. cond b (most_beside seq n s) 0) ranks) in
    let no_most : greatest_needed seq d ≡ false → 0 ≡ most_kept r seq n s = λ none. sym (ap (λ b. cond b (most_beside seq n s) 0) none) in
    let small = child_small r seq n s at_it.sequence proper (proper_child seq d s at_it below lacks) below lacks in
    let is = child_kept r seq n s below lacks in
    let saved : (kept_at r seq (with_scalar n s)).saved ≡ (kept_in r seq n).saved + beside_kept seq n s = ap (λ (k : Kept). k.saved) is in
    record {
      level = omega (arith, at_it.registers, at_it.levels);
      last = last;
      unplaced = omega (arith, length_unplaced seq n s below lacks);
      room = omega (arith, small.saved, saved);
      without = λ none. ap₂ (next_kept (kept_in r seq n) s) (sym (ap (λ b. cond b (beside_last w (last_scalar n.open_list) s) 0) none)) (no_most (no_greatest_above r seq n none)) ∙ sym is;
      saved = λ some. omega (arith, small.saved, saved, beside some);
      costs = λ some none. ap₂ (next_kept (kept_in r seq n) s) (beside some) (no_most none) ∙ sym is;
      greatest = λ ranks. omega (arith, most ranks, most_beside_le r seq n s below lacks);
      bounds = λ ranks. ap₂ (next_kept (kept_in r seq n) s) (beside (greatest_weigh r seq n ranks)) (most ranks) ∙ sym is;
    }

pub child_facts : (seq : Sequence) (d : Position) (s : ℕ) (k : Kept) → IsAt seq d → k ≡ kept_in d.registers seq (here d) → s < seq.scalars → has (concat (node_lists (here d))) s ≡ false → ChildFacts seq d s k
child_facts seq d s k at_it e below lacks = subst (λ j. ChildFacts seq d s j) (sym e) (child_facts_in seq d s at_it below lacks)

empty_length : (xs : List ℕ) → length xs ≡ 0 → is_empty xs ≡ true
empty_length [] e = refl
empty_length (x ∷ xs) e = absurd (omega (arith, e))

some_length : (xs : List ℕ) → (length xs ≡ 0 → ⊥) → is_empty xs ≡ false
some_length [] ne = absurd (ne refl)
some_length (x ∷ xs) ne = refl

pub complete_of : (r : ℕ) (seq : Sequence) (n : Node) (k : Kept) → k ≡ kept_at r seq n → k.unplaced ≡ 0 → is_complete seq n ≡ true
complete_of r seq n k e none = empty_length (unplaced seq n) (sym (ap (λ (j : Kept). j.unplaced) e) ∙ none)

pub incomplete_of : (r : ℕ) (seq : Sequence) (n : Node) (k : Kept) → k ≡ kept_at r seq n → (k.unplaced ≡ 0 → ⊥) → is_complete seq n ≡ false
incomplete_of r seq n k e some = some_length (unplaced seq n) (λ none. some (ap (λ (j : Kept). j.unplaced) e ∙ none))

-- the scalars that aren't placed, one more at a time
abbrev pub out_of : Node → ℕ → Bool
out_of n s = not (has (concat (node_lists n)) s)

abbrev pub below_in : Node → ℕ → List Node
below_in n i = map (with_scalar n) (filter (out_of n) (range_with_len 0 i))

pub below_next : (n : Node) (i : ℕ) → has (concat (node_lists n)) i ≡ false → below_in n (i + 1) ≡ below_in n i ++ (with_scalar n i ∷ [])
below_next n i e =
    ap (λ r. map (with_scalar n) (filter (out_of n) r)) (range_more i)
    ∙ ap (map (with_scalar n)) (filter-append (out_of n) (range_with_len 0 i) (i ∷ []) ∙ ap (λ b. filter (out_of n) (range_with_len 0 i) ++ cond (not b) (i ∷ []) []) e)
    ∙ map-append (with_scalar n) (filter (out_of n) (range_with_len 0 i)) (i ∷ [])

pub below_skip : (n : Node) (i : ℕ) → has (concat (node_lists n)) i ≡ true → below_in n (i + 1) ≡ below_in n i
below_skip n i e =
    ap (λ r. map (with_scalar n) (filter (out_of n) r)) (range_more i)
    ∙ ap (map (with_scalar n)) (filter-append (out_of n) (range_with_len 0 i) (i ∷ []) ∙ ap (λ b. filter (out_of n) (range_with_len 0 i) ++ cond (not b) (i ∷ []) []) e ∙ append-nil (filter (out_of n) (range_with_len 0 i)))

range_split : (a m n : ℕ) → range_with_len a (m + n) ≡ range_with_len a m ++ range_with_len (a + m) n
range_split a zero n =
    let e : 0 + n ≡ n = omega arith in
    let f : a ≡ a + 0 = omega arith in
    ap (range_with_len a) e ∙ ap (λ b. range_with_len b n) f
range_split a (suc m) n =
    let e : suc m + n ≡ suc (m + n) = omega arith in
    let f : (a + 1) + m ≡ a + suc m = omega arith in
    ap (range_with_len a) e ∙ ap (λ r. a ∷ r) (range_split (a + 1) m n ∙ ap (λ b. range_with_len (a + 1) m ++ range_with_len b n) f)

-- the children begin with those of the first scalars
pub record Begins (xs ys : List Node) : Type 0 where
  pub rest : List Node
  pub is : ys ≡ xs ++ rest

pub children_begin : (k : ℕ) (seq : Sequence) (n : Node) (i : ℕ) → i ≤ seq.scalars → Begins (below_in n i) (children k seq n)
children_begin k seq n i le =
    let more = map (with_scalar n) (filter (out_of n) (range_with_len (0 + i) (seq.scalars - i))) in
    let last = if not (is_empty n.open_list) && has_closes_left k n then with_close n ∷ [] else [] in
    let e : seq.scalars ≡ i + (seq.scalars - i) = omega arith in
    record {
      rest = more ++ last;
      is = ap (λ m. map (with_scalar n) (filter (out_of n) (range_with_len 0 m)) ++ last) e
          ∙ ap (λ r. map (with_scalar n) (filter (out_of n) r) ++ last) (range_split 0 i (seq.scalars - i))
          ∙ ap (λ f. map (with_scalar n) f ++ last) (filter-append (out_of n) (range_with_len 0 i) (range_with_len (0 + i) (seq.scalars - i)))
          ∙ ap (λ f. f ++ last) (map-append (with_scalar n) (filter (out_of n) (range_with_len 0 i)) (filter (out_of n) (range_with_len (0 + i) (seq.scalars - i))))
          ∙ append_assoc (below_in n i) more last;
    }

-- whether a close comes behind them
last_is_some : (xs : List ℕ) → is_some (last_scalar xs) ≡ not (is_empty xs)
last_is_some [] = refl
last_is_some (x ∷ []) = refl
last_is_some (x ∷ y ∷ ys) = last_is_some (y ∷ ys)

pub close_comes : (k : ℕ) (seq : Sequence) (n : Node) (j : Kept) → j ≡ kept_in k seq n → (is_some j.last && may_close k j) ≡ (not (is_empty n.open_list) && has_closes_left k n)
close_comes k seq n j e =
    let more : length n.closed + 1 ≡ suc (length n.closed) = omega arith in
    ap (λ (i : Kept). is_some i.last && may_close k i) e ∙ ap₂ (λ a b. a && nat_lt b k) (last_is_some n.open_list) more

-- back from a scalar
pub level_again : (seq : Sequence) (d : Position) (s u : ℕ) → IsAt seq d → greatest_needed seq d ≡ true → s < seq.scalars → has (concat (node_lists (here d))) s ≡ false → u < seq.scalars → has (concat (node_lists (with_scalar (here d) s))) u ≡ false
    → slice_index (level_at d.levels.items (length (here d).closed)).greatest u ≡ max (most_beside seq (with_scalar (here d) s) u) (weight_at (level_at d.levels.items (length (here d).closed)).weights u s)
level_again seq d s u at_it ranks below lacks less out =
    let n = here d in
    let few = at_it.sequence.few in
    let f = weight_outside seq n u in
    let before : has (concat (node_lists n)) u ≡ false = (Rattle.std.proofs.lemmas.Bool.or_parts (has (concat (node_lists n)) u) (s == u) (sym (placed_more n s u) ∙ out)).0 in
    at_it.level.greatest ranks u less before ∙ greatest_minus f s (unplaced seq n) (has_unplaced seq n s below lacks)
    ∙ ap₂ max (ap (λ xs. greatest (map f xs)) (sym (unplaced_scalar seq n s))) (sym (at_it.level.weights (greatest_weigh d.registers seq n ranks) u s (lt_of_lt_of_le less few) (lt_of_lt_of_le below few)))

pub back_from_scalar : (seq : Sequence) (old d e new : Position) (s : ℕ) (k : Kept) → IsAt seq old → s < seq.scalars → has (concat (node_lists (here old))) s ≡ false → Enters seq s old d k → SamePlace d e → Leaves (greatest_needed seq old) seq (length (here old).closed) s e new → SamePlace old new
back_from_scalar seq old d e new s k at_it below lacks enters same leaves =
    let closes = length (here old).closed in
    let node : here d ≡ with_scalar (here old) s = child_here seq old d s at_it below enters.string in
    let few = at_it.sequence.few in
    let short : s < length old.placed = omega (arith, at_it.size, below, few) in
    let child = placed_child seq (here old) old.placed s at_it.placed short in
    let table : e.placed ≡ slice_set old.placed s true = same.placed ∙ enters.placed in
    let place = same.levels closes (subst (λ (n : Node). closes < length n.closed + 1) (sym node) (omega arith)) in
    record {
      registers = leaves.registers ∙ same.registers ∙ enters.registers;
      string = leaves.string old.string.items (same.string ∙ enters.string);
      placed = leaves.placed ∙ ap (λ p. slice_set p s false) table ∙ set-set old.placed s true false ∙ ap (slice_set old.placed s) (sym (at_it.placed s below ∙ lacks)) ∙ set-get_or old.placed s false;
      outside = leaves.outside ∙ same.outside ∙ enters.outside;
      count = leaves.count ∙ same.count ∙ enters.count;
      levels = λ i le. elim (cases_eq i closes) [
        | inl is ↦ subst (λ j. SameLevel (level_at old.levels.items j) (level_at new.levels.items j)) (sym is) (record {
          weights = leaves.weights ∙ place.weights ∙ enters.weights;
          greatest = λ u. ranked (greatest_needed seq old) refl u table child place node;
        })
        | inr differ ↦
            let lt : i < closes = omega (arith, le, differ) in
            let first = enters.lower i lt in
            let last = leaves.lower i lt in
            let middle = same.levels i (subst (λ (n : Node). i < length n.closed + 1) (sym node) le) in
            record {
              weights = ap (λ (l : Level). l.weights) last ∙ middle.weights ∙ ap (λ (l : Level). l.weights) first;
              greatest = λ u. ap (λ (l : Level). slice_index l.greatest u) last ∙ middle.greatest u ∙ ap (λ (l : Level). slice_index l.greatest u) first;
            }
      ];
    }
  where
    by : greatest_needed seq old ≡ true → (u : ℕ) → (u < seq.scalars) ⊎ (seq.scalars ≤ u) → (b : Bool) → is_free e.placed u ≡ b → e.placed ≡ slice_set old.placed s true → ArePlaced seq (with_scalar (here old) s) (slice_set old.placed s true) → SameLevel (level_at d.levels.items (length (here old).closed)) (level_at e.levels.items (length (here old).closed)) → here d ≡ with_scalar (here old) s
        → slice_index (level_at new.levels.items (length (here old).closed)).greatest u ≡ slice_index (level_at old.levels.items (length (here old).closed)).greatest u
    by ranks u (inl less) true free table child place node =
        let out : has (concat (node_lists (with_scalar (here old) s))) u ≡ false = sym (child u less) ∙ ap (λ p. slice_index_or p u false) (sym table) ∙ not-true (slice_index_or e.placed u false) free in
        let there : greatest_needed seq d ≡ true = ap₂ (λ r n. needs_greatest r seq n) enters.registers node ∙ ranks in
        let most : slice_index (level_at d.levels.items (length (here old).closed)).greatest u ≡ most_beside seq (with_scalar (here old) s) u =
        (let l : IsLevel (needs_weights seq) (greatest_needed seq d) seq (with_scalar (here old) s) (level_at d.levels.items (length (here old).closed)) = subst (λ n. IsLevel (needs_weights seq) (greatest_needed seq d) seq n (level_at d.levels.items (length n.closed))) node enters.at_child.level in l.greatest there u less out) in
        leaves.greatest ranks u less free
        ∙ ap₂ (λ a w. max a (weight_at w u s)) (place.greatest u ∙ most) (place.weights ∙ enters.weights)
        ∙ sym (level_again seq old s u at_it ranks below lacks less out)
    by ranks u (inl less) false taken table child place node = leaves.others u (λ _. taken) ∙ place.greatest u ∙ enters.others u (λ _. ap (λ p. is_free p u) (enters.placed ∙ sym table) ∙ taken)
    by ranks u (inr more) b is table child place node = leaves.others u (λ less. absurd (omega (arith, less, more))) ∙ place.greatest u ∙ enters.others u (λ less. absurd (omega (arith, less, more)))

    ranked : (b : Bool) → greatest_needed seq old ≡ b → (u : ℕ) → e.placed ≡ slice_set old.placed s true → ArePlaced seq (with_scalar (here old) s) (slice_set old.placed s true) → SameLevel (level_at d.levels.items (length (here old).closed)) (level_at e.levels.items (length (here old).closed)) → here d ≡ with_scalar (here old) s
        → slice_index (level_at new.levels.items (length (here old).closed)).greatest u ≡ slice_index (level_at old.levels.items (length (here old).closed)).greatest u
    ranked true ranks u table child place node = by ranks u (cases_lt u seq.scalars) (is_free e.placed u) refl table child place node
    ranked false none u table child place node = ap (λ ls. slice_index (level_at ls (length (here old).closed)).greatest u) (leaves.same none) ∙ place.greatest u ∙ ap (λ ls. slice_index (level_at ls (length (here old).closed)).greatest u) (enters.same none)

-- and from a close
pub back_from_close : (seq : Sequence) (old d e new : Position) (k : Kept) → Closes seq old d k → SameBelow (length (here d).closed) d e → length (here old).closed < length (here d).closed → Reopens old.outside e new → SamePlace old new
back_from_close seq old d e new k closes same deeper reopens = record {
  registers = reopens.registers ∙ same.registers ∙ closes.registers;
  string = reopens.string old.string.items 255 (same.string ∙ closes.string);
  placed = reopens.placed ∙ same.placed ∙ closes.placed;
  outside = reopens.outside;
  count = ap length reopens.levels ∙ same.count ∙ closes.count;
  levels = λ i lt.
      let first = closes.lower i (omega (arith, lt)) in
      let middle = same.levels i (omega (arith, lt, deeper)) in
      record {
        weights = ap (λ ls. (level_at ls i).weights) reopens.levels ∙ middle.weights ∙ first.weights;
        greatest = λ u. ap (λ ls. slice_index (level_at ls i).greatest u) reopens.levels ∙ middle.greatest u ∙ first.greatest u;
      };
}
