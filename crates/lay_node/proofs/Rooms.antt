-- The strings of nodes are short.
use Rattle.std.proofs.Common.{◌≡◌, ℕ, ◌+◌, ◌*◌, ◌<◌, ◌≤◌, Bool, true, false, cond, not, List, [], ◌∷◌, ◌++◌, length, refl, ap, sym, subst, ◌∙◌, arith, length-append}
use Rattle.std.specs.Prelude.{◌==◌, All, sum_by, count_by}
use Rattle.std.specs.List.{concat, range_with_len}
use Rattle.std.proofs.lemmas.List.{length_push}
use Rattle.std.proofs.lemmas.List.FromFn.{length-range_with_len}
use Rattle.std.proofs.lemmas.List.Elements.{All-head, All-tail}
use Rattle.std.proofs.lemmas.List.Splits.{length-slice_split}
use Rattle.std.proofs.lemmas.List.Sums.{sum_by-cons, length-filter}
use Rattle.lay_model.specs.Sequences.{Sequence}
use Rattle.lay_cost.specs.Placements.{has}
use Rattle.lay_cost.specs.Parts.{Node, node_lists, close, lists_of}
use Rattle.lay_cost.proofs.Strings.{concat_lists_of}
use Rattle.lay_cost.proofs.Rising.{all_has}
use Rattle.lay_tree.specs.Tree.{is_empty}
use Rattle.lay_node.specs.declared.position.Position.{Position}
use Rattle.lay_node.specs.Strings.{node_of}
use Rattle.lay_node.specs.Positions.{here, IsAt}
use Rattle.lay_node.proofs.Strung.{lists_are, node_scalar}
use Rattle.lay_node.proofs.Proper.{IsProper, proper_string, parted, once_within, in_range}
use Rattle.lay_node.proofs.Closings.{some_length}
use Rattle.lay_node.proofs.Descending.{proper_child}

either_way : (p : ℕ → Bool) (xs : List ℕ) → length xs ≡ count_by p xs + count_by (λ x. not (p x)) xs
either_way p [] = refl
either_way p (x ∷ xs) = omega (arith, either_way p xs, sum_by-cons (λ y. cond (p y) 1 0) x xs, sum_by-cons (λ y. cond (not (p y)) 1 0) x xs, by (p x))
  where
    by : (b : Bool) → cond b 1 0 + cond (not b) 1 0 ≡ 1
    by true = refl
    by false = refl

ones : (xs : List ℕ) → sum_by (λ x. 1) xs ≡ length xs
ones [] = refl
ones (x ∷ xs) = omega (arith, sum_by-cons (λ y. 1) x xs, ones xs)

-- different numbers below another one are no more than it
few_scalars : (n : ℕ) (node : Node) → IsProper n node → length (concat (node_lists node)) ≤ n
few_scalars n node h =
    let xs = concat (node_lists node) in
    let within = once_within (λ x. 1) xs (range_with_len 0 n) h.once (λ s e. in_range s n (all_has (λ t. t < n) xs s h.few e)) in
    omega (arith, within, ones xs, ones (range_with_len 0 n), length-range_with_len 0 n)

no_more_lists : (ls : List (List ℕ)) → All (λ l. 1 ≤ length l) ls → length ls ≤ length (concat ls)
no_more_lists [] all = omega arith
no_more_lists (l ∷ ls) all = omega (arith, All-head (λ k. 1 ≤ length k) l ls all, no_more_lists ls (All-tail (λ k. 1 ≤ length k) l ls all), length-append l (concat ls))

-- each close stands behind a scalar of a list that it closes
short : (n : ℕ) (string : List ℕ) → IsProper n (node_of string) → All (λ l. 1 ≤ length l) (node_of string).closed → length string + length (node_of string).open_list ≤ 2 * n
short n string proper closed =
    let node = node_of string in
    let lists : length (lists_of string) ≡ length node.closed + 1 = ap length (lists_are string) ∙ length_push node.closed node.open_list in
    let scalars : length (concat (lists_of string)) ≡ length (concat (node_lists node)) = ap (λ ls. length (concat ls)) (lists_are string) in
    let parts : length (concat (node_lists node)) ≡ length (concat node.closed) + length node.open_list = ap length (parted node) ∙ length-append (concat node.closed) node.open_list in
    omega (arith, either_way (λ c. c == close) string, length-slice_split (λ c. c == close) string, lists, scalars, parts, ap length (concat_lists_of string), length-filter (λ c. not (c == close)) string, no_more_lists node.closed closed, few_scalars n node proper)

pub room_to_enter : (seq : Sequence) (p : Position) (s : ℕ) → IsAt seq p → s < seq.scalars → has (concat (node_lists (here p))) s ≡ false → length p.string.items < 128
room_to_enter seq p s at_it below lacks =
    let e = node_scalar p.string.items s (omega (arith, below, at_it.sequence.few)) in
    let proper = subst (λ n. IsProper seq.scalars n) (sym e) (proper_child seq p s at_it below lacks) in
    let closed = subst (λ (n : Node). All (λ l. 1 ≤ length l) n.closed) (sym e) at_it.closed in
    let open_list : length (node_of (p.string.items ++ (s ∷ []))).open_list ≡ length (here p).open_list + 1 = ap (λ (n : Node). length n.open_list) e ∙ length_push (here p).open_list s in
    omega (arith, short seq.scalars (p.string.items ++ (s ∷ [])) proper closed, open_list, length_push p.string.items s, at_it.sequence.few)

pub room_to_close : (seq : Sequence) (p : Position) → IsAt seq p → is_empty (here p).open_list ≡ false → length p.string.items < 128
room_to_close seq p at_it some = omega (arith, short seq.scalars p.string.items (proper_string seq.scalars p.string.items at_it.string) at_it.closed, some_length (here p).open_list some, at_it.sequence.few)
