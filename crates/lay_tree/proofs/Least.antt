-- Where a log fits the tree, no arrangement in at most k lists costs less than its number.
use Rattle.std.proofs.Common.{◌≡◌, ◌<◌, ◌≤◌, ◌*◌, ◌∙◌, ℕ, List, [], ◌∷◌, true, false, refl, length, ap, sym, subst, inl, inr, arith}
use Rattle.std.specs.Prelude.{All, sum_by}
use Rattle.std.specs.List.{concat}
use Rattle.std.proofs.lemmas.Bool.{both_ways, or_from}
use Rattle.lay_model.specs.Sequences.{Sequence, Block, IsBlock, IsSequence}
use Rattle.lay_model.specs.Arrangements.{Arranges}
use Rattle.lay_cost.specs.Placements.{has, placement_of}
use Rattle.lay_cost.specs.Cost.{block_cost, arranged_cost}
use Rattle.lay_cost.specs.Parts.{Node, node_lists}
use Rattle.lay_tree.specs.declared.answer.Mark.{Mark}
use Rattle.lay_tree.specs.Tree.{root, is_empty, unplaced, is_complete, itself}
use Rattle.lay_tree.specs.Replays.{Replays}
use Rattle.lay_tree.proofs.Members.{IsIn, IsOnce, has_of, in_front, in_back}
use Rattle.lay_tree.proofs.Bounds.{all_in}
use Rattle.lay_tree.proofs.Nodes.{is_unplaced, has_in_node}
use Rattle.lay_tree.proofs.Arranged.{Reached, path_of_scalars, path_of_lists, all_below, in_counted, once_counted, once_parts, not_in_has}
use Rattle.lay_tree.proofs.Replayed.{replays_below}

-- what an arrangement says of its scalars
pub record HasAll (count : ℕ) (lists : List (List ℕ)) : Type 0 where
  pub some : (list : List ℕ) → IsIn list lists → is_empty list ≡ false
  pub below : (s : ℕ) → IsIn s (concat lists) → s < count
  pub inside : (s : ℕ) → s < count → IsIn s (concat lists)
  pub once : IsOnce (concat lists)

not_empty : (list : List ℕ) → 1 ≤ length list → is_empty list ≡ false
not_empty [] h = absurd (omega (arith, h))
not_empty (s ∷ ss) h = refl

pub has_all : (count : ℕ) (lists : List (List ℕ)) → Arranges count lists → HasAll count lists
has_all count lists arranges =
    let below : (s : ℕ) → IsIn s (concat lists) → s < count = all_below count (concat lists) arranges.all arranges.once in
    record {
      some = λ list i. not_empty list (all_in (λ l. 1 ≤ length l) lists list arranges.some i);
      below = below;
      inside = λ s lt. in_counted (concat lists) s (arranges.once s lt);
      once = once_counted (concat lists) (λ s i. omega (arith, arranges.once s (below s i)));
    }

-- a node without other scalars is complete
pub complete_where : (seq : Sequence) (n : Node) → ((s : ℕ) → s < seq.scalars → IsIn s (concat (node_lists n))) → is_complete seq n ≡ true
complete_where seq n all = empty_where (unplaced seq n) (λ s i. let u = is_unplaced seq n s i in both_ways (has (concat (node_lists n)) s) (has_in_node n s ∙ or_from _ _ u.not_closed u.not_open) (has_of (concat (node_lists n)) s (all s u.below)))
  where
    empty_where : (ss : List ℕ) → ((s : ℕ) → IsIn s ss → ⊥) → is_empty ss ≡ true
    empty_where [] no_scalar = refl
    empty_where (s ∷ ss) no_scalar = absurd (no_scalar s (inl refl))

-- no scalars, no blocks
no_block : (bs : List Block) → ((b : Block) → IsIn b bs → IsBlock b × All (λ s. s < 0) b.accesses) → bs ≡ []
no_block [] h = refl
no_block (b ∷ bs) h = let one = h b (inl refl) in absurd (nothing b.accesses one.0.some one.1)
  where
    nothing : (a : List ℕ) → 1 ≤ length a → All (λ s. s < 0) a → ⊥
    nothing [] some below = absurd (omega (arith, some))
    nothing (s ∷ ss) some below = let h = all_in (λ t. t < 0) (s ∷ ss) s below (inl refl) in absurd (omega (arith, h))

pub costs_nothing : (seq : Sequence) (lists : List (List ℕ)) → IsSequence seq → seq.scalars ≡ 0 → arranged_cost seq lists ≡ 0
costs_nothing seq lists sequence none =
    let empty : seq.blocks ≡ [] = no_block seq.blocks (λ b i. (all_in IsBlock seq.blocks b sequence.blocks i, subst (λ n. All (λ s. s < n) b.accesses) none (all_in (λ c. All (λ s. s < seq.scalars) c.accesses) seq.blocks b sequence.scalars i)))
    in ap (λ bs. sum_by (λ (b : Block). b.weight * block_cost seq.step (placement_of lists) b.accesses) bs) empty

-- the way to an arrangement
pub reached_lists : (k : ℕ) (seq : Sequence) (list : List ℕ) (lists : List (List ℕ)) → HasAll seq.scalars (list ∷ lists) → length (list ∷ lists) ≤ k → Reached k seq root (list ∷ lists)
reached_lists k seq list lists all few =
    let parts = once_parts list (concat lists) all.once in
    let rest = path_of_lists k seq lists [] list (λ l i. all.some l (inr i)) (all.some list (inl refl)) (omega (arith, few)) parts.1.0
    (λ s i. record { below = all.below s (in_back s list (concat lists) i); not_closed = refl; not_open = not_in_has list s (λ j. parts.1.1 s j i) }) in
    let below = path_of_scalars k seq [] [] list rest.end parts.0 (λ s i. record { below = all.below s (in_front s list (concat lists) i); not_closed = refl; not_open = refl }) rest.below
    in record { end = rest.end; below = below; is = rest.is }

pub no_arrangement_below : (k : ℕ) (seq : Sequence) (c : ℕ) (marks : List Mark) (lists : List (List ℕ)) → IsSequence seq → Replays k seq c marks → Arranges seq.scalars lists → length lists ≤ k → c ≤ arranged_cost seq lists
no_arrangement_below k seq c marks [] sequence replays arranges few =
    let none : seq.scalars ≡ 0 = sym arranges.all in
    let complete = complete_where seq root (λ s lt. absurd (omega (arith, lt, none)))
    in omega (arith, replays_below k seq c marks root sequence replays (itself root) complete, costs_nothing seq (node_lists root) sequence none)
no_arrangement_below k seq c marks (list ∷ lists) sequence replays arranges few =
    let all = has_all seq.scalars (list ∷ lists) arranges in
    let way = reached_lists k seq list lists all few in
    let complete = complete_where seq way.end (λ s lt. subst (λ ls. IsIn s (concat ls)) (sym way.is) (all.inside s lt))
    in subst (λ ls. c ≤ arranged_cost seq ls) way.is (replays_below k seq c marks way.end sequence replays way.below complete)
