-- The root.
use Rattle.std.proofs.Common.{◌≡◌, ℕ, ◌*◌, ◌<◌, ◌≤◌, Bool, true, false, not, List, [], ◌∷◌, filter, length, refl, ap, ap₂, sym, subst, ◌∙◌, arith}
use Rattle.std.specs.Prelude.{All, slice_index_or, replicate, None}
use Rattle.std.specs.List.{concat}
use Rattle.std.proofs.lemmas.List.{get_or-replicate}
use Rattle.std.proofs.lemmas.List.FromFn.{length-range_with_len}
use Rattle.std.proofs.lemmas.List.Elements.{All-nil}
use Rattle.lay_model.specs.Sequences.{Sequence, Block, IsSequence}
use Rattle.lay_cost.specs.Placements.{has, placement_of}
use Rattle.lay_cost.specs.Cost.{block_cost}
use Rattle.lay_cost.specs.Restricted.{in_bits, loads}
use Rattle.lay_cost.specs.Parts.{Node, node_lists, part_cost_of, IsString}
use Rattle.lay_cost.proofs.Adding.{part_by_blocks}
use Rattle.lay_tree.specs.Tree.{root, unplaced, all_scalars}
use Rattle.lay_tree.specs.Bound.{is_outside}
use Rattle.lay_node.specs.declared.kept.Kept.{Kept}
use Rattle.lay_node.specs.declared.position.Position.{Position}
use Rattle.lay_node.specs.Numbers.{needs_weights, needs_greatest, kept_found, kept_in}
use Rattle.lay_node.specs.Strings.{node_of}
use Rattle.lay_node.specs.Positions.{level_at, here, greatest_needed, IsAtWith, Weighs, Knows}
use Rattle.lay_node.proofs.Sizes.{sum_zero}
use Rattle.lay_node.proofs.Children.{sum_same}
use Rattle.lay_node.proofs.Agreeing.{ArePlaced, loads_agree}
use Rattle.lay_node.proofs.Needs.{nothing_found}

filter_none : (xs : List ℕ) → filter (has []) xs ≡ []
filter_none [] = refl
filter_none (x ∷ xs) = filter_none xs

filter_each : (xs : List ℕ) → filter (λ s. not (has [] s)) xs ≡ xs
filter_each [] = refl
filter_each (x ∷ xs) = ap (λ l. x ∷ l) (filter_each xs)

pub nothing_costs : (seq : Sequence) → part_cost_of seq [] ≡ 0
nothing_costs seq =
    part_by_blocks seq []
    ∙ sum_same (λ (b : Block). b.weight * block_cost seq.step (placement_of []) (filter (has []) b.accesses)) (λ b. 0) seq.blocks (λ b. ap (λ xs. b.weight * block_cost seq.step (placement_of []) xs) (filter_none b.accesses) ∙ zeroes b.weight)
    ∙ sum_zero seq.blocks
  where
    zeroes : (a : ℕ) → a * 0 ≡ 0
    zeroes a = omega arith

pub root_unplaced : (seq : Sequence) → unplaced seq root ≡ all_scalars seq
root_unplaced seq = filter_each (all_scalars seq)

none_placed : (seq : Sequence) (placed : List Bool) → seq.scalars ≤ 64 → placed ≡ replicate 64 false → ArePlaced seq root placed
none_placed seq placed few is s lt = ap (λ p. slice_index_or p s false) is ∙ get_or-replicate 64 s false false (omega (arith, lt, few))

pub root_at : (seq : Sequence) (d : Position) → IsSequence seq → 1 ≤ d.registers → d.string.items ≡ [] → d.placed ≡ replicate 64 false → ((s : ℕ) → s < seq.scalars → in_bits d.outside s ≡ true) → length d.levels.items ≡ d.registers → IsAtWith false false seq d
root_at seq d sequence some nothing placed outside levels =
    let e : here d ≡ root = ap node_of nothing in
    record {
      sequence = sequence;
      registers = subst (λ n. length n.closed < d.registers) (sym e) some;
      levels = levels;
      string = subst (λ xs. IsString seq.scalars xs) (sym nothing) (record {
        few = All-nil (λ s. s < seq.scalars);
        once = λ s. omega arith;
        closes = λ i lt is. absurd (omega (arith, lt));
      });
      closed = subst (λ (n : Node). All (λ k. 1 ≤ length k) n.closed) (sym e) (All-nil (λ k. 1 ≤ length k));
      size = ap length placed;
      placed = λ t lt. none_placed seq d.placed sequence.few placed t lt ∙ ap (λ n. has (concat (node_lists n)) t) (sym e);
      outside = λ t lt. outside t lt ∙ ap (λ n. is_outside n t) (sym e);
      level = nothing_found seq (here d) (level_at d.levels.items (length (here d).closed));
    }

pub root_kept : (seq : Sequence) (d : Position) (scalars loads_found : ℕ) → IsSequence seq → d.string.items ≡ [] → ((s : ℕ) → s < seq.scalars → in_bits d.outside s ≡ true) → scalars ≡ seq.scalars → loads_found ≡ loads seq (in_bits d.outside)
    → (let k : Kept = record { closes = 0; unplaced = scalars; last = None; closed = 0; loads = loads_found; paid = 0; saved = 0; greatest = 0 } in k) ≡ kept_found false false seq (here d)
root_kept seq d scalars loads_found sequence nothing outside scalars_is loads_is =
    ap (λ u. make u 0 loads_found) (scalars_is ∙ sym (length-range_with_len 0 seq.scalars) ∙ ap length (sym (root_unplaced seq)))
    ∙ ap₂ (make (length (unplaced seq root))) (sym (nothing_costs seq)) (loads_is ∙ loads_agree seq (in_bits d.outside) (is_outside root) sequence outside)
    ∙ ap (λ s. kept_found false false seq (node_of s)) (sym nothing)
  where
    make : ℕ → ℕ → ℕ → Kept
    make u c l = record { closes = 0; unplaced = u; last = None; closed = c; loads = l; paid = 0; saved = 0; greatest = 0 }

-- the weights were found that its bound needs, and then the others
pub root_knows : (seq : Sequence) (old middle new : Position) (first kept : Kept) → old.string.items ≡ [] → Weighs (greatest_needed seq old) (greatest_needed seq old) seq old middle first → Weighs (needs_weights seq) (greatest_needed seq middle) seq middle new kept → Knows seq old new kept
root_knows seq old middle new first kept nothing bounds costs =
    let e : here new ≡ here middle = ap node_of costs.same.string in
    let same : greatest_needed seq middle ≡ greatest_needed seq new = ap₂ (λ r n. needs_greatest r seq n) (sym costs.same.registers) (sym e) in
    let is : here new ≡ root = ap node_of (costs.same.string ∙ bounds.same.string ∙ nothing) in
    record {
      place = subst (λ b. IsAtWith (needs_weights seq) b seq new) same costs.place;
      numbers = costs.numbers ∙ ap (λ b. kept_found (needs_weights seq) b seq (here new)) same ∙ ap (kept_in new.registers seq) is;
      nothing = is;
      registers = costs.same.registers ∙ bounds.same.registers;
    }
