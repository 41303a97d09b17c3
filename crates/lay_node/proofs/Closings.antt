-- The open list is closed.
use Rattle.std.proofs.Common.{◌≡◌, ℕ, suc, ◌+◌, ◌<◌, ◌≤◌, Bool, true, false, not, List, [], ◌∷◌, ◌++◌, length, refl, ap, ap₂, sym, subst, ◌∙◌, arith}
use Rattle.std.specs.Prelude.{All, slice_index_or, None}
use Rattle.std.specs.List.{concat}
use Rattle.std.proofs.lemmas.Bool.{both_ways, ltb-true}
use Rattle.std.proofs.lemmas.List.Elements.{All-push}
use Rattle.lay_model.specs.Sequences.{Sequence}
use Rattle.lay_cost.specs.Placements.{has}
use Rattle.lay_cost.specs.Restricted.{in_bits, loads}
use Rattle.lay_cost.specs.Parts.{Node, node_lists, close, IsString, part_cost_of}
use Rattle.lay_tree.specs.Tree.{with_close, unplaced, is_empty, has_closes_left}
use Rattle.lay_tree.specs.Bound.{is_outside}
use Rattle.lay_node.specs.declared.kept.Kept.{Kept}
use Rattle.lay_node.specs.declared.position.Position.{Position}
use Rattle.lay_node.specs.Levels.{is_free}
use Rattle.lay_node.specs.Numbers.{needs_greatest, kept_found}
use Rattle.lay_node.specs.Strings.{node_of}
use Rattle.lay_node.specs.Positions.{level_at, here, greatest_needed, IsAtWith, IsAt, SameLevel, Weighs, Closes}
use Rattle.lay_node.proofs.Unplaced.{unplaced_close, placed_closed}
use Rattle.lay_node.proofs.Agreeing.{Agree, ArePlaced, loads_agree}
use Rattle.lay_node.proofs.Needs.{nothing_found}
use Rattle.lay_node.proofs.Strung.{node_close, push_close}

pub some_length : (l : List ℕ) → is_empty l ≡ false → 1 ≤ length l
some_length [] e = absurd (both_ways true e refl)
some_length (s ∷ ss) e = omega arith

pub placed_by_close : (seq : Sequence) (n : Node) (placed : List Bool) → ArePlaced seq n placed → ArePlaced seq (with_close n) placed
placed_by_close seq n placed are s lt = are s lt ∙ sym (placed_closed n s)

-- the bits of the scalars that aren't placed are those of the scalars outside the lists that are closed then
pub outside_closed : (seq : Sequence) (n : Node) (placed : List Bool) (set : ℕ) → ArePlaced seq n placed → ((s : ℕ) → s < seq.scalars → in_bits set s ≡ is_free placed s) → Agree seq.scalars (in_bits set) (is_outside (with_close n))
outside_closed seq n placed set are bits s lt = bits s lt ∙ ap not (are s lt)

pub closed_at : (seq : Sequence) (old new : Position) → IsAt seq old → is_empty (here old).open_list ≡ false → has_closes_left old.registers (here old) ≡ true
    → new.registers ≡ old.registers → new.string.items ≡ old.string.items ++ (close ∷ []) → new.placed ≡ old.placed → length new.levels.items ≡ length old.levels.items
    → ((s : ℕ) → s < seq.scalars → in_bits new.outside s ≡ is_free old.placed s)
    → IsAtWith false false seq new
closed_at seq old new at_it some left registers string placed count bits =
    let n = here old in
    let e : here new ≡ with_close n = ap node_of string ∙ node_close old.string.items in
    let closes : length (n.closed ++ (n.open_list ∷ [])) ≡ length n.closed + 1 = Rattle.std.proofs.lemmas.List.length_push n.closed n.open_list in
    let child = placed_by_close seq n old.placed at_it.placed in
    let agree = outside_closed seq n old.placed new.outside at_it.placed bits in
    record {
      sequence = at_it.sequence;
      registers = subst (λ m. length m.closed < new.registers) (sym e) (omega (arith, closes, registers, ltb-true (suc (length n.closed)) old.registers left));
      levels = count ∙ at_it.levels ∙ sym registers;
      string = subst (λ xs. IsString seq.scalars xs) (sym string) (push_close seq.scalars old.string.items at_it.string some);
      closed = subst (λ (m : Node). All (λ k. 1 ≤ length k) m.closed) (sym e) (All-push (λ k. 1 ≤ length k) n.closed n.open_list at_it.closed (some_length n.open_list some));
      size = ap length placed ∙ at_it.size;
      placed = λ t lt. ap (λ p. slice_index_or p t false) placed ∙ child t lt ∙ ap (λ m. has (concat (node_lists m)) t) (sym e);
      outside = λ t lt. agree t lt ∙ ap (λ m. is_outside m t) (sym e);
      level = nothing_found seq (here new) (level_at new.levels.items (length (here new).closed));
    }

pub closed_kept : (seq : Sequence) (old : Position) (set : ℕ) (closed loads_found : ℕ) → IsAt seq old
    → ((s : ℕ) → s < seq.scalars → in_bits set s ≡ is_free old.placed s) → closed ≡ part_cost_of seq (node_lists (here old)) → loads_found ≡ loads seq (in_bits set)
    → (let child : Kept = record { closes = length (here old).closed + 1; unplaced = length (unplaced seq (here old)); last = None; closed = closed; loads = loads_found; paid = 0; saved = 0; greatest = 0 } in child) ≡ kept_found false false seq (with_close (here old))
closed_kept seq old set closed loads_found at_it bits closed_is loads_is =
    let n = here old in
    let agree = outside_closed seq n old.placed set at_it.placed bits in
    ap (λ c. make c (length (unplaced seq n)) closed loads_found) (sym (Rattle.std.proofs.lemmas.List.length_push n.closed n.open_list))
    ∙ ap (λ u. make (length (n.closed ++ (n.open_list ∷ []))) u closed loads_found) (ap length (sym (unplaced_close seq n)))
    ∙ ap₂ (make (length (n.closed ++ (n.open_list ∷ []))) (length (unplaced seq (with_close n)))) closed_is (loads_is ∙ loads_agree seq (in_bits set) (is_outside (with_close n)) at_it.sequence agree)
  where
    make : ℕ → ℕ → ℕ → ℕ → Kept
    make c u k l = record { closes = c; unplaced = u; last = None; closed = k; loads = l; paid = 0; saved = 0; greatest = 0 }

pub closes_then : (seq : Sequence) (old d new : Position) (k : Kept) → d.string.items ≡ old.string.items ++ (close ∷ []) → d.registers ≡ old.registers → d.placed ≡ old.placed → d.levels.items ≡ old.levels.items
    → Weighs (greatest_needed seq d) (greatest_needed seq d) seq d new k → Closes seq old new k
closes_then seq old d new k string registers placed levels found =
    let e : here d ≡ with_close (here old) = ap node_of string ∙ node_close old.string.items in
    let closes : length (here d).closed ≡ length (here old).closed + 1 = ap (λ (n : Node). length n.closed) e ∙ Rattle.std.proofs.lemmas.List.length_push (here old).closed (here old).open_list in
    let same : greatest_needed seq d ≡ greatest_needed seq new = ap₂ (λ r n. needs_greatest r seq n) (sym found.same.registers) (ap node_of (sym found.same.string)) in
    record {
      at_child = subst (λ b. IsAtWith b b seq new) same found.place;
      string = found.same.string ∙ string;
      kept = found.numbers ∙ ap (λ b. kept_found b b seq (here new)) same;
      registers = found.same.registers ∙ registers;
      placed = found.same.placed ∙ placed;
      count = found.same.count ∙ ap length levels;
      lower = λ i le. subst (λ ls. SameLevel (level_at ls i) (level_at new.levels.items i)) levels (found.same.levels i (omega (arith, le, closes)));
    }
