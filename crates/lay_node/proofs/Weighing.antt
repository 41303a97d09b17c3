-- The weights of a node whose open list is empty are found.
use Rattle.std.proofs.Common.{◌≡◌, ℕ, ◌<◌, Bool, true, false, not, List, [], length, refl, ap, ap₂, sym, subst, ◌∙◌, arith}
use Rattle.std.specs.Prelude.{slice_index, slice_set, sum_by}
use Rattle.std.specs.Vec.{with_item}
use Rattle.std.proofs.lemmas.List.{length-set}
use Rattle.lay_model.specs.Sequences.{Sequence}
use Rattle.lay_cost.specs.Restricted.{in_bits}
use Rattle.lay_cost.specs.Weights.{weight_at, AreWeights}
use Rattle.lay_cost.specs.Parts.{Node}
use Rattle.lay_tree.specs.Tree.{all_scalars, unplaced}
use Rattle.lay_tree.specs.Bound.{weight_outside, sum_of_pairs, sum_of_adjacent, paid_outside}
use Rattle.lay_node.specs.declared.kept.Kept.{Kept}
use Rattle.lay_node.specs.declared.level.Level.{Level}
use Rattle.lay_node.specs.declared.position.Position.{Position}
use Rattle.lay_node.specs.Levels.{free_below, greatest_in_all, HasGreatest}
use Rattle.lay_node.specs.Numbers.{kept_with, kept_found, most_beside}
use Rattle.lay_node.specs.Positions.{level_at, here, IsLevel, IsAtWith, Weighs}
use Rattle.lay_node.proofs.Agreeing.{table_outside, greatest_outside, greatest_all_outside, total_is_paid}
use Rattle.lay_node.proofs.Descending.{level_set_same, level_set_other, moved_at}

pub level_weighed : (a b weighs ranks : Bool) (seq : Sequence) (d : Position) (l : Level) → IsAtWith a b seq d → AreWeights seq (in_bits d.outside) l.weights → (ranks ≡ true → HasGreatest l.weights l.greatest d.placed seq.scalars) → IsLevel weighs ranks seq (here d) l
level_weighed a b weighs ranks seq d l at_it weights greatest =
    let are = table_outside seq (here d) (in_bits d.outside) l.weights at_it.sequence at_it.outside weights in
    record {
      weights = λ _. are;
      greatest = λ yes t lt out. greatest yes t lt (ap not (at_it.placed t lt ∙ out)) ∙ greatest_outside seq (here d) l.weights d.placed t at_it.sequence.few are at_it.placed lt;
    }

pub total_weighed : (a b : Bool) (seq : Sequence) (d : Position) (table : List ℕ) → IsAtWith a b seq d → AreWeights seq (in_bits d.outside) table → sum_of_pairs (weight_at table) (all_scalars seq) ≡ paid_outside seq (here d)
total_weighed a b seq d table at_it weights = total_is_paid seq (here d) table at_it.sequence.few (table_outside seq (here d) (in_bits d.outside) table at_it.sequence at_it.outside weights)

pub sum_weighed : (a b : Bool) (seq : Sequence) (d : Position) (table : List ℕ) → IsAtWith a b seq d → AreWeights seq (in_bits d.outside) table → greatest_in_all table (free_below d.placed seq.scalars) ≡ sum_by (most_beside seq (here d)) (unplaced seq (here d))
sum_weighed a b seq d table at_it weights = greatest_all_outside seq (here d) table d.placed at_it.sequence.few (table_outside seq (here d) (in_bits d.outside) table at_it.sequence at_it.outside weights) at_it.placed

pub kept_weighed : (seq : Sequence) (n : Node) (k : Kept) (paid sum : ℕ) → k ≡ kept_found false false seq n → n.open_list ≡ [] → paid ≡ paid_outside seq n
    → (let j : Kept = record { closes = k.closes; unplaced = k.unplaced; last = k.last; closed = k.closed; loads = k.loads; paid = paid; saved = k.saved; greatest = sum } in j) ≡ kept_with true seq n sum
kept_weighed seq n k paid sum e none is = ap (λ j. make j paid j.saved) e ∙ ap₂ (make (kept_found false false seq n)) is (sym (ap (sum_of_adjacent (weight_outside seq n)) none))
  where
    make : Kept → ℕ → ℕ → Kept
    make j p a = record { closes = j.closes; unplaced = j.unplaced; last = j.last; closed = j.closed; loads = j.loads; paid = p; saved = a; greatest = sum }

-- nothing was to be found
pub weighs_not : (weighs ranks : Bool) (seq : Sequence) (d : Position) (k : Kept) → IsAtWith weighs ranks seq d → k ≡ kept_found weighs ranks seq (here d) → Weighs weighs ranks seq d d k
weighs_not weighs ranks seq d k at_it is = record {
  place = at_it;
  numbers = is;
  same = record {
    registers = refl;
    string = refl;
    placed = refl;
    outside = refl;
    count = refl;
    levels = λ i lt. record { weights = refl; greatest = λ s. refl };
  };
}

pub weighs_as : (a b weighs ranks : Bool) (seq : Sequence) (old new : Position) (k : Kept) → weighs ≡ a → ranks ≡ b → Weighs a b seq old new k → Weighs weighs ranks seq old new k
weighs_as a b weighs ranks seq old new k e f found = subst (λ w. Weighs w ranks seq old new k) (sym e) (subst (λ r. Weighs a r seq old new k) (sym f) found)

-- the level was found anew
pub weighs_level : (a b weighs ranks : Bool) (seq : Sequence) (d : Position) (i : ℕ) (l : Level) (k : Kept) → IsAtWith a b seq d → i ≡ length (here d).closed → AreWeights seq (in_bits d.outside) l.weights → (ranks ≡ true → HasGreatest l.weights l.greatest d.placed seq.scalars) → k ≡ kept_found weighs ranks seq (here d)
    → (let new : Position = record { registers = d.registers; string = d.string; placed = d.placed; outside = d.outside; levels = with_item d.levels i l } in Weighs weighs ranks seq d new k)
weighs_level a b weighs ranks seq d i l k at_it is weights greatest numbers =
    let ls = d.levels.items in
    let closes = length (here d).closed in
    let lt : closes < length ls = omega (arith, at_it.registers, at_it.levels) in
    let new : Position = record { registers = d.registers; string = d.string; placed = d.placed; outside = d.outside; levels = with_item d.levels i l } in
    let after : level_at (slice_set ls i l) closes ≡ l = ap (λ j. level_at (slice_set ls j l) closes) is ∙ level_set_same ls closes l lt in
    let level = subst (λ m. IsLevel weighs ranks seq (here d) m) (sym after) (level_weighed a b weighs ranks seq d l at_it weights greatest) in
    record {
      place = moved_at a b weighs ranks seq d new at_it refl refl refl refl (length-set ls i l) level;
      numbers = numbers;
      same = record {
        registers = refl;
        string = refl;
        placed = refl;
        outside = refl;
        count = length-set ls i l;
        levels = λ j less.
            let same = level_set_other ls i j l (λ e. absurd (omega (arith, e, less, is))) in
            record { weights = ap (λ (m : Level). m.weights) same; greatest = λ s. ap (λ (m : Level). slice_index m.greatest s) same };
      };
    }
