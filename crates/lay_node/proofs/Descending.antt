-- One scalar more at the end of the open list, and one less.
use Rattle.std.proofs.Common.{◌≡◌, ◌≢◌, ℕ, ◌+◌, ◌-◌, ◌<◌, ◌≤◌, max, Bool, true, false, cond, not, List, [], ◌∷◌, ◌++◌, map, length, take, refl, ap, ap₂, sym, subst, ◌∙◌, arith, inl, inr, get_or, get_or-set_same, get_or-set_other, length-append, lt_of_lt_of_le}
use Rattle.std.specs.Prelude.{◌==◌, ◌||◌, All, sum_by, slice_index, slice_index_or, slice_set}
use Rattle.std.specs.List.{concat}
use Rattle.std.proofs.lemmas.Bool.{cases_eq, not-true, ne_eqb, eq-eqb, or_parts}
use Rattle.std.proofs.lemmas.List.{take_at, length-set, get_or_default}
use Rattle.lay_model.specs.Sequences.{Sequence}
use Rattle.lay_cost.specs.Placements.{has}
use Rattle.lay_cost.specs.Restricted.{in_bits}
use Rattle.lay_cost.specs.Weights.{weight_at}
use Rattle.lay_cost.specs.Parts.{Node, node_lists, IsString}
use Rattle.lay_tree.specs.Tree.{with_scalar, unplaced}
use Rattle.lay_tree.specs.Bound.{is_outside, weight_outside, greatest, most_saved}
use Rattle.lay_node.specs.declared.kept.Kept.{Kept}
use Rattle.lay_node.specs.declared.level.Level.{Level}
use Rattle.lay_node.specs.declared.position.Position.{Position}
use Rattle.lay_node.specs.Levels.{is_free, free_below, greatest_among, greatest_in_all, HasGreatest}
use Rattle.lay_node.specs.Numbers.{needs_weights, needs_greatest, kept_with, kept_in, kept_at, most_beside}
use Rattle.lay_node.specs.Strings.{node_of}
use Rattle.lay_node.specs.Positions.{no_level, level_at, here, greatest_needed, IsLevel, IsAtWith, IsAt, IsCopy, SameBelow, SamePlace}
use Rattle.lay_node.proofs.Unplaced.{unplaced_scalar, placed_more, greatest_minus}
use Rattle.lay_node.proofs.Needs.{greatest_weigh}
use Rattle.lay_node.proofs.Children.{has_unplaced}
use Rattle.lay_node.proofs.Agreeing.{AreOutside, ArePlaced, greatest_outside, greatest_all_outside}
use Rattle.lay_node.proofs.Strung.{node_scalar, push_string}
use Rattle.lay_node.proofs.Proper.{IsProper, proper_string}

pub level_set_same : (ls : List Level) (i : ℕ) (l : Level) → i < length ls → level_at (slice_set ls i l) i ≡ l
level_set_same ls i l lt = get_or-set_same ls i l _ lt

pub level_set_other : (ls : List Level) (i j : ℕ) (l : Level) → j ≢ i → level_at (slice_set ls i l) j ≡ level_at ls j
level_set_other ls i j l differ = get_or-set_other ls i j l _ differ

pub level_got : (ls : List Level) (i j : ℕ) (l : Level) → l ≡ get_or ls i l → i ≡ j → j < length ls → l ≡ level_at ls j
level_got ls i j l is same lt = is ∙ ap (λ k. get_or ls k l) same ∙ get_or_default ls j l no_level lt

pub popped : (old new front : List ℕ) (n s : ℕ) → n ≡ length old → new ≡ take (n - 1) old → old ≡ front ++ (s ∷ []) → new ≡ front
popped old new front n s len rest is =
    let short : length front ≡ n - 1 = omega (arith, len, ap length is, length-append front (s ∷ [])) in
    rest ∙ ap (take (n - 1)) is ∙ take_at front (s ∷ []) (n - 1) short

-- the table of the scalars that are placed
pub placed_child : (seq : Sequence) (n : Node) (placed : List Bool) (s : ℕ) → ArePlaced seq n placed → s < length placed → ArePlaced seq (with_scalar n s) (slice_set placed s true)
placed_child seq n placed s are lt t less = elim (cases_eq t s) [
  | inl same ↦ ap (λ i. slice_index_or (slice_set placed s true) i false) same ∙ get_or-set_same placed s true false lt ∙ sym (placed_more n s t ∙ ap (λ b. has (concat (node_lists n)) t || b) (eq-eqb s t (sym same)) ∙ either (has (concat (node_lists n)) t))
  | inr differ ↦ get_or-set_other placed s t true false differ ∙ are t less ∙ sym (placed_more n s t ∙ ap (λ b. has (concat (node_lists n)) t || b) (ne_eqb s t (λ e. differ (sym e))) ∙ neither (has (concat (node_lists n)) t))
]
  where
    either : (b : Bool) → (b || true) ≡ true
    either true = refl
    either false = refl

    neither : (b : Bool) → (b || false) ≡ b
    neither true = refl
    neither false = refl

-- the greatest weights among the scalars that aren't placed, and one more
pub enter_greatest : (seq : Sequence) (n : Node) (l : Level) (placed : List Bool) (s u : ℕ) → seq.scalars ≤ 64 → IsLevel true true seq n l → ArePlaced seq n placed → s < length placed → s < seq.scalars → has (concat (node_lists n)) s ≡ false
    → u < seq.scalars → is_free (slice_set placed s true) u ≡ true
    → slice_index l.greatest u ≡ max (greatest_among l.weights (free_below (slice_set placed s true) seq.scalars) u) (weight_at l.weights u s)
enter_greatest seq n l placed s u few level are lt below lacks less free =
    let child = placed_child seq n placed s are lt in
    let not_there : has (concat (node_lists (with_scalar n s))) u ≡ false = sym (child u less) ∙ not-true (slice_index_or (slice_set placed s true) u false) free in
    let out : has (concat (node_lists n)) u ≡ false = (or_parts (has (concat (node_lists n)) u) (s == u) (sym (placed_more n s u) ∙ not_there)).0 in
    let f = weight_outside seq n u in
    level.greatest refl u less out
    ∙ greatest_minus f s (unplaced seq n) (has_unplaced seq n s below lacks)
    ∙ ap₂ max
    (ap (λ xs. greatest (map f xs)) (sym (unplaced_scalar seq n s)) ∙ sym (greatest_outside seq (with_scalar n s) l.weights (slice_set placed s true) u few (level.weights refl) child less))
    (sym (level.weights refl u s (lt_of_lt_of_le less few) (lt_of_lt_of_le below few)))

pub enter_sum : (seq : Sequence) (n : Node) (table : List ℕ) (placed : List Bool) (s : ℕ) → seq.scalars ≤ 64 → AreOutside seq n table → ArePlaced seq n placed → s < length placed
    → greatest_in_all table (free_below (slice_set placed s true) seq.scalars) ≡ sum_by (most_beside seq (with_scalar n s)) (unplaced seq (with_scalar n s))
enter_sum seq n table placed s few are placed_are lt = greatest_all_outside seq (with_scalar n s) table (slice_set placed s true) few are (placed_child seq n placed s placed_are lt)

-- what is kept, with the greatest weights among those that aren't placed
pub regrown : (r : ℕ) (seq : Sequence) (n : Node) (k : Kept) (g : ℕ) → needs_greatest r seq n ≡ true → k ≡ kept_at r seq n → g ≡ sum_by (most_beside seq n) (unplaced seq n)
    → (let grown : Kept = record { closes = k.closes; unplaced = k.unplaced; last = k.last; closed = k.closed; loads = k.loads; paid = k.paid; saved = k.saved; greatest = g } in grown) ≡ kept_in r seq n
regrown r seq n k g ranks e f = ap₂ make e f ∙ ap (λ b. kept_with (needs_weights seq) seq n (cond b (sum_by (most_beside seq n) (unplaced seq n)) 0)) (sym ranks)
  where
    make : Kept → ℕ → Kept
    make j h = record { closes = j.closes; unplaced = j.unplaced; last = j.last; closed = j.closed; loads = j.loads; paid = j.paid; saved = j.saved; greatest = h }

-- and where these aren't kept
pub grown_without : (r : ℕ) (seq : Sequence) (n : Node) → needs_greatest r seq n ≡ false → kept_at r seq n ≡ kept_in r seq n
grown_without r seq n none = ap (λ b. kept_with (needs_weights seq) seq n (cond b (sum_by (most_saved seq n) (unplaced seq n)) 0)) none ∙ sym (ap (λ b. kept_with (needs_weights seq) seq n (cond b (sum_by (most_beside seq n) (unplaced seq n)) 0)) none)

pub string_child : (seq : Sequence) (d : Position) (s : ℕ) → IsAt seq d → s < seq.scalars → has (concat (node_lists (here d))) s ≡ false → IsString seq.scalars (d.string.items ++ (s ∷ []))
string_child seq d s at_it below lacks = push_string seq.scalars d.string.items s at_it.sequence.few at_it.string below lacks

pub child_here : (seq : Sequence) (old new : Position) (s : ℕ) → IsAt seq old → s < seq.scalars → new.string.items ≡ old.string.items ++ (s ∷ []) → here new ≡ with_scalar (here old) s
child_here seq old new s at_it below is = ap node_of is ∙ node_scalar old.string.items s (lt_of_lt_of_le below at_it.sequence.few)

pub proper_child : (seq : Sequence) (d : Position) (s : ℕ) → IsAt seq d → s < seq.scalars → has (concat (node_lists (here d))) s ≡ false → IsProper seq.scalars (with_scalar (here d) s)
proper_child seq d s at_it below lacks = subst (λ n. IsProper seq.scalars n) (node_scalar d.string.items s (lt_of_lt_of_le below at_it.sequence.few)) (proper_string seq.scalars (d.string.items ++ (s ∷ [])) (string_child seq d s at_it below lacks))

-- what is asked for is the same where the closed lists are
level_of : (seq : Sequence) (n : Node) (old new : Position) → new.registers ≡ old.registers → here new ≡ n → IsLevel (needs_weights seq) (needs_greatest old.registers seq n) seq n (level_at new.levels.items (length n.closed))
    → IsLevel (needs_weights seq) (greatest_needed seq new) seq (here new) (level_at new.levels.items (length (here new).closed))
level_of seq n old new registers e level =
    subst (λ m. IsLevel (needs_weights seq) (needs_greatest new.registers seq m) seq m (level_at new.levels.items (length m.closed))) (sym e)
    (subst (λ r. IsLevel (needs_weights seq) (needs_greatest r seq n) seq n (level_at new.levels.items (length n.closed))) (sym registers) level)

-- at the same node, with other weights
pub moved_at : (a b weighs ranks : Bool) (seq : Sequence) (old new : Position) → IsAtWith a b seq old → new.registers ≡ old.registers → new.string.items ≡ old.string.items → new.placed ≡ old.placed → new.outside ≡ old.outside → length new.levels.items ≡ length old.levels.items
    → IsLevel weighs ranks seq (here new) (level_at new.levels.items (length (here new).closed)) → IsAtWith weighs ranks seq new
moved_at a b weighs ranks seq old new at_it registers string placed outside count level =
    let e : here new ≡ here old = ap node_of string in
    record {
      sequence = at_it.sequence;
      registers = subst (λ n. length n.closed < new.registers) (sym e) (subst (λ r. length (here old).closed < r) (sym registers) at_it.registers);
      levels = count ∙ at_it.levels ∙ sym registers;
      string = subst (λ xs. IsString seq.scalars xs) (sym string) at_it.string;
      closed = subst (λ (n : Node). All (λ l. 1 ≤ length l) n.closed) (sym e) at_it.closed;
      size = ap length placed ∙ at_it.size;
      placed = λ t lt. ap (λ p. slice_index_or p t false) placed ∙ at_it.placed t lt ∙ ap (λ n. has (concat (node_lists n)) t) (sym e);
      outside = λ t lt. ap (λ o. in_bits o t) outside ∙ at_it.outside t lt ∙ ap (λ n. is_outside n t) (sym e);
      level = level;
    }

pub entered_at : (seq : Sequence) (old new : Position) (s : ℕ) → IsAt seq old → s < seq.scalars → has (concat (node_lists (here old))) s ≡ false
    → new.registers ≡ old.registers → new.string.items ≡ old.string.items ++ (s ∷ []) → new.placed ≡ slice_set old.placed s true → new.outside ≡ old.outside → length new.levels.items ≡ length old.levels.items
    → IsLevel (needs_weights seq) (greatest_needed seq old) seq (with_scalar (here old) s) (level_at new.levels.items (length (here old).closed)) → IsAt seq new
entered_at seq old new s at_it below lacks registers string placed outside count level =
    let e = child_here seq old new s at_it below string in
    let few = at_it.sequence.few in
    let short : s < length old.placed = omega (arith, at_it.size, below, few) in
    let child = placed_child seq (here old) old.placed s at_it.placed short in
    record {
      sequence = at_it.sequence;
      registers = subst (λ n. length n.closed < new.registers) (sym e) (subst (λ r. length (here old).closed < r) (sym registers) at_it.registers);
      levels = count ∙ at_it.levels ∙ sym registers;
      string = subst (λ xs. IsString seq.scalars xs) (sym string) (string_child seq old s at_it below lacks);
      closed = subst (λ (n : Node). All (λ l. 1 ≤ length l) n.closed) (sym e) at_it.closed;
      size = ap length placed ∙ length-set old.placed s true ∙ at_it.size;
      placed = λ t lt. ap (λ p. slice_index_or p t false) placed ∙ child t lt ∙ ap (λ n. has (concat (node_lists n)) t) (sym e);
      outside = λ t lt. ap (λ o. in_bits o t) outside ∙ at_it.outside t lt ∙ ap (λ n. is_outside n t) (sym e);
      level = level_of seq (with_scalar (here old) s) old new registers e level;
    }

-- the level among whose scalars one was placed
pub entered_level : (seq : Sequence) (old : Position) (l : Level) (s : ℕ) → IsAt seq old → s < seq.scalars
    → l.weights ≡ (level_at old.levels.items (length (here old).closed)).weights → (greatest_needed seq old ≡ true → HasGreatest l.weights l.greatest (slice_set old.placed s true) seq.scalars)
    → IsLevel (needs_weights seq) (greatest_needed seq old) seq (with_scalar (here old) s) l
entered_level seq old l s at_it below weights greatest =
    let few = at_it.sequence.few in
    let short : s < length old.placed = omega (arith, at_it.size, below, few) in
    let child = placed_child seq (here old) old.placed s at_it.placed short in
    let are = λ (some : needs_weights seq ≡ true) (x y : ℕ) (lx : x < 64) (ly : y < 64). ap (λ w. weight_at w x y) weights ∙ at_it.level.weights some x y lx ly in
    record {
      weights = are;
      greatest = λ ranks t lt out. greatest ranks t lt (ap not (child t lt ∙ out)) ∙ greatest_outside seq (with_scalar (here old) s) l.weights (slice_set old.placed s true) t few (are (greatest_weigh old.registers seq (here old) ranks)) child lt;
    }

-- back at a place it knows what it did
pub same_at : (seq : Sequence) (old new : Position) → IsAt seq old → SamePlace old new → IsAt seq new
same_at seq old new at_it same =
    let l = same.levels (length (here old).closed) (omega arith) in
    let e : here new ≡ here old = ap node_of same.string in
    moved_at (needs_weights seq) (greatest_needed seq old) (needs_weights seq) (greatest_needed seq new) seq old new at_it same.registers same.string same.placed same.outside same.count (level_of seq (here old) old new same.registers e (record {
      weights = λ some x y lx ly. ap (λ w. weight_at w x y) l.weights ∙ at_it.level.weights some x y lx ly;
      greatest = λ ranks t lt out. l.greatest t ∙ at_it.level.greatest ranks t lt out;
    }))

pub copy_here : (old new : Position) → IsCopy old new → here new ≡ here old
copy_here old new copy = ap node_of copy.string

-- and so does a copy
pub copy_at : (seq : Sequence) (old new : Position) → IsAt seq old → IsCopy old new → IsAt seq new
copy_at seq old new at_it copy = same_at seq old new at_it (record {
  registers = copy.registers;
  string = copy.string;
  placed = copy.placed;
  outside = copy.outside;
  count = ap length copy.levels;
  levels = λ i lt. record {
    weights = ap (λ ls. (level_at ls i).weights) copy.levels;
    greatest = λ s. ap (λ ls. slice_index (level_at ls i).greatest s) copy.levels;
  };
})

pub same_itself : (d : Position) → SamePlace d d
same_itself d = record {
  registers = refl;
  string = refl;
  placed = refl;
  outside = refl;
  count = refl;
  levels = λ i le. record { weights = refl; greatest = λ s. refl };
}

pub same_less : (m n : ℕ) (a b : Position) → m ≤ n → SameBelow n a b → SameBelow m a b
same_less m n a b le same = record { registers = same.registers; string = same.string; placed = same.placed; outside = same.outside; count = same.count; levels = λ i lt. same.levels i (lt_of_lt_of_le lt le) }

pub below_then : (m : ℕ) (a b c : Position) → SameBelow m a b → SameBelow m b c → SameBelow m a c
below_then m a b c f g = record {
  registers = g.registers ∙ f.registers;
  string = g.string ∙ f.string;
  placed = g.placed ∙ f.placed;
  outside = g.outside ∙ f.outside;
  count = g.count ∙ f.count;
  levels = λ i lt. let first = f.levels i lt in let second = g.levels i lt in record { weights = second.weights ∙ first.weights; greatest = λ s. second.greatest s ∙ first.greatest s };
}

pub same_then : (a b c : Position) → SamePlace a b → SamePlace b c → SamePlace a c
same_then a b c f g = below_then (length (here a).closed + 1) a b c f (subst (λ n. SameBelow (length n.closed + 1) b c) (ap node_of f.string) g)
