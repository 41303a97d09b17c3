-- What is kept of a node of the tree, from scratch.
use Rattle.std.specs.Prelude.{ℕ, ◌+◌, ◌-◌, ◌^◌, ◌≤◌, nat_le, nat_lt, ℤ, pos, ◌-ℤ◌, Bool, not, ◌||◌, List, [], ◌∷◌, length, map, sum_by, Option, Some, None, if◌then◌else◌}
use Rattle.lay_model.specs.Sequences.{Sequence}
use Rattle.lay_cost.specs.Parts.{Node, part_cost_of}
use Rattle.lay_node.specs.declared.kept.Kept.{Kept}
use Rattle.lay_tree.specs.Tree.{unplaced, has_closes_left}
use Rattle.lay_tree.specs.Bound.{weight_outside, sum_of_adjacent, greatest, most_saved, outside_loads, paid_outside}

abbrev pub last_scalar : List ℕ → Option ℕ
last_scalar [] = None
last_scalar (s ∷ []) = Some s
last_scalar (s ∷ t ∷ ss) = last_scalar (t ∷ ss)

-- how often a scalar is beside one that isn't placed at most
abbrev pub most_beside : Sequence → Node → ℕ → ℕ
most_beside seq n s = greatest (map (weight_outside seq n s) (unplaced seq n))

-- at step 1 alone the weights of the scalars outside closed lists are kept: complete nodes cost by them
abbrev pub needs_weights : Sequence → Bool
needs_weights seq = not (nat_lt 1 seq.step)

-- and only where no list may be closed any more the greatest ones: only there the bound doesn't come from loads alone
abbrev pub needs_greatest : ℕ → Sequence → Node → Bool
needs_greatest k seq n = not (has_closes_left k n || nat_lt 1 seq.step)

-- with the weights, or 0 in their places, and with a sum of greatest ones
abbrev pub kept_with : Bool → Sequence → Node → ℕ → Kept
kept_with weighs seq n sum = record {
  closes = length n.closed;
  unplaced = length (unplaced seq n);
  last = last_scalar n.open_list;
  closed = part_cost_of seq n.closed;
  loads = outside_loads seq n;
  paid = if weighs then paid_outside seq n else 0;
  saved = if weighs then sum_of_adjacent (weight_outside seq n) n.open_list else 0;
  greatest = sum;
}

-- with the greatest weights among the scalars that aren't placed, or 0
abbrev pub kept_found : Bool → Bool → Sequence → Node → Kept
kept_found weighs ranks seq n = kept_with weighs seq n (if ranks then sum_by (most_beside seq n) (unplaced seq n) else 0)

-- of a node whose children come next, over k registers
abbrev pub kept_in : ℕ → Sequence → Node → Kept
kept_in k seq n = kept_found (needs_weights seq) (needs_greatest k seq n) seq n

-- of a node whose bound is asked for: what can be saved at most for each scalar that isn't placed
abbrev pub kept_at : ℕ → Sequence → Node → Kept
kept_at k seq n = kept_with (needs_weights seq) seq n (if needs_greatest k seq n then sum_by (most_saved seq n) (unplaced seq n) else 0)

-- with one scalar more in the open list, which is so often beside the last one, and whose greatest weight is this
abbrev pub next_kept : Kept → ℕ → ℕ → ℕ → Kept
next_kept k scalar beside greatest = record {
  closes = k.closes;
  unplaced = k.unplaced - 1;
  last = Some scalar;
  closed = k.closed;
  loads = k.loads;
  paid = k.paid;
  saved = k.saved + beside;
  greatest = k.greatest - greatest;
}

-- the numbers are small
pub record AreSmall (k : Kept) : Type 0 where
  pub closed : k.closed ≤ 2 ^ 60
  pub loads : k.loads ≤ 2 ^ 60
  pub paid : k.paid ≤ 2 ^ 61
  pub saved : k.saved ≤ 2 ^ 61
  pub greatest : k.greatest ≤ 2 ^ 61

-- over so many registers
abbrev pub may_close : ℕ → Kept → Bool
may_close registers k = nat_lt (k.closes + 1) registers

-- whether the bound comes from loads alone
abbrev pub by_loads : ℕ → ℕ → Kept → Bool
by_loads registers step k = may_close registers k || nat_lt 1 step

-- whether the bound of a node that isn't complete is at least a cost, by what is kept
abbrev pub kept_reaches : ℕ → ℕ → Kept → ℕ → Bool
kept_reaches registers step k cost = if by_loads registers step k then nat_le cost (k.closed + k.loads) else nat_le (cost + k.saved + k.greatest) (k.closed + k.loads + k.paid)

-- and that bound
abbrev pub kept_bound : ℕ → ℕ → Kept → ℤ
kept_bound registers step k = if by_loads registers step k then pos (k.closed + k.loads) else pos (k.closed + k.loads + k.paid) -ℤ pos (k.saved + k.greatest)
