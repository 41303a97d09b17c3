-- The tree that a search goes over (docs/LAYOUT.md, "Tree"). A node is a string of scalars and closes, kept as the lists that it makes.
use Rattle.std.specs.Prelude.{◌≡◌, ℕ, suc, Bool, true, false, not, ◌&&◌, nat_lt, List, [], ◌∷◌, ◌++◌, length, map, filter, Contains, if◌then◌else◌}
use Rattle.std.specs.List.{concat, range_with_len}
use Rattle.lay_model.specs.Sequences.{Sequence}
use Rattle.lay_cost.specs.Placements.{has}
use Rattle.lay_cost.specs.Parts.{Node, node_lists}

abbrev pub is_empty : List ℕ → Bool
is_empty [] = true
is_empty (s ∷ ss) = false

-- nothing is placed
abbrev pub root : Node
root = record { closed = []; open_list = [] }

-- a scalar more, at the end of the open list
abbrev pub with_scalar : Node → ℕ → Node
with_scalar n scalar = record { closed = n.closed; open_list = n.open_list ++ (scalar ∷ []) }

-- the open list is closed, and an empty one is open
abbrev pub with_close : Node → Node
with_close n = record { closed = n.closed ++ (n.open_list ∷ []); open_list = [] }

-- the scalars, in rising order
abbrev pub all_scalars : Sequence → List ℕ
all_scalars seq = range_with_len 0 seq.scalars

-- those that stand in no list, in rising order
abbrev pub unplaced : Sequence → Node → List ℕ
unplaced seq n = filter (λ s. not (has (concat (node_lists n)) s)) (all_scalars seq)

abbrev pub is_complete : Sequence → Node → Bool
is_complete seq n = is_empty (unplaced seq n)

-- over k registers fewer than k - 1 lists were closed
abbrev pub has_closes_left : ℕ → Node → Bool
has_closes_left k n = nat_lt (suc (length n.closed)) k

-- the children of a node that isn't complete: one for each scalar that isn't placed, and then a close
abbrev pub children : ℕ → Sequence → Node → List Node
children k seq n = map (with_scalar n) (unplaced seq n) ++ (if not (is_empty n.open_list) && has_closes_left k n then with_close n ∷ [] else [])

-- a node is n, or it is below it
pub data IsBelow (k : ℕ) (seq : Sequence) : Node → Node → Type 0 where
  itself : (n : Node) → IsBelow k seq n n
  behind_child : (n child m : Node) → is_complete seq n ≡ false → Contains (children k seq n) child → IsBelow k seq child m → IsBelow k seq n m
