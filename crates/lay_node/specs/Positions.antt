-- Where a walk over the tree is, and its steps.
use Rattle.std.specs.Prelude.{◌≡◌, ℕ, ◌+◌, ◌<◌, ◌≤◌, max, Bool, true, false, List, [], ◌∷◌, ◌++◌, length, All, slice_index, slice_index_or, slice_set}
use Rattle.std.specs.List.{concat}
use Rattle.lay_model.specs.Sequences.{Sequence, IsSequence}
use Rattle.lay_cost.specs.Placements.{has}
use Rattle.lay_cost.specs.Restricted.{in_bits}
use Rattle.lay_cost.specs.Weights.{weight_at}
use Rattle.lay_cost.specs.Parts.{Node, node_lists, IsString}
use Rattle.lay_tree.specs.Tree.{root}
use Rattle.lay_tree.specs.Bound.{is_outside, weight_outside}
use Rattle.lay_node.specs.declared.kept.Kept.{Kept}
use Rattle.lay_node.specs.declared.level.Level.{Level}
use Rattle.lay_node.specs.declared.position.Position.{Position}
use Rattle.lay_node.specs.Levels.{is_free, SameOfOthers}
use Rattle.lay_node.specs.Numbers.{kept_in, kept_found, needs_weights, needs_greatest, most_beside}
use Rattle.lay_node.specs.Strings.{node_of}

abbrev pub no_level : Level
no_level = record { weights = []; greatest = [] }

abbrev pub level_at : List Level → ℕ → Level
level_at levels closes = slice_index_or levels closes no_level

-- the node where a walk is
abbrev pub here : Position → Node
here p = node_of p.string.items

-- there is a level for each number of closed lists
abbrev pub HasLevels : Position → Type 0
HasLevels p = length p.levels.items ≡ p.registers

-- what depends on the closed lists of a node: the weights of the scalars outside them, and the greatest ones among those that aren't placed, where these are asked for
pub record IsLevel (weighs ranks : Bool) (seq : Sequence) (n : Node) (l : Level) : Type 0 where
  pub weights : weighs ≡ true → (x y : ℕ) → x < 64 → y < 64 → weight_at l.weights x y ≡ weight_outside seq n x y
  pub greatest : ranks ≡ true → (s : ℕ) → s < seq.scalars → has (concat (node_lists n)) s ≡ false → slice_index l.greatest s ≡ most_beside seq n s

-- the same numbers
pub record SameLevel (old new : Level) : Type 0 where
  pub weights : new.weights ≡ old.weights
  pub greatest : (s : ℕ) → slice_index new.greatest s ≡ slice_index old.greatest s

-- it is at the node of its string, and knows of it what is asked for
pub record IsAtWith (weighs ranks : Bool) (seq : Sequence) (p : Position) : Type 0 where
  pub sequence : IsSequence seq
  pub registers : length (here p).closed < p.registers
  pub levels : HasLevels p
  pub string : IsString seq.scalars p.string.items
  pub closed : All (λ l. 1 ≤ length l) (here p).closed
  pub size : length p.placed ≡ 64
  pub placed : (s : ℕ) → s < seq.scalars → slice_index_or p.placed s false ≡ has (concat (node_lists (here p))) s
  pub outside : (s : ℕ) → s < seq.scalars → in_bits p.outside s ≡ is_outside (here p) s
  pub level : IsLevel weighs ranks seq (here p) (level_at p.levels.items (length (here p).closed))

-- whether the bound of its node needs the greatest weights
abbrev pub greatest_needed : Sequence → Position → Bool
greatest_needed seq p = needs_greatest p.registers seq (here p)

-- it knows what the children of its node need
abbrev pub IsAt : Sequence → Position → Type 0
IsAt seq p = IsAtWith (needs_weights seq) (greatest_needed seq p) seq p

-- it is at the same place, and knows the same
pub record IsCopy (old new : Position) : Type 0 where
  pub registers : new.registers ≡ old.registers
  pub string : new.string.items ≡ old.string.items
  pub placed : new.placed ≡ old.placed
  pub outside : new.outside ≡ old.outside
  pub levels : new.levels.items ≡ old.levels.items

-- it is where it was, and knows what it did where fewer lists than a number are closed
pub record SameBelow (closes : ℕ) (old new : Position) : Type 0 where
  pub registers : new.registers ≡ old.registers
  pub string : new.string.items ≡ old.string.items
  pub placed : new.placed ≡ old.placed
  pub outside : new.outside ≡ old.outside
  pub count : length new.levels.items ≡ length old.levels.items
  pub levels : (i : ℕ) → i < closes → SameLevel (level_at old.levels.items i) (level_at new.levels.items i)

-- and what it did of the node and of those above it
abbrev pub SamePlace : Position → Position → Type 0
SamePlace old new = SameBelow (length (here old).closed + 1) old new

-- it is at the root, and knows what its children need
pub record Knows (seq : Sequence) (old new : Position) (kept : Kept) : Type 0 where
  pub place : IsAt seq new
  pub numbers : kept ≡ kept_in new.registers seq root
  pub nothing : here new ≡ root
  pub registers : new.registers ≡ old.registers

-- a scalar more was put at the end of the open list
pub record Enters (seq : Sequence) (scalar : ℕ) (old new : Position) (child : Kept) : Type 0 where
  pub at_child : IsAt seq new
  pub string : new.string.items ≡ old.string.items ++ (scalar ∷ [])
  pub kept : child ≡ kept_in new.registers seq (here new)
  pub registers : new.registers ≡ old.registers
  pub outside : new.outside ≡ old.outside
  pub placed : new.placed ≡ slice_set old.placed scalar true
  pub count : length new.levels.items ≡ length old.levels.items
  pub lower : (i : ℕ) → i < length (here old).closed → level_at new.levels.items i ≡ level_at old.levels.items i
  pub weights : (level_at new.levels.items (length (here old).closed)).weights ≡ (level_at old.levels.items (length (here old).closed)).weights
  pub others : SameOfOthers (level_at old.levels.items (length (here old).closed)).greatest (level_at new.levels.items (length (here old).closed)).greatest new.placed seq.scalars
  pub same : greatest_needed seq old ≡ false → new.levels.items ≡ old.levels.items

-- and taken away again, with greatest weights or without them
pub record Leaves (ranks : Bool) (seq : Sequence) (closes scalar : ℕ) (old new : Position) : Type 0 where
  pub string : (front : List ℕ) → old.string.items ≡ front ++ (scalar ∷ []) → new.string.items ≡ front
  pub registers : new.registers ≡ old.registers
  pub outside : new.outside ≡ old.outside
  pub placed : new.placed ≡ slice_set old.placed scalar false
  pub count : length new.levels.items ≡ length old.levels.items
  pub lower : (i : ℕ) → i < closes → level_at new.levels.items i ≡ level_at old.levels.items i
  pub weights : (level_at new.levels.items closes).weights ≡ (level_at old.levels.items closes).weights
  pub greatest : ranks ≡ true → (s : ℕ) → s < seq.scalars → is_free old.placed s ≡ true → slice_index (level_at new.levels.items closes).greatest s ≡ max (slice_index (level_at old.levels.items closes).greatest s) (weight_at (level_at old.levels.items closes).weights s scalar)
  pub others : SameOfOthers (level_at old.levels.items closes).greatest (level_at new.levels.items closes).greatest old.placed seq.scalars
  pub same : ranks ≡ false → new.levels.items ≡ old.levels.items

-- the weights were found that are asked for
pub record Weighs (weighs ranks : Bool) (seq : Sequence) (old new : Position) (kept : Kept) : Type 0 where
  pub place : IsAtWith weighs ranks seq new
  pub numbers : kept ≡ kept_found weighs ranks seq (here new)
  pub same : SameBelow (length (here old).closed) old new

-- the open list was closed, and the weights found that the bound needs
pub record Closes (seq : Sequence) (old new : Position) (child : Kept) : Type 0 where
  pub at_child : IsAtWith (greatest_needed seq new) (greatest_needed seq new) seq new
  pub string : new.string.items ≡ old.string.items ++ (255 ∷ [])
  pub kept : child ≡ kept_found (greatest_needed seq new) (greatest_needed seq new) seq (here new)
  pub registers : new.registers ≡ old.registers
  pub placed : new.placed ≡ old.placed
  pub count : length new.levels.items ≡ length old.levels.items
  pub lower : (i : ℕ) → i ≤ length (here old).closed → SameLevel (level_at old.levels.items i) (level_at new.levels.items i)

-- the open list is open again
pub record Reopens (set : ℕ) (old new : Position) : Type 0 where
  pub string : (front : List ℕ) (sign : ℕ) → old.string.items ≡ front ++ (sign ∷ []) → new.string.items ≡ front
  pub registers : new.registers ≡ old.registers
  pub outside : new.outside ≡ set
  pub placed : new.placed ≡ old.placed
  pub levels : new.levels.items ≡ old.levels.items
