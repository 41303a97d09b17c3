-- Lists of some of the scalars, as a search makes them (docs/LAYOUT.md, "Parts").
use Rattle.std.specs.Prelude.{Bool, true, not, ◌≡◌, ◌≢◌, ◌<◌, ◌≤◌, ℕ, ◌-◌, ◌==◌, List, [], ◌∷◌, ◌++◌, length, slice_index, All, count_by}
use Rattle.std.specs.List.{concat, slice_split}
use Rattle.lay_model.specs.Sequences.{Sequence}
use Rattle.lay_cost.specs.Placements.{has}
use Rattle.lay_cost.specs.Cost.{arranged_cost}
use Rattle.lay_cost.specs.Restricted.{restricted}

-- lists that are closed, in order, and the one that is open
pub record Node : Type 0 where
  pub closed : List (List ℕ)
  pub open_list : List ℕ

abbrev pub node_lists : Node → List (List ℕ)
node_lists n = n.closed ++ (n.open_list ∷ [])

-- the scalars that stand in none of these lists
abbrev pub is_outside : List (List ℕ) → ℕ → Bool
is_outside lists s = not (has (concat lists) s)

-- what lists of some scalars cost, over the accesses of these alone
abbrev pub part_cost_of : Sequence → List (List ℕ) → ℕ
part_cost_of seq lists = arranged_cost (restricted seq (has (concat lists))) lists

-- what closes a list in a string of scalars
abbrev pub close : ℕ
close = 255

-- the lists of a string: the last one is open
abbrev pub lists_of : List ℕ → List (List ℕ)
lists_of string = slice_split (λ c. c == close) string

-- each number stands there once at most
abbrev pub StandOnce : List ℕ → Type 0
StandOnce xs = (s : ℕ) → count_by (λ x. x == s) xs ≤ 1

-- a list has no scalar twice, and all its scalars are among others, which are given once each in any order
pub record AreMembers (list members : List ℕ) : Type 0 where
  pub once : StandOnce list
  pub members_once : StandOnce members
  pub members_have : (s : ℕ) → has list s ≡ true → has members s ≡ true

-- a string of scalars below a number, each once at most, where a close stands only directly behind a scalar
pub record IsString (scalars : ℕ) (string : List ℕ) : Type 0 where
  pub few : All (λ s. s < scalars) (concat (lists_of string))
  pub once : StandOnce (concat (lists_of string))
  pub closes : (i : ℕ) → i < length string → slice_index string i ≡ close → (1 ≤ i) × (slice_index string (i - 1) ≢ close)
