-- What a search by calls has reached, and by which ways.
use Rattle.std.specs.Prelude.{◌≡◌, ◌<◌, ◌≤◌, ◌≢◌, ℕ, Bool, true, List, [], ◌∷◌, ◌++◌, zero, suc, length, slice_get, Option, Some, None}
use Rattle.c_limits.specs.declared.recursion.Search.{Search}
use Rattle.c_limits.specs.declared.recursion.Step.{Step}
use Rattle.c_tree.specs.Rounds.{CallsAmong}
use Rattle.c_rules.specs.Rounds.{IsWay, IsBefore, IsNotAfter}

-- a function that is reached, and those on the way to it, with itself as the last
pub record Reached : Type 0 where
  pub function : ℕ
  pub way : List ℕ

-- the way of the entry at a place
abbrev pub way_at : List Reached → ℕ → List ℕ
way_at [] n = []
way_at (r ∷ rs) zero = r.way
way_at (r ∷ rs) (suc n) = way_at rs n

-- the way of a step: that of the place that it comes from, and then its own function
abbrev pub way_over : List Reached → Option ℕ → ℕ → List ℕ
way_over trail None u = []
way_over trail (Some p) u = way_at trail p ++ u ∷ []

abbrev pub reached_by : List Reached → Step → Reached
reached_by trail s = record { function = s.function; way = way_over trail s.from s.function }

-- what is reached by steps behind others
abbrev pub trail_behind : List Reached → List Step → List Reached
trail_behind trail [] = trail
trail_behind trail (s ∷ ss) = trail_behind (trail ++ reached_by trail s ∷ []) ss

abbrev pub trail_of : List Step → List Reached
trail_of steps = trail_behind [] steps

-- each step comes from an earlier place, or stands where the search starts
pub record IsLinked (first : ℕ) (steps : List Step) : Type 0 where
  pub earlier : (p q : ℕ) (s : Step) → slice_get steps p ≡ Some s → s.from ≡ Some q → q < p
  pub start : (p : ℕ) (s : Step) → slice_get steps p ≡ Some s → s.from ≡ None → s.function ≡ first

-- a function is reached by a call, by a way that isn't after this one
pub record IsIn (trail : List Reached) (y : ℕ) (w : List ℕ) : Type 0 where
  pub place : ℕ
  pub entry : Reached
  pub by_call : 0 < place
  pub there : slice_get trail place ≡ Some entry
  pub same : entry.function ≡ y
  pub early : IsNotAfter entry.way w

-- the entries are reached by their ways, in the order of these, and by a call where they are marked
pub record IsTrail (calls : ℕ → ℕ → Type 0) (first : ℕ) (trail : List Reached) (marks : List Bool) : Type 0 where
  pub start : slice_get trail 0 ≡ Some (record { function = first; way = [] })
  pub ways : (p : ℕ) (r : Reached) → slice_get trail p ≡ Some r → IsWay calls first r.way r.function
  pub rising : (p q : ℕ) (r s : Reached) → p < q → slice_get trail p ≡ Some r → slice_get trail q ≡ Some s → IsBefore r.way s.way
  pub marked : (y : ℕ) → slice_get marks y ≡ Some true → (p : ℕ) × (r : Reached) × (0 < p) × (slice_get trail p ≡ Some r) × (r.function ≡ y)
  pub all_marked : (p : ℕ) (r : Reached) → 0 < p → slice_get trail p ≡ Some r → slice_get marks r.function ≡ Some true

-- the functions from the first on that those at the places below this one call are reached
pub record IsSearched (calls : ℕ → ℕ → Type 0) (first : ℕ) (trail : List Reached) (done : ℕ) : Type 0 where
  pub closed : (p : ℕ) (r : Reached) (y : ℕ) → p < done → slice_get trail p ≡ Some r → first ≤ y → calls r.function y → IsIn trail y (r.way ++ y ∷ [])
  pub apart : (p : ℕ) (r : Reached) → 0 < p → p < done → slice_get trail p ≡ Some r → r.function ≢ first
  pub whence : (q : ℕ) (s : Reached) → 0 < q → slice_get trail q ≡ Some s → (p : ℕ) × (r : Reached) × (p < done) × (slice_get trail p ≡ Some r) × (s.way ≡ r.way ++ s.function ∷ [])

-- a search for a way round of the first has worked off the places below this one
pub record HasSearched (lists : List (List ℕ)) (first : ℕ) (s : Search) (done : ℕ) : Type 0 where
  pub size : length s.entered.items ≡ length lists
  pub linked : IsLinked first s.steps.items
  pub trail : IsTrail (CallsAmong lists) first (trail_of s.steps.items) s.entered.items
  pub searched : IsSearched (CallsAmong lists) first (trail_of s.steps.items) done
