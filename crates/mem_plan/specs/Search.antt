-- A search for the begins of frames. It follows the calls of one function after another, each behind all those that call it.
use Rattle.std.specs.Prelude.{◌≡◌, ◌≢◌, ◌<◌, ◌≤◌, ◌+◌, ◌-◌, ◌*◌, ◌⊎◌, ◌==◌, ◌++◌, ◌∷◌, ℕ, zero, suc, max, Bool, true, false, if◌then◌else◌, List, [], length, slice_get, slice_index, slice_set, Option, Some, None}
use Rattle.std.specs.List.{Contains}
use Rattle.c_tree.specs.Declarations.{occurrences}
use Rattle.mem_plan.specs.declared.begins.Search.{Search}
use Rattle.mem_plan.specs.declared.needs.FunctionNeeds.{FunctionNeeds}
use Rattle.mem_plan.specs.Begins.{IsBehind}
use Rattle.mem_plan.specs.Gathered.{owns_in, most_own}

-- the calls of a function, in order
abbrev pub calls_of : Option FunctionNeeds → List ℕ
calls_of None = []
calls_of (Some f) = f.calls

abbrev pub calls_at : List FunctionNeeds → ℕ → List ℕ
calls_at needs n = calls_of (slice_get needs n)

-- how often a function calls this one
abbrev pub calls_to : (ℕ → List ℕ) → ℕ → ℕ → ℕ
calls_to calls f g = occurrences f (calls g)

-- the sum of weights of the functions below a number that haven't been followed
abbrev pub open_sum : (ℕ → ℕ) → (ℕ → Bool) → ℕ → ℕ
open_sum weight followed zero = 0
open_sum weight followed (suc n) = (if followed n then 0 else weight n) + open_sum weight followed n

abbrev pub nothing_followed : ℕ → Bool
nothing_followed f = false

-- how many calls there are of a function, of those below a number
abbrev pub all_calls_to : (ℕ → List ℕ) → ℕ → ℕ → ℕ
all_calls_to calls f = open_sum (calls_to calls f) nothing_followed

-- each function below a number of which no call is waited for, once
pub record AreReady (n : ℕ) (waiting order : List ℕ) : Type 0 where
  pub all : (f : ℕ) → f < n → slice_index waiting f ≡ 0 → Contains order f
  pub only : (f : ℕ) → Contains order f → (f < n) × (slice_index waiting f ≡ 0)
  pub differ : (i k : ℕ) → i < k → k < length order → slice_index order i ≢ slice_index order k

-- Between two calls. So many functions have been followed, which stand first in the order, but for the rest of the calls of the last one.
pub record IsFollowing (n : ℕ) (calls : ℕ → List ℕ) (own : ℕ → ℕ) (place last : ℕ) (rest begins waiting order : List ℕ) : Type 0 where
  pub followed : ℕ → Bool
  pub begins_size : length begins ≡ n
  pub waiting_size : length waiting ≡ n
  pub waits : (f : ℕ) → f < n → slice_index waiting f ≡ open_sum (calls_to calls f) followed n + occurrences f rest
  pub ready : AreReady n waiting order
  pub within : place ≤ length order
  pub in_order : (f : ℕ) → followed f ≡ true → Contains order f
  pub early : (i : ℕ) → i < place → followed (slice_index order i) ≡ true
  pub late : (i : ℕ) → place ≤ i → i < length order → followed (slice_index order i) ≡ false
  pub left : open_sum (λ f. 1) followed n + place ≡ n
  pub last_calls : (f : ℕ) → Contains rest f → Contains (calls last) f × (followed last ≡ true)
  pub above : (g f : ℕ) → followed g ≡ true → Contains (calls g) f → (slice_index begins g + own g ≤ slice_index begins f) ⊎ ((g ≡ last) × Contains rest f)
  pub reached : (f : ℕ) → (slice_index begins f ≡ 0) ⊎ IsBehind (λ g f. (followed g ≡ true) × Contains (calls g) f) own (slice_index begins) f
  pub small : (f : ℕ) → slice_index begins f ≤ place * most_own

-- behind one more call of a function, by one whose frame ends here
abbrev pub begins_behind : List ℕ → ℕ → ℕ → List ℕ
begins_behind begins f end = slice_set begins f (max (slice_index begins f) end)

abbrev pub waiting_behind : List ℕ → ℕ → List ℕ
waiting_behind waiting f = slice_set waiting f (slice_index waiting f - 1)

abbrev pub order_behind : List ℕ → List ℕ → ℕ → List ℕ
order_behind waiting order f = if slice_index waiting f - 1 == 0 then order ++ f ∷ [] else order

-- the same of a search
abbrev pub Follows : List FunctionNeeds → ℕ → ℕ → List ℕ → Search → Type 0
Follows needs place last rest s = IsFollowing (length needs) (calls_at needs) (owns_in needs) place last rest s.begins.items s.waiting.items s.order.items

-- between two functions: so many have been followed
abbrev pub HasFollowed : List FunctionNeeds → ℕ → Search → Type 0
HasFollowed needs place s = (last : ℕ) × Follows needs place last [] s
