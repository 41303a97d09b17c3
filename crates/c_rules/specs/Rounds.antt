-- The first function that reaches itself by calls, and the first of its ways round.
use Rattle.std.specs.Prelude.{◌≡◌, ◌<◌, ◌⊎◌, ℕ, List, [], ◌∷◌, length}
pub use Rattle.c_tree.specs.Rounds.{IsWay, IsRound, HasNoRound}

-- a list is less than another where they first differ
abbrev pub IsLess : List ℕ → List ℕ → Type 0
IsLess [] ys = ⊥
IsLess (x ∷ xs) [] = ⊥
IsLess (x ∷ xs) (y ∷ ys) = (x < y) ⊎ ((x ≡ y) × IsLess xs ys)

-- a shorter list stands before a longer one, and of lists as long the one that is less where they first differ
abbrev pub IsBefore : List ℕ → List ℕ → Type 0
IsBefore xs ys = (length xs < length ys) ⊎ ((length xs ≡ length ys) × IsLess xs ys)

abbrev pub IsNotAfter : List ℕ → List ℕ → Type 0
IsNotAfter xs ys = (xs ≡ ys) ⊎ IsBefore xs ys

-- a function is the first that reaches itself, and this the first of its ways round
pub record IsFirstRound (calls : ℕ → ℕ → Type 0) (n : ℕ) (ms : List ℕ) : Type 0 where
  pub round : IsRound calls n ms
  pub first : (k : ℕ) (vs : List ℕ) → k < n → ¬ IsRound calls k vs
  pub least : (vs : List ℕ) → IsRound calls n vs → IsNotAfter ms vs

-- numbers of functions are the first that reaches itself, those on the first of its ways round, and itself again
pub record IsFirstChain (calls : ℕ → ℕ → Type 0) (numbers : List ℕ) : Type 0 where
  pub number : ℕ
  pub over : List ℕ
  pub is : numbers ≡ number ∷ over
  pub is_first : IsFirstRound calls number over

-- no function below this number does
abbrev pub NoneBelow : (ℕ → ℕ → Type 0) → ℕ → Type 0
NoneBelow calls n = (k : ℕ) (vs : List ℕ) → k < n → ¬ IsRound calls k vs
