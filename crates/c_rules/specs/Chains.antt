-- The names of functions through which one reaches itself.
use Rattle.std.specs.Prelude.{◌≡◌, ⊤, ℕ, List, ◌∷◌, map, slice_get, option_map, Option, Some}
use Rattle.c_rules.specs.declared.fault.TypeFault.{TypeFault}
use Rattle.c_rules.specs.declared.fault.TypeFault.TheVariants.{Recursion, NoMemory}
use Rattle.c_tree.specs.Rounds.{CallsAmong}
use Rattle.c_rules.specs.Programs.{calls_of}
use Rattle.c_rules.specs.Rounds.{IsFirstRound}
use Rattle.c_rules.specs.Units.{TypedFunction}

-- the name of the function of a number
abbrev pub name_of : List TypedFunction → ℕ → Option (List ℕ)
name_of fs n = option_map (λ f. f.name) (slice_get fs n)

-- the names of the first function that reaches itself, of those on the first of its ways round, and of itself again
pub record IsChain (fs : List TypedFunction) (chain : List (List ℕ)) : Type 0 where
  pub number : ℕ
  pub over : List ℕ
  pub is_first : IsFirstRound (CallsAmong (calls_of fs)) number over
  pub names : map Some chain ≡ map (name_of fs) (number ∷ over)

-- a function reaches itself, or memory is wanting
abbrev pub IsRecursion : List TypedFunction → TypeFault → Type 0
IsRecursion fs (Recursion chain) = IsChain fs chain
IsRecursion fs NoMemory = ⊤
IsRecursion fs fault = ⊥
