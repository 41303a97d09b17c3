-- The targets of a range's jumps, as a table over the range.
use Rattle.std.specs.Prelude.{◌≡◌, ℕ, ◌+◌, ◌<◌, ◌≤◌, Bool, false, ◌==◌, List, length, slice_index_or, filter_map}
use Rattle.std.specs.List.{list_any}
use Rattle.c25_isa.specs.Walk.{Placed, jump_target}

abbrev pub targets_of : List Placed → List ℕ
targets_of placed = filter_map (λ p. jump_target p.instr) placed

-- of each word from the first one on it is marked whether it is among the targets
abbrev pub AreMarked : ℕ → List Bool → List ℕ → Type 0
AreMarked first marks targets = (k : ℕ) → k < length marks → slice_index_or marks k false ≡ list_any (λ to. to == first + k) targets

-- an instruction's words, and the one behind them, are in a table of so many words from the first one on
pub record IsInTable (first count : ℕ) (p : Placed) : Type 0 where
  pub from : first ≤ p.at
  pub to : p.behind < first + count
