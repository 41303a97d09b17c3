-- Functions of a typed program that can be active at once, by the calls of its source.
use Rattle.std.specs.Prelude.{◌⊎◌, ℕ, List}
use Rattle.c_tree.specs.Rounds.{CallsAmong, IsWay}
use Rattle.c_tree.specs.TypedTree.{ProgramTree}
use Rattle.c_tree.specs.WellFormedProgram.{program_calls}

-- a function is another, or reaches it by calls
abbrev pub Reaches : ProgramTree → ℕ → ℕ → Type 0
Reaches p f g = (ms : List ℕ) × IsWay (CallsAmong (program_calls p.functions)) f ms g

-- of two that are active at once one reaches the other
abbrev pub CanMeet : ProgramTree → ℕ → ℕ → Type 0
CanMeet p f g = Reaches p f g ⊎ Reaches p g f
