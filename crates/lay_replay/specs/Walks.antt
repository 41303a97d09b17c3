-- A walk over the tree by a log.
use Rattle.std.specs.Prelude.{◌≡◌, ℕ, ◌+◌, List, ◌∷◌, ◌++◌, drop, length}
use Rattle.lay_model.specs.Sequences.{Sequence}
use Rattle.lay_cost.specs.Parts.{Node}
use Rattle.lay_tree.specs.declared.answer.Mark.{Mark}
use Rattle.lay_tree.specs.Replays.{Replay, replay_from}
use Rattle.lay_node.specs.Positions.{here, SameBelow}
use Rattle.lay_replay.specs.declared.verdict.Fault.{Fault}
use Rattle.lay_replay.specs.declared.walk.Walk.{Walk}
use Rattle.lay_replay.specs.LogVerdicts.{replay_at}

-- what comes of the marks from a number on, with these nodes to come
abbrev pub from_mark : ℕ → Sequence → ℕ → List Mark → ℕ → List Node → Replay
from_mark k seq c marks at ns = replay_from k seq c at ns (drop at marks)

-- the marks from one on to before another fit these nodes and what is below them, so what comes of the log is what comes of the rest of it
abbrev pub FitTo : ℕ → Sequence → ℕ → List Mark → List Node → ℕ → ℕ → Type 0
FitTo k seq c marks ns at to = (rest : List Node) → from_mark k seq c marks at (ns ++ rest) ≡ from_mark k seq c marks to rest

-- or one of them doesn't, whatever comes behind these nodes
abbrev pub FailAt : ℕ → Sequence → ℕ → List Mark → List Node → ℕ → Fault → Type 0
FailAt k seq c marks ns at fault = (rest : List Node) → from_mark k seq c marks at (ns ++ rest) ≡ replay_at fault

-- the next mark was read
pub record Reads (marks : List Mark) (mark : Mark) (old new : Walk) : Type 0 where
  pub is : drop old.next marks ≡ mark ∷ drop new.next marks
  pub next : new.next ≡ old.next + 1
  pub place : new.position ≡ old.position

-- the marks of some nodes and of what is below them fit, and it knows what it did where fewer lists than a number are closed
pub record Fits (closes : ℕ) (seq : Sequence) (c : ℕ) (marks : List Mark) (ns : List Node) (old new : Walk) : Type 0 where
  pub fit : FitTo old.position.registers seq c marks ns old.next new.next
  pub place : SameBelow closes old.position new.position

-- or they don't, and there is still a level for each number of closed lists
pub record Fails (seq : Sequence) (c : ℕ) (marks : List Mark) (ns : List Node) (old new : Walk) (fault : Fault) : Type 0 where
  pub fail : FailAt old.position.registers seq c marks ns old.next fault
  pub registers : new.position.registers ≡ old.position.registers
  pub count : length new.position.levels.items ≡ length old.position.levels.items

-- of the lists that are closed where it was, and the open one
abbrev pub FitsHere : Sequence → ℕ → List Mark → List Node → Walk → Walk → Type 0
FitsHere seq c marks ns old new = Fits (length (here old.position).closed + 1) seq c marks ns old new
