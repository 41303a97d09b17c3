-- Rounds of pieces.
use Rattle.std.specs.Prelude.{◌≡◌, ℕ, min, ◌-◌, nat_lt, List, map, All, if◌then◌else◌}
use Rattle.std.specs.List.{range_with_len}
use Rattle.lay_model.specs.Sequences.{Sequence}
use Rattle.lay_model.specs.Arrangements.{Arranges}
use Rattle.lay_cost.specs.Cost.{arranged_cost}
use Rattle.lay_cost.specs.Parts.{Node}
use Rattle.lay_tree.specs.declared.answer.PieceEnd.{PieceEnd}
use Rattle.lay_tree.specs.Tree.{root, with_scalar}
use Rattle.lay_tree.specs.Search.{Visited, piece_end}
use Rattle.lay_search.specs.declared.rounds.Best.{Best}

-- the visit whose end it is
abbrev pub visited_of : PieceEnd → Visited
visited_of e = record { best = e.arrangement; finished = e.finished; marks = e.log }

-- an end of a piece has an arrangement, and says what it costs
pub record EndsWell (seq : Sequence) (e : PieceEnd) : Type 0 where
  pub arranges : Arranges seq.scalars e.arrangement
  pub cost : e.cost ≡ arranged_cost seq e.arrangement

-- the best layout so far is one, and costs what it says
pub record IsBest (seq : Sequence) (b : Best) : Type 0 where
  pub arranges : Arranges seq.scalars b.arrangement
  pub cost : b.cost ≡ arranged_cost seq b.arrangement

-- the children of the root with so many scalars from one on
abbrev pub pieces_from : ℕ → ℕ → List Node
pieces_from first count = map (with_scalar root) (range_with_len first count)

-- a piece's best layout is the best one where it costs less
abbrev pub offered : Best → PieceEnd → Best
offered b e = if nat_lt e.cost b.cost then record { arrangement = e.arrangement; cost = e.cost } else b

-- the pieces of a round ended
pub record Ran (k : ℕ) (seq : Sequence) (quota : ℕ) (best : List (List ℕ)) (first count : ℕ) (ends : List PieceEnd) : Type 0 where
  pub visits : map visited_of ends ≡ map (piece_end k seq quota best) (pieces_from first count)
  pub well : All (EndsWell seq) ends

-- how many pieces a round has: four, or those that are left
abbrev pub round_length : ℕ → ℕ → ℕ
round_length first pieces = min 4 (pieces - first)
