-- What a search answers (docs/LAYOUT.md, "Search"), with every bound computed from scratch.
use Rattle.std.specs.Prelude.{ℕ, zero, suc, max, ◌/◌, ℤ, pos, int_lt, Bool, true, false, not, ◌||◌, List, [], ◌∷◌, ◌++◌, length, map, if◌then◌else◌}
use Rattle.lay_model.specs.Sequences.{Sequence}
use Rattle.lay_cost.specs.Cost.{arranged_cost}
use Rattle.lay_cost.specs.Parts.{Node, node_lists}
use Rattle.lay_tree.specs.declared.answer.Mark.{Mark}
use Rattle.lay_tree.specs.declared.answer.Mark.TheVariants.{Branched, Closed}
use Rattle.lay_tree.specs.declared.answer.Answer.{Answer}
use Rattle.lay_tree.specs.declared.answer.Answer.TheVariants.{Certified, Exhausted}
use Rattle.lay_tree.specs.Tree.{root, is_complete, children}
use Rattle.lay_tree.specs.Bound.{bound}
use Rattle.lay_tree.specs.Greedy.{cheapest, starting_lists}

-- a bound is at least a cost
abbrev pub reaches : ℤ → ℕ → Bool
reaches b cost = not (int_lt b (pos cost))

-- where visiting some nodes ends: the best layout by then, whether all nodes were visited, and the marks written
pub record Visited : Type 0 where
  pub best : List (List ℕ)
  pub finished : Bool
  pub marks : List Mark

-- one mark before those
abbrev pub behind : Mark → Visited → Visited
behind mark v = record { best = v.best; finished = v.finished; marks = mark ∷ v.marks }

-- visits nodes and what is below them in preorder, with so many marks to write and the best layout so far. A node whose bound reaches the cost of that one is
-- closed. Else a complete node is the best layout from then on, and is closed. Else its children come next
abbrev pub visit : ℕ → Sequence → ℕ → List Node → List (List ℕ) → Visited
visit k seq marks [] best = record { best = best; finished = true; marks = [] }
visit k seq zero (n ∷ ns) best = record { best = best; finished = false; marks = [] }
visit k seq (suc marks) (n ∷ ns) best = elim (reaches (bound k seq n) (arranged_cost seq best)) [
  | true ↦ behind Closed (visit k seq marks ns best)
  | false ↦ elim (is_complete seq n) [ true ↦ behind Closed (visit k seq marks ns (node_lists n)) | false ↦ behind Branched (visit k seq marks (children k seq n ++ ns) best) ]
]

-- a piece is a child of the root with what is below it
abbrev pub piece_end : ℕ → Sequence → ℕ → List (List ℕ) → Node → Visited
piece_end k seq quota best n = visit k seq quota (n ∷ []) best

-- the pieces of a round begin with the best layout that stood before it. The best one behind them, the lower piece's where two cost the same, stands for the next
pub record Searched : Type 0 where
  pub best : List (List ℕ)
  pub ends : List Visited

abbrev pub with_round : ℕ → Sequence → ℕ → Searched → List Node → Searched
with_round k seq quota s pieces = let ends = map (piece_end k seq quota s.best) pieces in record {
  best = cheapest (arranged_cost seq) s.best (map (λ (v : Visited). v.best) ends);
  ends = s.ends ++ ends;
}

-- rounds of four pieces, in order
abbrev pub rounds : ℕ → Sequence → ℕ → Searched → List Node → Searched
rounds k seq quota s (a ∷ b ∷ c ∷ d ∷ pieces) = rounds k seq quota (with_round k seq quota s (a ∷ b ∷ c ∷ d ∷ [])) pieces
rounds k seq quota s pieces = with_round k seq quota s pieces

-- where all pieces are finished: the marks of the root and of the pieces in order. Else the number, the quota and the marks of the first piece that has nodes left
abbrev pub answer_of : Sequence → ℕ → List (List ℕ) → List Mark → ℕ → List Visited → Answer
answer_of seq quota best marks piece [] = Certified best (arranged_cost seq best) marks
answer_of seq quota best marks piece (v ∷ vs) = if v.finished then answer_of seq quota best (marks ++ v.marks) (suc piece) vs else Exhausted best (arranged_cost seq best) piece quota v.marks

abbrev pub answer_with : ℕ → Sequence → ℕ → Searched → Answer
answer_with k seq quota s = answer_of seq quota s.best (Branched ∷ []) 0 s.ends

-- each piece may write so many marks: its part of the budget, and one at least
abbrev pub quota_of : ℕ → ℕ → ℕ
quota_of budget pieces = max 1 (budget / pieces)

abbrev pub search_pieces : ℕ → Sequence → ℕ → List (List ℕ) → Answer
search_pieces k seq quota start = answer_with k seq quota (rounds k seq quota (record { best = start; ends = [] }) (children k seq root))

-- nothing is to be searched where the root's bound reaches the cost of the starting layout, or the root is complete
abbrev pub is_settled : ℕ → Sequence → List (List ℕ) → Bool
is_settled k seq start = reaches (bound k seq root) (arranged_cost seq start) || is_complete seq root

abbrev pub search_from : ℕ → Sequence → ℕ → List (List ℕ) → Answer
search_from k seq budget start = elim (is_settled k seq start) [
  | true ↦ Certified start (arranged_cost seq start) (Closed ∷ [])
  | false ↦ search_pieces k seq (quota_of budget (length (children k seq root))) start
]

-- over k registers, with so many marks to write
abbrev pub search_answer : ℕ → Sequence → ℕ → Answer
search_answer k seq budget = search_from k seq budget (starting_lists k seq)

-- the layout that an answer has, and what it says that it costs
abbrev pub answer_lists : Answer → List (List ℕ)
answer_lists (Certified lists cost log) = lists
answer_lists (Exhausted lists cost piece quota log) = lists

abbrev pub answer_cost : Answer → ℕ
answer_cost (Certified lists cost log) = cost
answer_cost (Exhausted lists cost piece quota log) = cost

abbrev pub is_certified : Answer → Bool
is_certified (Certified lists cost log) = true
is_certified (Exhausted lists cost piece quota log) = false
