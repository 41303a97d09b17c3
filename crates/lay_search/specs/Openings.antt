-- How a search begins, and how it ends.
use Rattle.std.specs.Prelude.{◌≡◌, ℕ, suc, true, false, List, [], ◌∷◌, ◌++◌, if◌then◌else◌}
use Rattle.lay_model.specs.Sequences.{Sequence}
use Rattle.lay_cost.specs.Cost.{IsArranged, arranged_cost}
use Rattle.lay_tree.specs.declared.answer.Mark.{Mark}
use Rattle.lay_tree.specs.declared.answer.Mark.TheVariants.{Closed}
use Rattle.lay_tree.specs.declared.answer.PieceEnd.{PieceEnd}
use Rattle.lay_tree.specs.declared.answer.Answer.{Answer}
use Rattle.lay_tree.specs.declared.answer.Answer.TheVariants.{Certified, Exhausted}
use Rattle.lay_tree.specs.Greedy.{starting_lists}
use Rattle.lay_tree.specs.Search.{is_settled, search_pieces, search_answer, quota_of}
use Rattle.lay_search.specs.declared.opening.Opening.{Opening}
use Rattle.lay_search.specs.declared.opening.Opening.TheVariants.{Done, Split}
use Rattle.lay_search.specs.declared.closing.Outcome.{Outcome}
use Rattle.lay_search.specs.declared.closing.Outcome.TheVariants.{AllFinished, Unfinished}

-- the root alone ends the search: its bound reaches what the starting layout costs, or it is complete. The answer is that layout, with the one mark of the root
pub record IsDone (k : ℕ) (seq : Sequence) (budget : ℕ) (answer : Answer) : Type 0 where
  pub settled : is_settled k seq (starting_lists k seq) ≡ true
  pub start : answer ≡ Certified (starting_lists k seq) (arranged_cost seq (starting_lists k seq)) (Closed ∷ [])
  pub answered : answer ≡ search_answer k seq budget

-- the root doesn't end it: the search is that of so many pieces with so many marks each, from the starting layout
pub record IsSplit (k : ℕ) (seq : Sequence) (budget : ℕ) (lists : List (List ℕ)) (costs count marks_at_most : ℕ) : Type 0 where
  pub open_root : is_settled k seq (starting_lists k seq) ≡ false
  pub start : lists ≡ starting_lists k seq
  pub arranged : IsArranged seq k lists
  pub cost : costs ≡ arranged_cost seq lists
  pub pieces : count ≡ seq.scalars
  pub quota : marks_at_most ≡ quota_of budget seq.scalars
  pub answer : search_answer k seq budget ≡ search_pieces k seq marks_at_most lists

abbrev pub Opens : ℕ → Sequence → ℕ → Opening → Type 0
Opens k seq budget (Done answer) = IsDone k seq budget answer
Opens k seq budget (Split lists costs count marks_at_most) = IsSplit k seq budget lists costs count marks_at_most

-- what the ends of pieces show: all marks in order behind some, or the number and the marks of the first piece that has nodes left
abbrev pub outcome_of : List Mark → ℕ → List PieceEnd → Outcome
outcome_of marks piece [] = AllFinished marks
outcome_of marks piece (e ∷ es) = if e.finished then outcome_of (marks ++ e.log) (suc piece) es else Unfinished piece e.log

-- the answer with a best layout
abbrev pub answer_by : ℕ → List (List ℕ) → ℕ → Outcome → Answer
answer_by quota lists cost (AllFinished marks) = Certified lists cost marks
answer_by quota lists cost (Unfinished piece marks) = Exhausted lists cost piece quota marks
