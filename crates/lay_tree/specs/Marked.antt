-- Which nodes there are, and which one a mark is for (docs/LAYOUT.md, "Tree").
use Rattle.std.specs.Prelude.{◌≡◌, ◌<◌, ◌≤◌, ℕ, suc, Bool, true, false, List, [], ◌∷◌, ◌++◌, length, map, All}
use Rattle.lay_model.specs.Sequences.{Sequence}
use Rattle.lay_cost.specs.Cost.{arranged_cost}
use Rattle.lay_cost.specs.Parts.{Node}
use Rattle.lay_tree.specs.declared.answer.Mark.{Mark}
use Rattle.lay_tree.specs.declared.answer.Mark.TheVariants.{Branched, Closed}
use Rattle.lay_tree.specs.Tree.{root, with_scalar, is_complete, children}
use Rattle.lay_tree.specs.Bound.{bound}
use Rattle.lay_tree.specs.Greedy.{starting_lists}
use Rattle.lay_tree.specs.Search.{reaches, quota_of}

-- these nodes and all below them are so many
pub data HaveNodes (k : ℕ) (seq : Sequence) : List Node → ℕ → Type 0 where
  none : HaveNodes k seq [] 0
  leaf : (n : Node) (ns : List Node) (count : ℕ) → is_complete seq n ≡ true → HaveNodes k seq ns count → HaveNodes k seq (n ∷ ns) (suc count)
  inner : (n : Node) (ns : List Node) (count : ℕ) → is_complete seq n ≡ false → HaveNodes k seq (children k seq n ++ ns) count → HaveNodes k seq (n ∷ ns) (suc count)

-- a node and all below it are at most so many
pub record HasAtMost (k : ℕ) (seq : Sequence) (n : Node) (most : ℕ) : Type 0 where
  pub count : ℕ
  pub nodes : HaveNodes k seq (n ∷ []) count
  pub few : count ≤ most

-- the tree has at most so many nodes, and each piece at most so many
pub record HasFewNodes (k : ℕ) (seq : Sequence) (in_tree in_piece : ℕ) : Type 0 where
  pub tree : HasAtMost k seq root in_tree
  pub pieces : (s : ℕ) → s < seq.scalars → HasAtMost k seq (with_scalar root s) in_piece

-- the nodes that marks are for, with their marks, in preorder: the children of a branched node follow it
abbrev pub marked : ℕ → Sequence → List Node → List Mark → List (Node × Mark)
marked k seq ns [] = []
marked k seq [] (mark ∷ marks) = []
marked k seq (n ∷ ns) (Closed ∷ marks) = (n, Closed) ∷ marked k seq ns marks
marked k seq (n ∷ ns) (Branched ∷ marks) = (n, Branched) ∷ marked k seq (children k seq n ++ ns) marks

-- where a node is branched, its bound is below a cost
abbrev pub BranchesBelow : ℕ → Sequence → ℕ → Node × Mark → Type 0
BranchesBelow k seq cost m = m.1 ≡ Branched → reaches (bound k seq m.0) cost ≡ false

-- each mark of a log is for one of these nodes or one below them, and the bound of each branched node is below a cost
pub record IsLogBelow (k : ℕ) (seq : Sequence) (cost : ℕ) (ns : List Node) (log : List Mark) : Type 0 where
  pub each : map (λ m. m.1) (marked k seq ns log) ≡ log
  pub branched : All (BranchesBelow k seq cost) (marked k seq ns log)

-- what an exhausted answer says of a piece: there is a piece for each scalar, this one wrote as many marks as it might, and branched no node whose bound
-- reaches what the starting layout costs
pub record IsUnfinished (k : ℕ) (seq : Sequence) (budget piece quota : ℕ) (log : List Mark) : Type 0 where
  pub piece_is : piece < seq.scalars
  pub quota_is : quota ≡ quota_of budget seq.scalars
  pub full : length log ≡ quota
  pub below : IsLogBelow k seq (arranged_cost seq (starting_lists k seq)) (with_scalar root piece ∷ []) log
