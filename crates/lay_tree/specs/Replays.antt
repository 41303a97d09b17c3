-- A log shows that no layout costs less than a number (docs/LAYOUT.md, "Replay").
use Rattle.std.specs.Prelude.{◌≡◌, ℕ, suc, ℤ, true, false, List, [], ◌∷◌, ◌++◌}
use Rattle.lay_model.specs.Sequences.{Sequence}
use Rattle.lay_cost.specs.Parts.{Node}
use Rattle.lay_tree.specs.declared.answer.Mark.{Mark}
use Rattle.lay_tree.specs.declared.answer.Mark.TheVariants.{Branched, Closed}
use Rattle.lay_tree.specs.Tree.{root, is_complete, children}
use Rattle.lay_tree.specs.Bound.{bound}
use Rattle.lay_tree.specs.Search.{reaches}

-- what comes of going over a log: it fits the tree; or the first node where it doesn't, in the order of the marks from 0: a closed one whose bound is below
-- the cost, with its bound; or one whose mark is missing, is `Branched` where the node is complete, or is left over
pub data Replay : Type 0 where
  Fits : Replay
  IsTooLow : ℕ → ℤ → Replay
  HasNoShape : ℕ → Replay

-- the marks of nodes and of what is below them, in preorder, from a number on
abbrev pub replay_from : ℕ → Sequence → ℕ → ℕ → List Node → List Mark → Replay
replay_from k seq c at [] [] = Fits
replay_from k seq c at [] (mark ∷ marks) = HasNoShape at
replay_from k seq c at (n ∷ ns) [] = HasNoShape at
replay_from k seq c at (n ∷ ns) (Closed ∷ marks) = elim (reaches (bound k seq n) c) [ true ↦ replay_from k seq c (suc at) ns marks | false ↦ IsTooLow at (bound k seq n) ]
replay_from k seq c at (n ∷ ns) (Branched ∷ marks) = elim (is_complete seq n) [ true ↦ HasNoShape at | false ↦ replay_from k seq c (suc at) (children k seq n ++ ns) marks ]

abbrev pub replay : ℕ → Sequence → ℕ → List Mark → Replay
replay k seq c marks = replay_from k seq c 0 (root ∷ []) marks

-- the marks are a preorder of a part of the tree that contains the root: all children of a branched node follow in order, each closed node has a bound of at
-- least c, and no mark is left over
abbrev pub Replays : ℕ → Sequence → ℕ → List Mark → Type 0
Replays k seq c marks = replay k seq c marks ≡ Fits
