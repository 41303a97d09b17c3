-- The ends of pieces.
use Rattle.std.specs.Prelude.{◌≡◌}
use Rattle.lay_model.specs.Sequences.{Sequence}
use Rattle.lay_model.specs.Arrangements.{Arranges}
use Rattle.lay_cost.specs.Cost.{arranged_cost}
use Rattle.lay_tree.specs.declared.answer.PieceEnd.{PieceEnd}
use Rattle.lay_tree.specs.Search.{Visited}

-- the end of a piece says where its visit ends, and what the best layout costs
pub record IsEnd (seq : Sequence) (v : Visited) (end : PieceEnd) : Type 0 where
  pub arrangement : end.arrangement ≡ v.best
  pub arranges : Arranges seq.scalars v.best
  pub cost : end.cost ≡ arranged_cost seq v.best
  pub finished : end.finished ≡ v.finished
  pub marks : end.log ≡ v.marks
