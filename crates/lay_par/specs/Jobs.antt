-- Jobs.
use Rattle.std.specs.Prelude.{ℕ}
use Rattle.lay_model.specs.Sequences.{Sequence}

-- an arrangement of the sequence over so many registers is wanted, with so many marks to write
pub record Job : Type 0 where
  pub sequence : Sequence
  pub registers : ℕ
  pub budget : ℕ
