-- Access sequences (docs/LAYOUT.md, "Sequences").
use Rattle.std.specs.Prelude.{ℕ, ◌*◌, ◌^◌, ◌<◌, ◌≤◌, List, length, sum_by, All}

-- accesses of scalars one behind another, and how often they count
pub record Block : Type 0 where
  pub weight : ℕ
  pub accesses : List ℕ

-- how many scalars there are, the step by which a move may be free beside one by 1, and the blocks
pub record Sequence : Type 0 where
  pub scalars : ℕ
  pub step : ℕ
  pub blocks : List Block

pub record IsBlock (b : Block) : Type 0 where
  pub counts : 1 ≤ b.weight
  pub some : 1 ≤ length b.accesses

-- how many accesses count
abbrev pub counted : Block → ℕ
counted b = b.weight * length b.accesses

pub record IsSequence (s : Sequence) : Type 0 where
  pub few : s.scalars ≤ 64
  pub moves : 1 ≤ s.step
  pub near : s.step ≤ 8
  pub blocks : All IsBlock s.blocks
  pub scalars : All (λ b. All (λ scalar. scalar < s.scalars) b.accesses) s.blocks
  pub countable : sum_by counted s.blocks ≤ 2 ^ 60
