-- The last line is no other.
use Rattle.std.proofs.Common.{◌≡◌, ◌≢◌, ℕ, get_or, ap, arith}
use Rattle.lay_model.specs.Sequences.{Block}
use Rattle.lay_lines.specs.BlockText.{step_line, block_line}
use Rattle.lay_text.specs.SequenceText.{last_line}

pub block_no_end : (b : Block) → block_line b ≢ last_line
block_no_end b e = let first : ◌≡◌ {A = ℕ} 98 101 = ap (λ l. get_or l 0 0) e in omega arith

pub end_no_step : (d : ℕ) → last_line ≢ step_line d
end_no_step d e = let first : ◌≡◌ {A = ℕ} 101 115 = ap (λ l. get_or l 0 0) e in omega arith
