-- What the words of a function are where its frame is optimal (docs/COMMANDS.md, "check").
use Rattle.std.specs.Prelude.{◌≡◌, ℕ, Some}
use Rattle.c25_isa.specs.declared.image.FunctionRange.{FunctionRange}
use Rattle.c25_isa.specs.Image.{Contents}
use Rattle.c25_isa.specs.Walk.{Blocks, walk}
use Rattle.c25_isa.specs.AddressCount.{address_count}
use Rattle.lay_cost.specs.Cost.{Least}
use Rattle.lay_cert.specs.Frames.{Frame}
use Rattle.cc_check.specs.declared.finding.Finding.TheVariants.{Optimal}
use Rattle.cc_check.specs.Findings.{expected_blocks, function_of, finding_of}

-- over the range of its function the walk is the frame's sequence at its bases, with so many address instructions, and no layout over the frame's registers costs
-- less than that
pub record IsOptimalIn (image : Contents) (f : Frame) (cost : ℕ) : Type 0 where
  pub range : FunctionRange
  pub named : function_of image.functions f.name ≡ Some range
  pub walks : walk image.words range.first range.last ≡ Blocks (expected_blocks f)
  pub counts : address_count image.words range.first range.last ≡ cost
  pub least : Least f.seq f.registers cost

-- that is so wherever the frame is found to be optimal
pub record OptimalHolds (image : Contents) (f : Frame) : Type 0 where
  pub by : (cost : ℕ) → finding_of image f ≡ Optimal cost → IsOptimalIn image f cost
