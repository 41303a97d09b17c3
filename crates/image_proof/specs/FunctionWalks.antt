-- The functions of an image, and what a walk finds in their ranges.
use Rattle.std.specs.Prelude.{◌≡◌, ℕ, List, map, sum_by, slice_get, Some}
use Rattle.tree_code.specs.WordTree.{FunctionCode}
use Rattle.acc_code.specs.AccTree.{FunctionItems}
use Rattle.acc_code.specs.AccSequence.{blocks_of}
use Rattle.mem_plan.specs.declared.data_plan.FramePlan.{FramePlan}
use Rattle.c25_isa.specs.declared.image.FunctionRange.{FunctionRange}
use Rattle.c25_isa.specs.Image.{Contents}
use Rattle.c25_isa.specs.Walk.{Blocks, walk}
use Rattle.c25_isa.specs.AddressCount.{address_count}
use Rattle.lay_cost.specs.Cost.{block_cost}
use Rattle.lay_cost.specs.Placements.{placement_of}
use Rattle.image_proof.specs.Emissions.{Emission}
use Rattle.image_proof.specs.FrameWords.{place_of}

-- a function with its code, its frame and its lists
pub record IsFunctionOf (e : Emission) (k : ℕ) (code : FunctionCode) (g : FunctionItems) (frame : FramePlan) (lists : List (List ℕ)) : Type 0 where
  pub code_at : slice_get e.code.functions k ≡ Some code
  pub items_at : slice_get e.items k ≡ Some g
  pub frame_at : slice_get e.plan.frames k ≡ Some frame
  pub lists_at : slice_get e.arrangements k ≡ Some lists

-- the function has a range in the image. A walk of it finds the accesses of each block where the frame has its scalars, and it has so many address
-- instructions as these blocks cost by the lists of the frame
pub record HasWalk (image : Contents) (k step : ℕ) (g : FunctionItems) (frame : FramePlan) (lists : List (List ℕ)) : Type 0 where
  pub range : FunctionRange
  pub there : slice_get image.functions k ≡ Some range
  pub named : range.name ≡ g.name
  pub walks : walk image.words range.first range.last ≡ Blocks (map (map (place_of frame.bases lists)) (blocks_of g.body))
  pub counts : address_count image.words range.first range.last ≡ sum_by (block_cost step (placement_of lists)) (blocks_of g.body)
