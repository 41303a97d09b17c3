-- Words of data memory that can be in use at once are apart (docs/LAYOUT.md, "Data memory"): those of the lists that frames have, as they are stored,
-- from each other and from all else.
use Rattle.std.specs.Prelude.{◌≡◌, ◌<◌, ◌≤◌, ℕ, List, map, slice_get, Some}
use Rattle.std.specs.List.{Contains}
use Rattle.c_tree.specs.TypedTree.{FunctionTree, ProgramTree}
use Rattle.frame_layouts.specs.lay_cert.Frames.{Frame}
use Rattle.frame_layouts.specs.mem_plan.declared.data_plan.DataPlan.{DataPlan}
use Rattle.frame_layouts.specs.mem_plan.declared.data_plan.FramePlan.{FramePlan}
use Rattle.frame_layouts.specs.mem_plan.Plan.{IsPlan}
use Rattle.frame_layouts.specs.mem_plan.Ranges.{KeepApart}
use Rattle.image_proof.specs.FrameWords.{place_of}
use Rattle.image_proof.specs.tree_code_proof.Reaching.{CanMeet}
use Rattle.tree_code.specs.Lowered.{lowered_program}
use Rattle.cc_compile.specs.DataWords.{place_words}

-- by its frame, the function of a number has a scalar at a word
pub record HasScalarAt (frames : List Frame) (k n a : ℕ) : Type 0 where
  pub frame : Frame
  pub there : slice_get frames k ≡ Some frame
  pub below : n < frame.seq.scalars
  pub is : place_of frame.bases frame.arr n ≡ a

-- the words of the lists of all frames
pub record AreListsApart (t : ProgramTree) (frames : List Frame) (plan : DataPlan) : Type 0 where
  -- a word is of one scalar alone among functions that can be active at once
  pub scalars : (k h n m a : ℕ) → CanMeet t k h → HasScalarAt frames k n a → HasScalarAt frames h m a → (k ≡ h) × (n ≡ m)
  -- then it's none of a static object, nor of a local object or the return address of such a function
  pub places : (k h n a : ℕ) (g : FunctionTree) (at : FramePlan) → CanMeet t k h → HasScalarAt frames k n a
      → slice_get t.functions h ≡ Some g → slice_get plan.frames h ≡ Some at → ¬ Contains (place_words t plan g at) a
  -- and it lies in RAM, at 0310h at least, since scratch words lie below
  pub in_ram : (k n a : ℕ) → HasScalarAt frames k n a → (0x310 ≤ a) × (a < 65536)

-- so it is by each plan of the program that has the lists of frames where these have them
abbrev pub LieApart : ProgramTree → List Frame → Type 0
LieApart t frames =
    (plan : DataPlan) → IsPlan (lowered_program t) (map (λ (f : Frame). f.arr) frames) plan
    → map (λ (f : Frame). f.bases) frames ≡ map (λ (at : FramePlan). at.bases) plan.frames
    → KeepApart (lowered_program t) (map (λ (f : Frame). f.arr) frames) plan × AreListsApart t frames plan
