-- The words of data memory that the code of a function may name directly, by a plan and by the frames of a certificate (docs/LAYOUT.md, "Data
-- memory"; docs/MACHINE.md, "Walks").
use Rattle.std.specs.Prelude.{◌≡◌, ℕ, suc, Bool, if◌then◌else◌, List, [], ◌∷◌, ◌++◌, map, slice_get, Some, option_to_list}
use Rattle.c_tree.specs.TypedTree.{FunctionTree, ProgramTree}
use Rattle.c_tree.specs.Uses.{called, statement_uses}
use Rattle.c25_isa.specs.declared.image.FunctionRange.{FunctionRange}
use Rattle.c25_isa.specs.Direct.{Direct, is_among}
use Rattle.c25_isa.specs.Image.{Contents}
use Rattle.frame_layouts.specs.lay_cert.Frames.{Frame}
use Rattle.frame_layouts.specs.mem_plan.declared.data_plan.DataPlan.{DataPlan}
use Rattle.frame_layouts.specs.mem_plan.declared.data_plan.FramePlan.{FramePlan}
use Rattle.image_proof.specs.FrameWords.{numbers_from, object_words, place_of}
use Rattle.image_proof.specs.frame_emit.Frames.{parameter_address}

-- the words of a frame's scalars
abbrev pub scalar_words : Frame → List ℕ
scalar_words f = map (place_of f.bases f.arr) (numbers_from 0 f.seq.scalars)

-- those of static objects, of a function's local objects, and of its return address
abbrev pub place_words : ProgramTree → DataPlan → FunctionTree → FramePlan → List ℕ
place_words t plan g at = object_words plan.statics t.statics ++ (object_words at.locals g.locals ++ option_to_list at.back)

-- those of a function's parameters
abbrev pub parameter_words : FunctionTree → Frame → FramePlan → List ℕ
parameter_words g f at = map (parameter_address f.arr at) g.params

-- of functions from this number on, those of the parameters of each that is called
abbrev pub given_from : (ℕ → Bool) → ℕ → List FunctionTree → List Frame → List FramePlan → List ℕ
given_from calls k (g ∷ gs) (f ∷ fs) (at ∷ more) = (if calls k then parameter_words g f at else []) ++ given_from calls (suc k) gs fs more
given_from calls k gs fs more = []

-- the words of the parameters of all functions that a function calls
abbrev pub given_words : ProgramTree → DataPlan → List Frame → FunctionTree → List ℕ
given_words t plan frames g = given_from (λ n. is_among n (called (statement_uses g.body))) 0 t.functions frames plan.frames

-- the function of a number has a range in the image, whose direct operands name these words alone, and none of its scalars
pub record NamesDirectly (t : ProgramTree) (plan : DataPlan) (image : Contents) (frames : List Frame) (k : ℕ) (g : FunctionTree) (f : Frame) (at : FramePlan) : Type 0 where
  pub range : FunctionRange
  pub there : slice_get image.functions k ≡ Some range
  pub direct : Direct image.words range.first range.last (scalar_words f) (place_words t plan g at) (given_words t plan frames g)

-- so it is of each function
abbrev pub AllNameDirectly : ProgramTree → DataPlan → Contents → List Frame → Type 0
AllNameDirectly t plan image frames =
    (k : ℕ) (g : FunctionTree) (f : Frame) (at : FramePlan) → slice_get t.functions k ≡ Some g → slice_get frames k ≡ Some f → slice_get plan.frames k ≡ Some at
    → NamesDirectly t plan image frames k g f at
