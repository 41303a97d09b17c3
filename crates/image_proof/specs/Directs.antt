-- The words of data memory that direct operands of a function may name, by the plan of its program.
use Rattle.std.specs.Prelude.{◌≡◌, ℕ, suc, List, [], ◌∷◌, ◌++◌, map, slice_get, Option, option_to_list, Some, None}
use Rattle.tree_code.specs.WordTree.{FunctionCode}
use Rattle.acc_code.specs.AccTree.{FunctionItems}
use Rattle.image_proof.specs.acc_select.IsSelected.{called_parameters}
use Rattle.mem_plan.specs.declared.data_plan.FramePlan.{FramePlan}
use Rattle.c25_isa.specs.declared.image.FunctionRange.{FunctionRange}
use Rattle.c25_isa.specs.Direct.{Direct}
use Rattle.c25_isa.specs.Image.{Contents}
use Rattle.image_proof.specs.Emissions.{Emission}
use Rattle.image_proof.specs.ActiveSites.{parameters_of}
use Rattle.image_proof.specs.FrameWords.{numbers_from, object_words, place_of}
use Rattle.image_proof.specs.FunctionWalks.{IsFunctionOf}

-- the words of a function's frame, of each scalar
abbrev pub own_words : FunctionCode → FramePlan → List (List ℕ) → List ℕ
own_words code frame lists = map (place_of frame.bases lists) (numbers_from 0 code.scalars)

-- those of static objects, of its own local ones, and of its return address
abbrev pub place_words : Emission → FunctionCode → FramePlan → List ℕ
place_words e code frame = object_words e.plan.statics e.code.statics ++ (object_words frame.locals code.locals ++ option_to_list frame.back)

-- the words of parameters of functions, of those from a number on that it calls
abbrev pub given_of : Option ℕ → List ℕ → List ℕ
given_of None words = []
given_of (Some count) words = words

abbrev pub given_from : (ℕ → Option ℕ) → ℕ → List (List ℕ) → List ℕ
given_from called f [] = []
given_from called f (words ∷ rest) = given_of (called f) words ++ given_from called (suc f) rest

abbrev pub given_words : Emission → FunctionCode → List ℕ
given_words e code = given_from (called_parameters e.code code) 0 (parameters_of e)

-- the function has a range in the image, whose direct operands name these words alone, and none of its scalars
pub record HasDirect (e : Emission) (image : Contents) (k : ℕ) (code : FunctionCode) (frame : FramePlan) (lists : List (List ℕ)) : Type 0 where
  pub range : FunctionRange
  pub there : slice_get image.functions k ≡ Some range
  pub direct : Direct image.words range.first range.last (own_words code frame lists) (place_words e code frame) (given_words e code)

-- so it is of each function
abbrev pub AreDirect : Emission → Contents → Type 0
AreDirect e image = (k : ℕ) (code : FunctionCode) (g : FunctionItems) (frame : FramePlan) (lists : List (List ℕ)) → IsFunctionOf e k code g frame lists → HasDirect e image k code frame lists
