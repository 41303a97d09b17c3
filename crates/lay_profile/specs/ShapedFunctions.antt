-- Functions of which an image has the shape, with their accesses and the places of their blocks.
use Rattle.std.specs.Prelude.{◌≡◌, ℕ, ◌<◌, ◌^◌, List, length, slice_get, Some}
use Rattle.c25_isa.specs.Image.{Contents}
use Rattle.c25_walk.specs.Places.{places_of}
use Rattle.acc_code.specs.AccTree.{FunctionItems}
use Rattle.cc_compile.specs.image_proof.acc_select_proof.SourceSequences.{at_step}
use Rattle.lay_profile.specs.declared.shapes.Shaped.{Shaped}
use Rattle.lay_profile.specs.Shapes.{HasShape}
use Rattle.lay_profile.specs.Weighing.{accesses_in}

-- the function of a number
pub record IsShaped (image : Contents) (k : ℕ) (f : FunctionItems) (s : Shaped) : Type 0 where
  pub shape : HasShape image k (at_step 1 f)
  pub accesses : s.accesses ≡ at_step 1 f
  pub places : places_of image k ≡ Some s.places.items
  pub one_each : length s.places.items ≡ length s.accesses.blocks

-- functions in order
pub record AreShaped (image : Contents) (fs : List FunctionItems) (all : List Shaped) : Type 0 where
  pub count : length all ≡ length fs
  pub each : (k : ℕ) (f : FunctionItems) (s : Shaped) → slice_get fs k ≡ Some f → slice_get all k ≡ Some s → IsShaped image k f s

-- a function whose blocks have places in an image, one each, and not too many accesses for a weighed sequence
pub record IsPlaced (image : Contents) (k : ℕ) (s : Shaped) : Type 0 where
  pub places : places_of image k ≡ Some s.places.items
  pub one_each : length s.places.items ≡ length s.accesses.blocks
  pub short : accesses_in s.accesses.blocks < 2 ^ 32

abbrev pub ArePlaced : Contents → List Shaped → Type 0
ArePlaced image all = (k : ℕ) (s : Shaped) → slice_get all k ≡ Some s → IsPlaced image k s
