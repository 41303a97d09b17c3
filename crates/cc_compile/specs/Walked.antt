-- What the words of functions access, by walks over their ranges, and what their frames are laid out for.
use Rattle.std.specs.Prelude.{◌≡◌, ℕ, List, map, slice_get, Some}
use Rattle.c_tree.specs.TypedTree.{ProgramTree}
use Rattle.c25_isa.specs.declared.image.FunctionRange.{FunctionRange}
use Rattle.c25_isa.specs.AddressCount.{address_count}
use Rattle.c25_isa.specs.Image.{Contents}
use Rattle.c25_isa.specs.Walk.{Blocks, walk}
use Rattle.lay_model.specs.Sequences.{Sequence}
use Rattle.frame_layouts.specs.lay_cert.Frames.{Frame}
use Rattle.frame_layouts.specs.lay_cost.Cost.{arranged_cost}
use Rattle.image_proof.specs.acc_select_proof.SourceSequences.{source_sequence}
use Rattle.image_proof.specs.FrameWords.{place_of}

-- frames are laid out for the accesses of a program's functions, in order
abbrev pub AccessAs : ℕ → ProgramTree → List Frame → Type 0
AccessAs step t frames = map (λ (f : Frame). f.seq) frames ≡ map (source_sequence step) t.functions

-- a frame of a number: the function of that number has a range in the image. A walk of it finds these accesses, each scalar where the frame has it, and
-- it has so many address instructions as they cost by the frame's layout
pub record IsWalkedAs (image : Contents) (k : ℕ) (accesses : Sequence) (f : Frame) : Type 0 where
  pub range : FunctionRange
  pub there : slice_get image.functions k ≡ Some range
  pub named : range.name ≡ f.name
  pub walks : walk image.words range.first range.last ≡ Blocks (map (λ b. map (place_of f.bases f.arr) b.accesses) accesses.blocks)
  pub counts : address_count image.words range.first range.last ≡ arranged_cost accesses f.arr

abbrev pub AreWalkedAs : Contents → List Sequence → List Frame → Type 0
AreWalkedAs image sequences frames = (k : ℕ) (s : Sequence) (f : Frame) → slice_get sequences k ≡ Some s → slice_get frames k ≡ Some f → IsWalkedAs image k s f

-- a frame of a number: the function of that number has a range in the image. A walk of it finds the accesses of the frame, each scalar where the frame
-- has it, and it has so many address instructions as the frame costs
pub record IsWalked (image : Contents) (k : ℕ) (f : Frame) : Type 0 where
  pub range : FunctionRange
  pub there : slice_get image.functions k ≡ Some range
  pub named : range.name ≡ f.name
  pub walks : walk image.words range.first range.last ≡ Blocks (map (λ b. map (place_of f.bases f.arr) b.accesses) f.seq.blocks)
  pub counts : address_count image.words range.first range.last ≡ f.cost

abbrev pub AreWalked : Contents → List Frame → Type 0
AreWalked image frames = (k : ℕ) (f : Frame) → slice_get frames k ≡ Some f → IsWalked image k f
