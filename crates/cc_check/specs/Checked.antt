-- The frames that bytes say, checked one by one (docs/COMMANDS.md, "check").
use Rattle.std.specs.Prelude.{◌≡◌, ℕ, Bool, false, List, length, slice_index_or, All}
use Rattle.std.specs.List.{flat_map}
use Rattle.c25_isa.specs.Image.{Contents}
use Rattle.lay_cert.specs.Frames.{Frame}
use Rattle.lay_cert.specs.CertReading.{Reads}
use Rattle.lay_cert.specs.FrameReading.{Reading, HasReadFrames}
use Rattle.cc_check.specs.Checks.{OptimalHolds}
use Rattle.cc_check.specs.CheckText.{frame_line, has_frame, all_pass}

-- frames have these lines, pass or not, and are of the functions that are marked; and what is said of optimal ones holds
pub record AreChecked (image : Contents) (fs : List Frame) (lines : List ℕ) (pass : Bool) (marks : List Bool) : Type 0 where
  pub text : lines ≡ flat_map (frame_line image) fs
  pub passes : pass ≡ all_pass image fs
  pub framed : (k : ℕ) → slice_index_or marks k false ≡ has_frame image.functions fs k
  pub optimal : All (OptimalHolds image) fs

-- the frames that are read so far are checked
pub record ChecksRead (image : Contents) (bytes : List ℕ) (reader : Reading) (lines : List ℕ) (pass : Bool) (marks : List Bool) : Type 0 where
  pub frames : List Frame
  pub read : HasReadFrames bytes frames reader
  pub checked : AreChecked image frames lines pass marks
  pub marked : length marks ≡ length image.functions

-- and all are that the bytes say
pub record ChecksAll (image : Contents) (bytes : List ℕ) (lines : List ℕ) (pass : Bool) (marks : List Bool) : Type 0 where
  pub frames : List Frame
  pub reads : Reads bytes frames
  pub checked : AreChecked image frames lines pass marks
