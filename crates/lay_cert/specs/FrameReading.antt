-- How far the reader of a certificate has come, frame by frame (docs/FORMATS.md, "Certificates").
use Rattle.std.specs.Prelude.{◌≡◌, ◌≤◌, ℕ, Bool, List, length}
use Rattle.lay_cert.specs.Frames.{Frame}
use Rattle.lay_cert.specs.CertReading.{Inside, Between}
use Rattle.lay_cert.specs.LineReading.{Cursor, Stands}

-- these lines and so many frames are read, in a version with lines of steps or without them
pub record Reading : Type 0 where
  pub at : Cursor
  pub steps : Bool
  pub frames : ℕ

-- exactly these frames of the bytes are read, and the reader stands between frames
pub record HasReadFrames (bytes : List ℕ) (fs : List Frame) (r : Reading) : Type 0 where
  pub short : length bytes ≤ 536870912
  pub stands : Stands bytes r.at (Inside r.steps fs Between)
  pub counted : length fs ≡ r.frames

-- the reader has read some frames of some bytes
pub record IsReading (r : Reading) : Type 0 where
  pub bytes : List ℕ
  pub read : List Frame
  pub has : HasReadFrames bytes read r
