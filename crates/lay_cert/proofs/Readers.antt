-- Reading frame by frame.
use Rattle.std.proofs.Common.{◌≡◌, ℕ, ◌+◌, ◌≤◌, Bool, List, [], ◌∷◌, ◌++◌, length, sym, subst, arith, length-append}
use Rattle.std.proofs.Math.Seq.{get_or-append_seam}
use Rattle.lay_cert.specs.Frames.{Frame, IsWhole}
use Rattle.lay_cert.specs.CertReading.{Inside, Between}
use Rattle.lay_cert.specs.LineReading.{Cursor, Stands}
use Rattle.lay_cert.specs.FrameReading.{Reading, HasReadFrames, IsReading}
use Rattle.lay_cert.proofs.FrameEnds.{frames_few}
use Rattle.lay_cert.proofs.Spelling.{stands_whole}

-- there are no more frames than bytes
pub read_few : (bytes : List ℕ) (fs : List Frame) (r : Reading) → HasReadFrames bytes fs r → r.frames ≤ length bytes
read_few bytes fs r h = omega (arith, h.counted, frames_few bytes r.at.number r.at.text r.steps fs Between h.stands)

-- no frame is read
pub none_read : (bytes : List ℕ) (at : Cursor) (steps : Bool) → length bytes ≤ 536870912 → Stands bytes at (Inside steps [] Between) → HasReadFrames bytes [] (record { at = at; steps = steps; frames = 0 })
none_read bytes at steps short stands = record { short = short; stands = stands; counted = omega arith }

-- where the reader stands
pub stands_at : (bytes : List ℕ) (fs : List Frame) (r known : Reading) (at : Cursor) → r ≡ known → at ≡ r.at → HasReadFrames bytes fs known → Stands bytes at (Inside r.steps fs Between)
stands_at bytes fs r known at is here h = subst (λ k. Stands bytes k (Inside r.steps fs Between)) (sym here) (subst (HasReadFrames bytes fs) (sym is) h).stands

-- one more is
pub one_read : (bytes : List ℕ) (fs : List Frame) (f : Frame) (r : Reading) (at : Cursor) → HasReadFrames bytes fs r → Stands bytes at (Inside r.steps (fs ++ f ∷ []) Between) → HasReadFrames bytes (fs ++ f ∷ []) (record { at = at; steps = r.steps; frames = r.frames + 1 })
one_read bytes fs f r at h stands = record { short = h.short; stands = stands; counted = omega (arith, h.counted, length-append fs (f ∷ [])) }

pub some_read : (bytes : List ℕ) (fs : List Frame) (r : Reading) → HasReadFrames bytes fs r → IsReading r
some_read bytes fs r h = record { bytes = bytes; read = fs; has = h }

-- the numbers of the last frame have their bits
pub last_whole : (bytes : List ℕ) (fs : List Frame) (f : Frame) (at : Cursor) (steps : Bool) → Stands bytes at (Inside steps (fs ++ f ∷ []) Between) → IsWhole f
last_whole bytes fs f at steps stands =
    let whole = stands_whole bytes at.number at.text steps (fs ++ f ∷ []) Between stands in
    subst IsWhole (get_or-append_seam fs f [] f) (whole (length fs) f (omega (arith, length-append fs (f ∷ []))))
