use Rattle.std.proofs.Common.{ℕ, Bool, List}
use Rattle.lay_cert.specs.Frames.{Frame}
use Rattle.lay_cert.specs.CertReading.{Inside, Marking, marked}
use Rattle.lay_cert.specs.LineReading.{Stands}
use Rattle.lay_cert.proofs.frames.read_mark_lines.Given as goal

abbrev pub invariant-loop-left : goal.invariant-loop-left
invariant-loop-left l = (bytes : List ℕ) (steps : Bool) (fs : List Frame) (f : Frame) → Stands bytes l.initial.lines (Inside steps fs (Marking f l.count)) → Stands bytes l.lines (Inside steps fs (Marking (marked f l.marks.items) l.left))

abbrev pub decreases-loop-left : goal.decreases-loop-left
decreases-loop-left l = l.left
