use Rattle.std.proofs.Common.{◌-◌, length}
use Rattle.lay_cert.specs.FrameReading.{HasReadFrames}
use Rattle.lay_cert.proofs.reading.read_frames.Given as goal

abbrev pub invariant-loop-frames : goal.invariant-loop-frames
invariant-loop-frames l = HasReadFrames l.bytes l.frames.items l.reader

abbrev pub decreases-loop-frames : goal.decreases-loop-frames
decreases-loop-frames l = length l.bytes - length l.frames.items
