-- The frames that are read so far are checked, walks that are kept are those of functions, and no more than the most bytes are read.
use Rattle.std.proofs.Common.{◌-◌}
use Rattle.cc_check.specs.Checked.{ChecksRead}
use Rattle.cc_check.specs.Kept.{AreKept}
use Rattle.cc_check.proofs.checking.check_frames.Given as goal

abbrev pub invariant-loop-checked : goal.invariant-loop-checked
invariant-loop-checked l = record {
  reads : ChecksRead l.image l.certificate l.reader l.checked.text.items l.checked.passes l.framed;
  walks : AreKept l.image l.walks.kept.items;
}

abbrev pub decreases-loop-checked : goal.decreases-loop-checked
decreases-loop-checked l = 536870912 - l.reader.frames
