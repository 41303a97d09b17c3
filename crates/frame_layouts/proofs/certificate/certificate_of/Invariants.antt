-- The frames that are made with those that are left are all, and each one that is left is one.
use Rattle.std.proofs.Common.{◌≡◌, ◌++◌}
use Rattle.std.specs.Prelude.{All}
use Rattle.std.specs.Vec.Iter.{into_iter_items}
use Rattle.lay_cert.specs.Frames.{IsFrame}
use Rattle.frame_layouts.specs.Frames.{frames_with}
use Rattle.frame_layouts.proofs.certificate.certificate_of.Given as goal

abbrev pub invariant-loop-finding : goal.invariant-loop-finding
invariant-loop-finding l = record {
  frames : l.frames.items ++ frames_with (into_iter_items l.finding-iterator) (into_iter_items l.arrangements) l.rest ≡ frames_with l.fn.layouts.findings.items l.fn.layouts.arrangements.items l.plans;
  each : All IsFrame (frames_with (into_iter_items l.finding-iterator) (into_iter_items l.arrangements) l.rest);
}
