use Rattle.std.proofs.Common.{◌≡◌, ◌++◌, length, drop}
use Rattle.cc_driver.specs.Profile.{profile_rows}
use Rattle.cc_driver.proofs.pbuild.rows.Given as goal

abbrev pub invariant-loop-frame : goal.invariant-loop-frame
invariant-loop-frame l =
    l.rows.items ++ profile_rows (drop (length l.yielded) l.frames) (drop (length l.yielded) l.entered) ≡ profile_rows l.frames l.entered
