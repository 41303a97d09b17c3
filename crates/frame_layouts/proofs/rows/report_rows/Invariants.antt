use Rattle.std.proofs.Common.{◌≡◌, map, take}
use Rattle.frame_layouts.specs.Rows.{row_of}
use Rattle.frame_layouts.proofs.rows.report_rows.Given as goal

abbrev pub invariant-loop-frame : goal.invariant-loop-frame
invariant-loop-frame l = l.told.items ≡ map row_of (take l.frame-index l.frames)
