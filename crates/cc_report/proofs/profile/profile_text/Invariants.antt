use Rattle.std.proofs.Common.{◌≡◌, ◌++◌, drop}
use Rattle.cc_report.specs.Profile.{profile_lines}
use Rattle.cc_report.proofs.profile.profile_text.Given as goal

abbrev pub invariant-loop-row : goal.invariant-loop-row
invariant-loop-row l = l.text.items ++ profile_lines (drop l.row-index l.rows) ≡ profile_lines l.rows
