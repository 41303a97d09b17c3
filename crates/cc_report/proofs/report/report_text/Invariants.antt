use Rattle.std.proofs.Common.{◌≡◌, ◌++◌, drop}
use Rattle.cc_report.specs.Report.{report_lines}
use Rattle.cc_report.proofs.report.report_text.Given as goal

abbrev pub invariant-loop-row : goal.invariant-loop-row
invariant-loop-row l = l.text.items ++ report_lines (drop l.row-index l.rows) ≡ report_lines l.rows
