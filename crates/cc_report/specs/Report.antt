-- The lines of a report (docs/FORMATS.md, "Reports").
use Rattle.std.specs.Prelude.{ℕ, Bool, List, [], ◌∷◌, ◌++◌, codes, decimal, if◌then◌else◌}
use Rattle.std.specs.List.{flat_map}
use Rattle.cc_report.specs.declared.report.ReportRow.{ReportRow}

-- a number and the word behind it
abbrev pub count : ℕ → List ℕ → List ℕ
count number word = decimal number ++ word

-- whether no layout takes fewer, or it is the best one that was found
abbrev pub claim : Bool → List ℕ
claim optimal = if optimal then codes "optimal" else codes "best"

-- the four numbers of a function
abbrev pub counts : ReportRow → List ℕ
counts r = count r.scalars (codes " scalars, ") ++ (count r.registers (codes " registers, ") ++ (count r.accesses (codes " accesses, ") ++ count r.cost (codes " address instructions, ")))

-- the line of a function, with its line feed
abbrev pub report_line : ReportRow → List ℕ
report_line r = r.name ++ (codes ": " ++ (counts r ++ (claim r.optimal ++ 10 ∷ [])))

-- a line for each row, in order
abbrev pub report_lines : List ReportRow → List ℕ
report_lines rows = flat_map report_line rows
