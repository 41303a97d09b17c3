-- The lines of a report on layouts for a recorded run (docs/FORMATS.md, "Reports").
use Rattle.std.specs.Prelude.{ℕ, List, [], ◌∷◌, ◌++◌, codes}
use Rattle.std.specs.List.{flat_map}
use Rattle.cc_report.specs.Report.{claim, count}
use Rattle.cc_report.specs.declared.profile.ProfileRow.{ProfileRow}

-- the four numbers of a function
abbrev pub profile_counts : ProfileRow → List ℕ
profile_counts r = count r.scalars (codes " scalars, ")
    ++ (count r.registers (codes " registers, ") ++ (count r.entries (codes " entries, ") ++ count r.weighted (codes " weighted, ")))

-- the line of a function, with its line feed
abbrev pub profile_line : ProfileRow → List ℕ
profile_line r = r.name ++ (codes ": " ++ (profile_counts r ++ (claim r.optimal ++ 10 ∷ [])))

-- a line for each row, in order
abbrev pub profile_lines : List ProfileRow → List ℕ
profile_lines rows = flat_map profile_line rows
