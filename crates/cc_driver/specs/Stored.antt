-- What commands make of the texts that `build` stored.
use Rattle.std.specs.Prelude.{◌≡◌, ℕ, List, [], ◌∷◌, ◌++◌, map, Some, decimal}
use Rattle.std.specs.List.{flat_map}
use Rattle.cc_check.specs.CheckText.{line_of}
use Rattle.cc_check.specs.lay_cert.Frames.{Frame}
use Rattle.cc_report.specs.Report.{claim, report_lines}
use Rattle.cc_report.specs.declared.report.ReportRow.{ReportRow}
use Rattle.cc_answers.specs.Answers.{Answered}
use Rattle.cc_files.specs.frame_layouts.Rows.{row_of}
use Rattle.cc_files.specs.Stores.{Stored}
use Rattle.cc_driver.specs.Build.{certificate_name}

-- an image and its certificate, as they are stored
abbrev pub image_and_certificate : List ℕ → List ℕ → List ℕ → List Stored
image_and_certificate name image certificate = record { name = name; text = image } ∷ record { name = certificate_name name; text = certificate } ∷ []

-- what a check says of the function of a row: that it takes so many address instructions, and whether no layout takes fewer or it is the best one that was found
abbrev pub checked_line : ReportRow → List ℕ
checked_line r = line_of r.name (claim r.optimal ++ 32 ∷ decimal r.cost)

-- a report has a row for each frame, in order, and a check passes and says of each frame, in order, what its row says
pub record ChecksAsReported (frames : List Frame) (reported checked : Answered) : Type 0 where
  pub reports : reported ≡ record { text = Some (report_lines (map row_of frames)); status = 0 }
  pub checks : checked ≡ record { text = Some (flat_map checked_line (map row_of frames)); status = 0 }
