-- What `build` makes, from its parts.
use Rattle.std.proofs.Common.{◌≡◌, ◌∷◌, [], ℕ, List, ap, ap₂, map, ◌∙◌}
use Rattle.std.specs.Prelude.{Some, string_bytes}
use Rattle.c25_isa.specs.Image.{Contents}
use Rattle.c25_image.specs.ImageText.{image_text}
use Rattle.cc_check.specs.lay_cert.Frames.{Frame}
use Rattle.cc_check.specs.lay_cert.CertText.{cert_text}
use Rattle.cc_report.specs.Report.{report_lines}
use Rattle.cc_files.specs.frame_layouts.Frames.{AreOptions}
use Rattle.cc_files.specs.frame_layouts.Rows.{row_of}
use Rattle.cc_words.specs.Asked.{ToBuild}
use Rattle.cc_words.specs.Bounds.{IsWithinBounds}
use Rattle.cc_answers.specs.Answers.{Answered}
use Rattle.cc_driver.specs.declared.build.Texts.{Texts}
use Rattle.cc_files.specs.Stores.{Stored}
use Rattle.cc_driver.specs.Build.{chosen_options, certificate_name, built_texts, report_of}
use Rattle.cc_driver.specs.BuildTexts.{stored_of, answer_of}

pub options_fit : (source image : List ℕ) (registers budget step : ℕ) → IsWithinBounds (ToBuild source image registers budget step) → AreOptions (chosen_options registers budget step)
options_fit source image registers budget step within = record { some_registers = within.0; few_registers = within.1; from_one = within.4; to_eight = within.5 }

pub texts_same : (name : List ℕ) (texts : Texts) (image : Contents) (frames : List Frame) → texts.image.items ≡ image_text image → string_bytes texts.name ≡ certificate_name name → texts.certificate.items ≡ cert_text frames
    → stored_of name texts ≡ built_texts name image frames
texts_same name texts image frames first second third =
    ap (λ t. both t (string_bytes texts.name) texts.certificate.items) first ∙ ap₂ (both (image_text image)) second third
  where
    both : List ℕ → List ℕ → List ℕ → List Stored
    both image_is name_is certificate_is = record { name = name; text = image_is } ∷ record { name = name_is; text = certificate_is } ∷ []

pub answer_same : (texts : Texts) (frames : List Frame) → texts.report.items ≡ report_lines (map row_of frames) → answer_of texts ≡ report_of frames
answer_same texts frames is = ap said is
  where
    said : List ℕ → Answered
    said t = record { text = Some t; status = 0 }
