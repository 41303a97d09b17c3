-- What `pbuild` makes, from its parts.
use Rattle.std.proofs.Common.{◌≡◌, ◌≢◌, ◌∷◌, [], ℕ, suc, zero, List, ap, ap₂, ◌∙◌, arith, drop, length, min, refl}
use Rattle.std.specs.Prelude.{Some, string_bytes}
use Rattle.c25_isa.specs.Image.{Contents}
use Rattle.c25_image.specs.ImageText.{image_text}
use Rattle.cc_check.specs.lay_cert.Frames.{Frame}
use Rattle.cc_check.specs.lay_cert.CertText.{cert_text}
use Rattle.cc_report.specs.Profile.{profile_lines}
use Rattle.cc_files.specs.lay_profile.Recordings.{AreProfileOptions}
use Rattle.cc_files.specs.lay_profile.declared.fault.ProfileFault.{ProfileFault}
use Rattle.cc_files.specs.lay_profile.declared.fault.ProfileFault.TheVariants as faults
use Rattle.cc_files.specs.cc_text.Refusals.{OfMemory, of_profile_fault}
use Rattle.cc_words.specs.Asked.{ToPbuild}
use Rattle.cc_words.specs.Bounds.{IsWithinBounds}
use Rattle.cc_answers.specs.Answers.{Answered}
use Rattle.cc_driver.specs.declared.build.Texts.{Texts}
use Rattle.cc_files.specs.Stores.{Stored}
use Rattle.cc_driver.specs.BuildTexts.{stored_of, answer_of}
use Rattle.cc_driver.specs.Profile.{recorded_options, weighted_name, profiled_texts, profile_of, profile_rows}

pub options_fit : (source first ports image : List ℕ) (registers budget steps : ℕ) → IsWithinBounds (ToPbuild source first ports image registers budget steps)
    → AreProfileOptions (recorded_options registers budget steps)
options_fit source first ports image registers budget steps within = record { some_registers = within.0; few_registers = within.1; some_steps = within.4; few_steps = within.5 }

pub texts_same : (name : List ℕ) (texts : Texts) (image : Contents) (frames : List Frame) → texts.image.items ≡ image_text image → string_bytes texts.name ≡ weighted_name name → texts.certificate.items ≡ cert_text frames
    → stored_of name texts ≡ profiled_texts name image frames
texts_same name texts image frames first second third =
    ap (λ t. both t (string_bytes texts.name) texts.certificate.items) first ∙ ap₂ (both (image_text image)) second third
  where
    both : List ℕ → List ℕ → List ℕ → List Stored
    both image_is name_is certificate_is = record { name = name; text = image_is } ∷ record { name = name_is; text = certificate_is } ∷ []

pub answer_same : (texts : Texts) (frames : List Frame) (entered : List ℕ) → texts.report.items ≡ profile_lines (profile_rows frames entered) → answer_of texts ≡ profile_of frames entered
answer_same texts frames entered is = ap said is
  where
    said : List ℕ → Answered
    said t = record { text = Some t; status = 0 }

-- a fault that is no want of memory in its line is none at all
pub some_fault : (name : List ℕ) (fault : ProfileFault) → of_profile_fault name fault ≢ OfMemory → fault ≢ faults.NoMemory
some_fault name fault some e = some (ap (of_profile_fault name) e)

-- where the frames or the numbers end, so do the rows
pub rows_end : (frames : List Frame) (entered : List ℕ) (k : ℕ) → k ≡ min (length frames) (length entered) → profile_rows (drop k frames) (drop k entered) ≡ []
rows_end [] entered zero e = refl
rows_end [] entered (suc k) e = absurd (omega (arith, e))
rows_end (f ∷ frames) [] zero e = refl
rows_end (f ∷ frames) [] (suc k) e = absurd (omega (arith, e))
rows_end (f ∷ frames) (x ∷ entered) zero e = absurd (omega (arith, e))
rows_end (f ∷ frames) (x ∷ entered) (suc k) e = rows_end frames entered k (omega (arith, e))
