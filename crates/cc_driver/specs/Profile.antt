-- What `pbuild` makes of its files (docs/COMMANDS.md, "pbuild").
use Rattle.std.specs.Prelude.{◌≡◌, ℕ, List, [], ◌∷◌, ◌++◌, All, Some, codes}
use Rattle.c25_isa.specs.Image.{Contents}
use Rattle.c25_image.specs.ImageText.{image_text}
use Rattle.c25_image.specs.ImageFaults.{IsWhole}
use Rattle.c25_image.specs.PortText.{PortText}
use Rattle.cc_check.specs.lay_cert.Frames.{Frame}
use Rattle.cc_check.specs.lay_cert.CertText.{cert_text}
use Rattle.cc_report.specs.Profile.{profile_lines}
use Rattle.cc_report.specs.declared.profile.ProfileRow.{ProfileRow}
use Rattle.cc_files.specs.frame_layouts.Frames.{ClaimsHold}
use Rattle.cc_files.specs.frame_layouts.Rows.{is_optimal}
use Rattle.cc_files.specs.lay_profile.declared.fault.ProfileFault.{ProfileFault}
use Rattle.cc_files.specs.lay_profile.declared.options.ProfileOptions.{ProfileOptions}
use Rattle.cc_files.specs.lay_profile.Profiles.{IsProfiled, HasFault}
use Rattle.cc_files.specs.lay_profile.Recordings.{recording_of}
use Rattle.cc_answers.specs.Answers.{Answered}
use Rattle.cc_files.specs.cc_text.Refusals.{Why, of_profile_fault}
use Rattle.cc_files.specs.Stores.{Stored}
use Rattle.cc_driver.specs.Run.{IsImageOf, IsImageRefused, ArePortsRefused}

-- how layouts are searched for a run of so many steps: over so many registers, with so many nodes for each search
abbrev pub recorded_options : ℕ → ℕ → ℕ → ProfileOptions
recorded_options registers budget steps = record { registers = registers; budget = budget; steps = steps }

-- the name of the certificate of an image with this name
abbrev pub weighted_name : List ℕ → List ℕ
weighted_name image = image ++ codes ".prf"

-- the text of the image is stored, and then that of the certificate
abbrev pub profiled_texts : List ℕ → Contents → List Frame → List Stored
profiled_texts name image frames = record { name = name; text = image_text image } ∷ record { name = weighted_name name; text = cert_text frames } ∷ []

-- what is told of a frame, blocks of whose function are entered so often in all
abbrev pub profile_row : Frame → ℕ → ProfileRow
profile_row f entries = record {
  name = f.name;
  scalars = f.seq.scalars;
  registers = f.registers;
  entries = entries;
  weighted = f.cost;
  optimal = is_optimal f.claim;
}

-- a row for each function: its frame, and how often its blocks are entered
abbrev pub profile_rows : List Frame → List ℕ → List ProfileRow
profile_rows [] entered = []
profile_rows (f ∷ more) [] = []
profile_rows (f ∷ more) (entries ∷ rest) = profile_row f entries ∷ profile_rows more rest

-- a line for each function is put
abbrev pub profile_of : List Frame → List ℕ → Answered
profile_of frames entered = record { text = Some (profile_lines (profile_rows frames entered)); status = 0 }

-- the source is compiled to an image and to frames, which are laid out for a run of the recorded image on what the port lines give
pub record ProfilesTo (o : ProfileOptions) (name source_bytes image_bytes port_bytes : List ℕ) (answer : Answered) (texts : List Stored) : Type 0 where
  pub first : Contents
  pub lines : List (ℕ × ℕ)
  pub recorded : IsImageOf first image_bytes
  pub ports : PortText port_bytes lines
  pub image : Contents
  pub frames : List Frame
  pub entered : List ℕ
  pub profiled : IsProfiled o source_bytes (recording_of first lines o.steps) image frames entered
  pub claims : All ClaimsHold frames
  pub whole : IsWhole image
  pub stored : texts ≡ profiled_texts name image frames
  pub reported : answer ≡ profile_of frames entered

-- the recorded image is refused, or else the ports, or else the source or the image as that of another one
pub data ProfileRefused (o : ProfileOptions) (image ports source_bytes image_bytes port_bytes : List ℕ) (why : Why) : Type 0 where
  BadImage : IsImageRefused image image_bytes why → ProfileRefused o image ports source_bytes image_bytes port_bytes why
  BadPorts : (first : Contents) → IsImageOf first image_bytes → ArePortsRefused ports port_bytes why
      → ProfileRefused o image ports source_bytes image_bytes port_bytes why
  SourceThen : (first : Contents) (lines : List (ℕ × ℕ)) → IsImageOf first image_bytes → PortText port_bytes lines
      → (fault : ProfileFault) → HasFault o source_bytes (recording_of first lines o.steps) fault → why ≡ of_profile_fault image fault
      → ProfileRefused o image ports source_bytes image_bytes port_bytes why
