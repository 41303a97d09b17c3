-- What `check` makes of its files (docs/COMMANDS.md, "check").
use Rattle.std.specs.Prelude.{◌≡◌, ◌≢◌, ℕ, List, All, Some, if◌then◌else◌}
use Rattle.c25_isa.specs.Image.{Contents}
use Rattle.cc_check.specs.lay_cert.Frames.{Frame}
use Rattle.cc_check.specs.lay_cert.CertReading.{Reads, Says}
use Rattle.cc_check.specs.lay_cert.declared.fault.CertFault.{CertFault}
use Rattle.cc_check.specs.lay_cert.declared.fault.CertFault.TheVariants as certificate_faults
use Rattle.cc_check.specs.CheckText.{check_text, all_pass}
use Rattle.cc_check.specs.Checks.{OptimalHolds}
use Rattle.cc_files.specs.cc_text.declared.refusal.FileFault.TheVariants.{Certificate}
use Rattle.cc_answers.specs.Answers.{Answered}
use Rattle.cc_files.specs.cc_text.Refusals.{Why, OfFile}
use Rattle.cc_files.specs.Fetches.{Wanted, wanted}
use Rattle.cc_driver.specs.Run.{IsImageOf, IsImageRefused}

-- the text of a certificate, of at most 536,870,912 bytes
abbrev pub certificate_file : List ℕ → Wanted
certificate_file name = wanted name 536870912

-- the lines of the check are put, with 8 where a frame's line is that of a failed test
abbrev pub check_answer : Contents → List Frame → Answered
check_answer image frames = record { text = Some (check_text image frames); status = if all_pass image frames then 0 else 8 }

-- the frames of the certificate are checked against the image. Of each one that is found to be optimal, the words of its function access what it says with as many
-- address instructions as it costs, and no layout costs less
pub record ChecksTo (image_bytes certificate_bytes : List ℕ) (answer : Answered) : Type 0 where
  pub contents : Contents
  pub frames : List Frame
  pub image : IsImageOf contents image_bytes
  pub reads : Reads certificate_bytes frames
  pub is : answer ≡ check_answer contents frames
  pub optimal : All (OptimalHolds contents) frames

-- the bytes of a certificate are refused
pub record IsCertificateRefused (name bytes : List ℕ) (why : Why) : Type 0 where
  pub fault : CertFault
  pub some : fault ≢ certificate_faults.NoMemory
  pub says : Says bytes fault
  pub is : why ≡ OfFile name (Certificate fault)

-- the image is refused, or else the certificate
pub data CheckRefused (image certificate image_bytes certificate_bytes : List ℕ) (why : Why) : Type 0 where
  BadImage : IsImageRefused image image_bytes why → CheckRefused image certificate image_bytes certificate_bytes why
  BadCertificate : (contents : Contents) → IsImageOf contents image_bytes → IsCertificateRefused certificate certificate_bytes why
      → CheckRefused image certificate image_bytes certificate_bytes why
