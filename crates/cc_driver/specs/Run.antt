-- What `run` makes of its files (docs/COMMANDS.md, "run").
use Rattle.std.specs.Prelude.{◌≡◌, ◌≢◌, ℕ, List}
use Rattle.word_base.specs.Ports.{Outputs, input_of}
use Rattle.c25_isa.specs.declared.event.Stop.{Stop}
use Rattle.c25_isa.specs.Image.{Contents}
use Rattle.c25_isa.specs.State.{zero_start}
use Rattle.c25_isa.specs.MachineRun.{machine_run}
use Rattle.c25_sim.specs.Answers.{reached_of}
use Rattle.c25_sim.specs.Taken.{of_sixteen}
use Rattle.c25_image.specs.declared.fault.ImageFault.{ImageFault}
use Rattle.c25_image.specs.declared.fault.ImageFault.TheVariants as image_faults
use Rattle.c25_image.specs.declared.fault.PortFault.{PortFault}
use Rattle.c25_image.specs.declared.fault.PortFault.TheVariants as port_faults
use Rattle.c25_image.specs.ImageText.{image_text}
use Rattle.c25_image.specs.ImageFaults.{IsWhole, Says}
use Rattle.c25_image.specs.PortText.{PortText, PortSays}
use Rattle.cc_files.specs.cc_text.declared.refusal.FileFault.TheVariants.{Image, Ports}
use Rattle.cc_answers.specs.Answers.{Answered}
use Rattle.cc_files.specs.cc_text.Refusals.{Why, OfFile}
use Rattle.cc_answers.specs.RunText.{run_answer}
use Rattle.cc_files.specs.Fetches.{Wanted, wanted}

-- the text of an image, of at most 4,194,304 bytes
abbrev pub image_file : List ℕ → Wanted
image_file name = wanted name 4194304

-- a port file, of at most 16,777,216 bytes
abbrev pub ports_file : List ℕ → Wanted
ports_file name = wanted name 16777216

-- the bytes are the text of an image
pub record IsImageOf (contents : Contents) (bytes : List ℕ) : Type 0 where
  pub whole : IsWhole contents
  pub text : bytes ≡ image_text contents

-- from zeros and on what port lines give, the words of an image put these outputs in so many steps and stand here
abbrev pub Reaches : List ℕ → List (ℕ × ℕ) → ℕ → Outputs → Stop → Type 0
Reaches words lines steps outs stands = machine_run (zero_start words) (of_sixteen (input_of lines)) steps ≡ reached_of outs stands

-- and that is answered
pub record ImageRuns (words : List ℕ) (lines : List (ℕ × ℕ)) (steps : ℕ) (answer : Answered) : Type 0 where
  pub outs : Outputs
  pub stands : Stop
  pub runs : Reaches words lines steps outs stands
  pub is : answer ≡ run_answer steps outs stands

-- the image runs on what the port lines give
pub record RunsTo (image_bytes port_bytes : List ℕ) (steps : ℕ) (answer : Answered) : Type 0 where
  pub contents : Contents
  pub lines : List (ℕ × ℕ)
  pub image : IsImageOf contents image_bytes
  pub ports : PortText port_bytes lines
  pub runs : ImageRuns contents.words lines steps answer

-- the bytes of a port file are refused
pub record ArePortsRefused (name bytes : List ℕ) (why : Why) : Type 0 where
  pub fault : PortFault
  pub some : fault ≢ port_faults.NoMemory
  pub says : PortSays bytes fault
  pub is : why ≡ OfFile name (Ports fault)

-- and those of an image
pub record IsImageRefused (name bytes : List ℕ) (why : Why) : Type 0 where
  pub fault : ImageFault
  pub some : fault ≢ image_faults.NoMemory
  pub says : Says bytes fault
  pub is : why ≡ OfFile name (Image fault)

-- the image is refused, or else the ports
pub data RunRefused (image ports image_bytes port_bytes : List ℕ) (why : Why) : Type 0 where
  BadImage : IsImageRefused image image_bytes why → RunRefused image ports image_bytes port_bytes why
  BadPorts : (contents : Contents) → IsImageOf contents image_bytes → ArePortsRefused ports port_bytes why
      → RunRefused image ports image_bytes port_bytes why
