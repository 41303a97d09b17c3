-- What `exec` makes of its files (docs/COMMANDS.md, "exec").
use Rattle.std.specs.Prelude.{◌≡◌, ℕ, List}
use Rattle.c25_isa.specs.Image.{Contents}
use Rattle.c25_image.specs.PortText.{PortText}
use Rattle.cc_check.specs.lay_cert.Frames.{Frame}
use Rattle.cc_files.specs.cc_compile.declared.fault.BuildFault.{BuildFault}
use Rattle.cc_files.specs.cc_compile.SourceFaults.{HasFault}
use Rattle.cc_files.specs.cc_compile.Compiles.{IsBuilt}
use Rattle.cc_files.specs.cc_compile.Made.{IsMade}
use Rattle.cc_answers.specs.Answers.{Answered}
use Rattle.cc_files.specs.cc_text.Refusals.{Why, OfSource}
use Rattle.cc_driver.specs.Build.{plain_options}
use Rattle.cc_driver.specs.Run.{ImageRuns, ArePortsRefused}

-- the source is compiled, and its image runs on what the port lines give
pub record ExecutesTo (source_bytes port_bytes : List ℕ) (steps : ℕ) (answer : Answered) : Type 0 where
  pub image : Contents
  pub frames : List Frame
  pub lines : List (ℕ × ℕ)
  pub built : IsBuilt plain_options source_bytes image frames
  pub made : IsMade plain_options source_bytes image frames
  pub ports : PortText port_bytes lines
  pub runs : ImageRuns image.words lines steps answer

-- the ports are refused for their format, or else the source for its first fault
pub data ExecuteRefused (ports source_bytes port_bytes : List ℕ) (why : Why) : Type 0 where
  PortsFirst : ArePortsRefused ports port_bytes why → ExecuteRefused ports source_bytes port_bytes why
  SourceThen : (lines : List (ℕ × ℕ)) → PortText port_bytes lines → (fault : BuildFault) → HasFault plain_options source_bytes fault → why ≡ OfSource fault
      → ExecuteRefused ports source_bytes port_bytes why
